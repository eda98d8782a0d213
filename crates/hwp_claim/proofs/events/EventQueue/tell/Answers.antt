use Rattle.std.proofs.Common.{rules, ◌≤◌, length}
use Rattle.hwp_claim.proofs.QueueTells.{next-told}
use Rattle.hwp_claim.proofs.events.EventQueue.tell.Goals as goal

pub returns : goal.returns
returns c =
    let few : c.self.inside.count ≤ length c.self.inside.told = search rules in
    next-told c.self.inside.told c.self.inside.held c.self.inside.count c.self.inside.taken c.args.told c.args.self.now c.self.view_is c.requires few
