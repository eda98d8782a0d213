use Rattle.std.proofs.Common.{arith}
use Rattle.hwp_kill.proofs.Membership.{members-marked}
use Rattle.hwp_kill.proofs.slots.Slots.insert.Goals as goal

pub returns-then-from-at : goal.returns-then-from-at
returns-then-from-at c =
    let more = members-marked c.self.inside.words c.from-at.result (omega arith) in
    cc (more, c.self.view_is, c.from-at.ensures)

pub returns-else-from-at : goal.returns-else-from-at
returns-else-from-at c =
    let more = members-marked c.self.inside.words c.from-at.result (omega arith) in
    cc (more, c.self.view_is, c.from-at.ensures)
