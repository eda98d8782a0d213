use Rattle.hwp_fault.proofs.fault.Fault.refuse.Goals as goal
use Rattle.hwp_fault.proofs.FaultRoom.{refused-so}

pub returns-in-Ok : goal.returns-in-Ok
returns-in-Ok c = refused-so c.args.layout.now c.args.self.now.who c.args.self.now.page c.args.self.now.slot c.args.self.now.touch c.args.frame c.args.body c.room.new.self c.enter.new.body c.len.result c.after_refusal.result
    c.in-Ok.ensures.ok c.len.ensures c.enter.ensures c.after_refusal.ensures
