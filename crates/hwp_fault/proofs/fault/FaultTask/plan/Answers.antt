use Rattle.hwp_fault.proofs.fault.FaultTask.plan.Goals as goal
use Rattle.hwp_fault.proofs.FaultRoom.{kill-planned}

pub returns-in-Kill : goal.returns-in-Kill
returns-in-Kill c = kill-planned c.args.self.now c.in-Kill.frame c.in-Kill.body c.in-Kill.at c.of.result c.in-Kill.is c.of.ensures
