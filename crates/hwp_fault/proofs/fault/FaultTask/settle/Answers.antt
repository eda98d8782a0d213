use Rattle.hwp_fault.proofs.fault.FaultTask.settle.Goals as goal
use Rattle.hwp_fault.proofs.FaultRoom.{follows}

pub returns : goal.returns
returns c = follows c.args.layout.now c.args.self.now c.settled.new.self c.args.found c.args.body c.settled.result c.settled.ensures.at c.settled.ensures.rest
