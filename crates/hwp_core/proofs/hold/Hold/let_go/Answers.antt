use Rattle.hwp_core.proofs.hold.Hold.let_go.Goals as goal
use Rattle.hwp_core.proofs.HoldEnds.{over-lets-go}

pub returns : goal.returns
returns c = over-lets-go c.args.self c.new.result c.in-Held.frame c.in-Held.body c.in-Held.is c.new.ensures
