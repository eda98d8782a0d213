use Rattle.hwp_fault.proofs.fault.Fault.with_room.Goals as goal
use Rattle.hwp_fault.proofs.FaultRoom.{fills-up, maps-in}

pub returns-in-Some : goal.returns-in-Some
returns-in-Some c = maps-in c.args.who c.args.page c.args.slot c.args.frame c.args.body c.room.new.self c.in-Ok.ensures.ok c.in-Some.frame c.new.result c.in-Some.is c.new.ensures

pub returns-in-None : goal.returns-in-None
returns-in-None c = fills-up c.args.who c.args.page c.args.slot c.args.frame c.args.body c.room.new.self c.in-Ok.ensures.ok c.new-in-None.result c.in-None.is c.new-in-None.ensures
