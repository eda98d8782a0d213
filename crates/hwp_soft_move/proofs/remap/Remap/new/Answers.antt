use Rattle.hwp_soft_move.proofs.RemapTurns.{begins}
use Rattle.hwp_soft_move.proofs.remap.Remap.new.Goals as goal

pub returns : goal.returns
returns c = begins c.args.who c.args.page c.args.from c.args.to c.args.slots.now c.args.count c.of.result c.lowest_from-next.result c.of.ensures c.lowest_from-next.ensures.lowest c.lowest_from-next.ensures.below
