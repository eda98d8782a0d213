use Rattle.hwp_kill.proofs.Search.{tells-empty}
use Rattle.hwp_kill.proofs.slots.HeldSlots.is_empty.Goals as goal

pub returns : goal.returns
returns c = tells-empty c.args.self.now c.lowest_from.result c.is_none.result c.lowest_from.ensures.lowest c.is_none.ensures
