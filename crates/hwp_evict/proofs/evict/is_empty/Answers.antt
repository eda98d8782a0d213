use Rattle.hwp_core.proofs.of_hwp_kill.Search.{tells-empty}
use Rattle.hwp_evict.proofs.evict.is_empty.Goals as goal

pub returns : goal.returns
returns c = tells-empty c.args.slots.now c.lowest_from.result c.is_none.result c.lowest_from.ensures.lowest c.is_none.ensures
