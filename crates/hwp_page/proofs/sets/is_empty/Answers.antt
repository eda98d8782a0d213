use Rattle.hwp_page.proofs.SetUnion.{is_empty_is}
use Rattle.hwp_page.proofs.sets.is_empty.Goals as goal

pub returns : goal.returns
returns c = is_empty_is c.args.slots.now c.lowest_from.result c.is_none.result c.lowest_from.ensures.lowest c.is_none.ensures
