use Rattle.std.proofs.Common.{sym}
use Rattle.hwp_check_evidence.proofs.GlanceLaws.{held-found}
use Rattle.hwp_check_evidence.proofs.glances.is_used.Goals as goal

pub returns : goal.returns
returns c = held-found c.args.slots.now c.lowest_from.result c.is_some.result c.lowest_from.ensures.lowest (sym c.is_some.ensures)
