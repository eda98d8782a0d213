use Rattle.std.proofs.Common.{◌-◌}
use Rattle.hwp_kill.specs.declared.slots.TheConstants.{SLOTS}
use Rattle.hwp_kill.proofs.Search.{SearchedTo}
use Rattle.hwp_kill.proofs.slots.Slots.lowest_from.Given as goal

abbrev pub invariant-loop-at : goal.invariant-loop-at
invariant-loop-at l = SearchedTo l.self-inside.words l.fn.slot.0 l.at

abbrev pub decreases-loop-at : goal.decreases-loop-at
decreases-loop-at l = SLOTS - l.at
