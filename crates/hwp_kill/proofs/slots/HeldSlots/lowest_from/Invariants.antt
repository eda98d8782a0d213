use Rattle.std.proofs.Common.{◌-◌, ◌*◌, ◌≤◌}
use Rattle.hwp_kill.specs.Members.{behind}
use Rattle.hwp_kill.proofs.Search.{SearchedTo}
use Rattle.hwp_kill.proofs.slots.HeldSlots.lowest_from.Given as goal

abbrev pub invariant-loop-at : goal.invariant-loop-at
invariant-loop-at l = SearchedTo (behind l.self-inside.first l.self-inside.words.items) l.fn.slot.0 l.at × (l.first * 64 ≤ l.at)

abbrev pub decreases-loop-at : goal.decreases-loop-at
decreases-loop-at l = l.end - l.at
