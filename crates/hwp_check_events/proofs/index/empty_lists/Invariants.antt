use Rattle.std.proofs.Common.{◌≡◌, [], replicate}
use Rattle.hwp_check_events.proofs.index.empty_lists.Given as goal

abbrev pub invariant-loop-number : goal.invariant-loop-number
invariant-loop-number l = l.lists.items ≡ replicate l.number []
