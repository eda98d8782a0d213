use Rattle.std.proofs.Common.{◌≡◌, Some, length, slice_get}
use Rattle.hwp_law.specs.hwp_geom.declared.Thread.{Thread}
use Rattle.hwp_check_rules.specs.declared.pasts.ThreadPolicies.{ThreadPolicies}
use Rattle.hwp_check_rules.specs.Pasts.{IsPast}
use Rattle.hwp_check_rules.proofs.pasts.pasts_of.Given as goal

abbrev pub invariant-loop-number : goal.invariant-loop-number
invariant-loop-number l =
    (length l.pasts.items ≡ l.number)
    × ((thread : Thread) (past : ThreadPolicies) → slice_get l.pasts.items thread.0 ≡ Some past → IsPast l.fn.script l.fn.report thread past)
