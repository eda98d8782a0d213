use Rattle.std.proofs.Common.{◌≡◌, ℕ, ◌<◌, Bool, true, Some, slice_get}
use Rattle.hwp_check_answers.proofs.placing.first_unset.Given as goal

abbrev pub invariant-loop-number : goal.invariant-loop-number
invariant-loop-number l = (i : ℕ) (flag : Bool) → i < l.number → slice_get l.fn.flags i ≡ Some flag → flag ≡ true
