use Rattle.std.proofs.Common.{◌≡◌, drop}
use Rattle.hwp_check_rules.specs.Faults.{first_free}
use Rattle.hwp_check_state.proofs.frames.first_free.Given as goal

abbrev pub invariant-loop-at : goal.invariant-loop-at
invariant-loop-at l = first_free l.at (drop l.at l.fn.frames) ≡ first_free 0 l.fn.frames
