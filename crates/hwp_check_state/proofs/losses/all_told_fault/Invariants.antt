use Rattle.hwp_check_state.specs.Handles.{IsFirst, IsToldWrongBy}
use Rattle.hwp_check_state.proofs.losses.all_told_fault.Given as goal

abbrev pub invariant-loop-number : goal.invariant-loop-number
invariant-loop-number l = IsFirst (IsToldWrongBy l.fn.script l.fn.report l.number) l.found
