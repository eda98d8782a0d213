use Rattle.hwp_check_state.specs.Handles.{IsFirst, IsLostWrong}
use Rattle.hwp_check_state.proofs.losses.lost_fault.Given as goal

abbrev pub invariant-loop-file : goal.invariant-loop-file
invariant-loop-file l = IsFirst (IsLostWrong l.fn.script l.fn.report l.file) l.found
