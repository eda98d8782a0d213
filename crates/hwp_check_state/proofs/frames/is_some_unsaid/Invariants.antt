use Rattle.std.proofs.Common.{◌≡◌, drop}
use Rattle.hwp_check_state.specs.Frames.{is_unsaid_from}
use Rattle.hwp_check_state.proofs.frames.is_some_unsaid.Given as goal

abbrev pub invariant-loop-number : goal.invariant-loop-number
invariant-loop-number l = is_unsaid_from l.number (drop l.number l.fn.cached) l.fn.frames ≡ is_unsaid_from 0 l.fn.cached l.fn.frames
