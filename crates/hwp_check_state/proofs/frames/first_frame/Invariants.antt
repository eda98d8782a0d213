use Rattle.std.proofs.Common.{◌≡◌, length, take}
use Rattle.hwp_check_state.specs.Frames.{AreRight, said_by}
use Rattle.hwp_check_state.proofs.frames.first_frame.Given as goal

abbrev pub invariant-loop-at : goal.invariant-loop-at
invariant-loop-at l = AreRight l.fn.script l.fn.report l.fn.done l.fn.cached l.at × (l.said.items ≡ said_by (length l.fn.cached) (take l.at l.fn.report.frames))
