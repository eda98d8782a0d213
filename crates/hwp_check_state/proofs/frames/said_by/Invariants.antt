use Rattle.std.proofs.Common.{◌≡◌, take}
use Rattle.hwp_check_state.specs.Frames.{said_by}
use Rattle.hwp_check_state.proofs.frames.said_by.Given as goal

abbrev pub invariant-loop-frame : goal.invariant-loop-frame
invariant-loop-frame l = l.said.items ≡ said_by l.fn.pages (take l.frame-index l.fn.frames)
