use Rattle.std.proofs.Common.{take}
use Rattle.hwp_check_frames.specs.Collecting.{AreTaken}
use Rattle.hwp_check_frames.proofs.collecting.take_out.Given as goal

abbrev pub invariant-loop-frame : goal.invariant-loop-frame
invariant-loop-frame l = AreTaken l.fn.collector l.collector (take l.frame-index l.fn.notes) l.frames
