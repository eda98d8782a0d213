use Rattle.hwp_check_frames.proofs.RecordLaws.{KeptBelow}
use Rattle.hwp_check_frames.proofs.frames.kept.Given as goal

abbrev pub invariant-loop-frame : goal.invariant-loop-frame
invariant-loop-frame l = KeptBelow l.fn.script l.fn.report l.frame l.heading
