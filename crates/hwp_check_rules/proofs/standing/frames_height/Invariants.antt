use Rattle.std.proofs.Common.{◌≡◌, take}
use Rattle.std.specs.List.{sum_by}
use Rattle.hwp_check_rules.specs.Standing.{frame_height}
use Rattle.hwp_check_rules.proofs.standing.frames_height.Given as goal

abbrev pub invariant-loop-frame : goal.invariant-loop-frame
invariant-loop-frame l = l.lines ≡ sum_by frame_height (take l.frame-index l.fn.frames)
