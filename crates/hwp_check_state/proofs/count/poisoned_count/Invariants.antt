use Rattle.std.proofs.Common.{◌≡◌, ◌≤◌, take}
use Rattle.hwp_check_rules.specs.hwp_law.Frames.{poisoned_count}
use Rattle.hwp_check_state.proofs.count.poisoned_count.Given as goal

abbrev pub invariant-loop-frame : goal.invariant-loop-frame
invariant-loop-frame l = (l.count ≡ poisoned_count (take l.frame-index l.fn.frames)) × (l.count ≤ l.frame-index)
