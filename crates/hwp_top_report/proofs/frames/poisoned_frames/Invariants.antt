use Rattle.std.proofs.Common.{◌≡◌, ◌≤◌, take}
use Rattle.std.specs.List.{sum_by}
use Rattle.hwp_plain.specs.hwp_words.Frames.{poison_of}
use Rattle.hwp_plain.specs.hwp_core_rule.Words.{words_of}
use Rattle.hwp_top_report.proofs.frames.poisoned_frames.Given as goal

abbrev pub invariant-loop-frame : goal.invariant-loop-frame
invariant-loop-frame l = (l.count ≡ sum_by poison_of (take l.frame (words_of l.fn.layout l.fn.words).frames)) × (l.count ≤ l.frame)
