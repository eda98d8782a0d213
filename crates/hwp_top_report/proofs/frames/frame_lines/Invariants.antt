use Rattle.hwp_plain.specs.hwp_core_rule.Words.{words_of}
use Rattle.hwp_top_report.specs.Closing.{AreLinesBy}
use Rattle.hwp_top_report.proofs.frames.frame_lines.Given as goal

abbrev pub invariant-loop-frame : goal.invariant-loop-frame
invariant-loop-frame l = AreLinesBy (words_of l.fn.layout l.fn.words) l.fn.notes l.frame l.lines.items
