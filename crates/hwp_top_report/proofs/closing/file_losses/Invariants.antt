use Rattle.std.proofs.Common.{◌≡◌, take}
use Rattle.hwp_plain.specs.hwp_core_rule.Words.{words_of}
use Rattle.hwp_top_report.proofs.closing.file_losses.Given as goal

abbrev pub invariant-loop-file : goal.invariant-loop-file
invariant-loop-file l = l.files.items ≡ take l.file (words_of l.fn.layout l.fn.words).losses
