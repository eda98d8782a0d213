use Rattle.std.proofs.Common.{◌≡◌, ◌++◌, string_bytes, take}
use Rattle.std.specs.List.{flat_map}
use Rattle.std.specs.Prelude.{map}
use Rattle.hwp_page.specs.hwp_geom.Words.{line}
use Rattle.hwp_report_text.specs.ReportText.{mark_words}
use Rattle.hwp_report_text.proofs.printing.put_marks.Given as goal

abbrev pub invariant-loop-mark : goal.invariant-loop-mark
invariant-loop-mark l = string_bytes l.out ≡ string_bytes l.fn.out ++ flat_map line (map mark_words (take l.mark-index l.marks))
