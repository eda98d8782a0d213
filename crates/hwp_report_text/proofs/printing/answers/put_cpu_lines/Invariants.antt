use Rattle.std.proofs.Common.{◌≡◌, ◌++◌, string_bytes, take}
use Rattle.std.specs.List.{flat_map}
use Rattle.std.specs.Prelude.{map}
use Rattle.hwp_page.specs.hwp_geom.Words.{line}
use Rattle.hwp_report_text.specs.ReportText.{cpu_line_words}
use Rattle.hwp_report_text.proofs.printing.answers.put_cpu_lines.Given as goal

abbrev pub invariant-loop-item : goal.invariant-loop-item
invariant-loop-item l = string_bytes l.out ≡ string_bytes l.fn.out ++ flat_map line (map cpu_line_words (take l.item-index l.lines))
