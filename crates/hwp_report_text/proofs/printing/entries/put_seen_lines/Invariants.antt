use Rattle.std.proofs.Common.{◌≡◌, ◌++◌, string_bytes, take}
use Rattle.std.specs.List.{flat_map}
use Rattle.std.specs.Prelude.{map}
use Rattle.hwp_page.specs.hwp_geom.Words.{line}
use Rattle.hwp_report_text.specs.ReportText.{seen_words}
use Rattle.hwp_report_text.proofs.printing.entries.put_seen_lines.Given as goal

abbrev pub invariant-loop-seen : goal.invariant-loop-seen
invariant-loop-seen l = string_bytes l.out ≡ string_bytes l.fn.out ++ flat_map line (map seen_words (take l.seen-index l.lines))
