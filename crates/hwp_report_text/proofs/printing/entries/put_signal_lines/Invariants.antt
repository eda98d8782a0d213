use Rattle.std.proofs.Common.{◌≡◌, ◌++◌, string_bytes, take}
use Rattle.std.specs.List.{flat_map}
use Rattle.std.specs.Prelude.{map}
use Rattle.hwp_page.specs.hwp_geom.Words.{line}
use Rattle.hwp_report_text.specs.ReportText.{signal_words}
use Rattle.hwp_report_text.proofs.printing.entries.put_signal_lines.Given as goal

abbrev pub invariant-loop-signal : goal.invariant-loop-signal
invariant-loop-signal l = string_bytes l.out ≡ string_bytes l.fn.out ++ flat_map line (map signal_words (take l.signal-index l.lines))
