use Rattle.std.proofs.Common.{◌≡◌, ◌++◌, string_bytes, take}
use Rattle.std.specs.List.{flat_map}
use Rattle.hwp_page.specs.hwp_geom.Words.{line}
use Rattle.hwp_report_text.specs.ReportText.{numbered, cpu_lines}
use Rattle.hwp_report_text.proofs.printing.put_cpus.Given as goal

abbrev pub invariant-loop-number : goal.invariant-loop-number
invariant-loop-number l = string_bytes l.out ≡ string_bytes l.fn.out ++ flat_map line (numbered cpu_lines 0 (take l.number l.cpus))
