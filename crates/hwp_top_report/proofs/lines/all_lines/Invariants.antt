use Rattle.std.proofs.Common.{◌≡◌, take}
use Rattle.hwp_top_report.specs.Closing.{lines_of_all}
use Rattle.hwp_top_report.proofs.lines.all_lines.Given as goal

abbrev pub invariant-loop-cpu : goal.invariant-loop-cpu
invariant-loop-cpu l = l.cpus.items ≡ lines_of_all (take l.cpu l.fn.rows)
