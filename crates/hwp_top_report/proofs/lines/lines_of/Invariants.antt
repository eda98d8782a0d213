use Rattle.std.proofs.Common.{◌≡◌, take}
use Rattle.hwp_law_served.specs.Rows.{lines_from}
use Rattle.hwp_top_report.proofs.lines.lines_of.Given as goal

abbrev pub invariant-loop-number : goal.invariant-loop-number
invariant-loop-number l = l.lines.items ≡ lines_from 0 (take l.number l.fn.rows)
