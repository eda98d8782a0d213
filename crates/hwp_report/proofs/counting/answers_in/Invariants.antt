use Rattle.std.proofs.Common.{◌≡◌, take, ◌≤◌}
use Rattle.hwp_report.specs.Counts.{answers_in}
use Rattle.hwp_report.proofs.counting.answers_in.Given as goal

abbrev pub invariant-loop-row : goal.invariant-loop-row
invariant-loop-row l = (l.count ≡ answers_in (take l.row-index l.fn.rows)) × (l.count ≤ l.row-index)
