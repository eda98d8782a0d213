use Rattle.std.proofs.Common.{◌≡◌, take, ◌≤◌}
use Rattle.hwp_report.specs.Counts.{without_frame_in}
use Rattle.hwp_report.proofs.counting.without_frame_in.Given as goal

abbrev pub invariant-loop-row : goal.invariant-loop-row
invariant-loop-row l = (l.count ≡ without_frame_in (take l.row-index l.fn.rows)) × (l.count ≤ l.row-index)
