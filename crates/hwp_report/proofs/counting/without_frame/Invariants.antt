use Rattle.std.proofs.Common.{◌≡◌, take, sum_by}
use Rattle.hwp_report.specs.Counts.{capped, without_frame_in}
use Rattle.hwp_report.proofs.counting.without_frame.Given as goal

abbrev pub invariant-loop-rows : goal.invariant-loop-rows
invariant-loop-rows l = l.sum ≡ capped (sum_by without_frame_in (take l.rows-index l.fn.cpus))
