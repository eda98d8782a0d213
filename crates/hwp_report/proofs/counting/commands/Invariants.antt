use Rattle.std.proofs.Common.{◌≡◌, take, sum_by}
use Rattle.hwp_report.specs.Counts.{answers_in, capped}
use Rattle.hwp_report.proofs.counting.commands.Given as goal

abbrev pub invariant-loop-rows : goal.invariant-loop-rows
invariant-loop-rows l = l.sum ≡ capped (sum_by answers_in (take l.rows-index l.fn.cpus))
