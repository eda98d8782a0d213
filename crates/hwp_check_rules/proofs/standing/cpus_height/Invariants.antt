use Rattle.std.proofs.Common.{◌≡◌, take}
use Rattle.std.specs.List.{sum_by}
use Rattle.hwp_check_rules.specs.Standing.{cpu_height}
use Rattle.hwp_check_rules.proofs.standing.cpus_height.Given as goal

abbrev pub invariant-loop-rows : goal.invariant-loop-rows
invariant-loop-rows l = l.lines ≡ sum_by cpu_height (take l.rows-index l.fn.cpus)
