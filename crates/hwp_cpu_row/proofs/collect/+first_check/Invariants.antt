use Rattle.std.proofs.Common.{length}
use Rattle.hwp_cpu_row.proofs.collect.+first_check.Given as goal

abbrev pub decreases-first_check : goal.decreases-first_check
decreases-first_check l = length l.told.now
