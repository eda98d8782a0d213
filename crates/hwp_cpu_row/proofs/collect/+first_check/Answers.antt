use Rattle.std.proofs.Common.{arith}
use Rattle.hwp_cpu_row.proofs.DueLaws.{one-check}
use Rattle.hwp_cpu_row.proofs.collect.+first_check.Goals as goal

pub returns-in-len1-up-clause-count : goal.returns-in-len1-up-clause-count
returns-in-len1-up-clause-count t c = let least = c.in-len1-up.len_at_least in let below = c.in-len1-up.len_below in one-check c.args.told.now (omega (arith, least, below))
