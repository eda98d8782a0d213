use Rattle.std.proofs.Common.{◌≡◌, length}
use Rattle.hwp_test_tables.proofs.collecting.answers.Given as goal

abbrev pub invariant-loop-step : goal.invariant-loop-step
invariant-loop-step g l = length l.collector.counts ≡ 2
