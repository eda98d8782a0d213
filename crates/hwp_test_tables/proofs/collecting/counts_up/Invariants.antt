use Rattle.std.proofs.Common.{◌≡◌, length}
use Rattle.hwp_test_tables.proofs.collecting.counts_up.Given as goal

abbrev pub invariant-loop-before : goal.invariant-loop-before
invariant-loop-before g l = length l.collector.counts ≡ 2
