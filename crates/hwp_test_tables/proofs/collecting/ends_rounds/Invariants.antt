use Rattle.std.proofs.Common.{◌≡◌, length}
use Rattle.hwp_test_tables.proofs.collecting.ends_rounds.Given as goal

abbrev pub invariant-loop : goal.invariant-loop
invariant-loop l = length l.collector.counts ≡ 2
