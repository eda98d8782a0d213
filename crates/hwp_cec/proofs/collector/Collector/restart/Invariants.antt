use Rattle.std.proofs.Common.{◌≡◌, ◌++◌, replicate, drop}
use Rattle.hwp_cec.proofs.collector.Collector.restart.Given as goal

abbrev pub invariant-loop-ring : goal.invariant-loop-ring
invariant-loop-ring l = l.ring-items ≡ replicate l.ring-index (replicate l.fn.window 0) ++ drop l.ring-index l.fn.self.counts
