use Rattle.std.proofs.Common.{◌≡◌, ◌++◌, map, take, drop}
use Rattle.hwp_cec.specs.Counters.{next_row}
use Rattle.hwp_cec.proofs.collector.Collector.round.Given as goal

abbrev pub invariant-loop-ring : goal.invariant-loop-ring
invariant-loop-ring l = l.ring-items ≡ map next_row (take l.ring-index l.fn.self.counts) ++ drop l.ring-index l.fn.self.counts
