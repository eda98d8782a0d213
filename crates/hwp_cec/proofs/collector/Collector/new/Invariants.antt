use Rattle.std.proofs.Common.{◌≡◌, ◌≤◌, replicate, vec_capacity}
use Rattle.hwp_cec.proofs.collector.Collector.new.Given as goal

abbrev pub invariant-loop : goal.invariant-loop
invariant-loop l = record {
  room : l.fn.frames ≤ vec_capacity l.rings;
  made : l.rings.items ≡ replicate l.counter (replicate l.fn.window 0);
}
