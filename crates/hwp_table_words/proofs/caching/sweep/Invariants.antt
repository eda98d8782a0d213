use Rattle.std.proofs.Common.{◌≡◌, ◌≤◌}
use Rattle.hwp_table_words.specs.tlb.Caching.{upto_of}
use Rattle.hwp_table_words.specs.CacheCounts.{told_counts}
use Rattle.hwp_table_words.specs.Caches.{IsSweptOn}
use Rattle.hwp_table_words.proofs.caching.sweep.Given as goal

abbrev pub invariant-loop-place : goal.invariant-loop-place
invariant-loop-place g l = record {
  same : l.seat.table_id ≡ l.fn.seat.table_id;
  rest : IsSweptOn l.fn.seat.me l.seat.me;
  upto : l.place ≤ upto_of l.fn.frame.0 l.seat.me.0.caching.cleared;
  counts : l.counts ≡ told_counts l.seat.me.0.caching.counts;
}
