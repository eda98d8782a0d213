use Rattle.std.proofs.Common.{◌≡◌, ℕ, ◌*◌, ◌<◌, ◌≤◌, Some, slice_get}
use Rattle.hwp_table_words.specs.tlb.Caching.{upto_of}
use Rattle.hwp_table_words.specs.CacheCounts.{told_counts}
use Rattle.hwp_table_words.specs.Caches.{IsSweptOn}
use Rattle.hwp_table_words.proofs.caching.sweep_all.Given as goal

abbrev pub invariant-loop-slot : goal.invariant-loop-slot
invariant-loop-slot g l = record {
  same : l.seat.table_id ≡ l.fn.seat.table_id;
  rest : IsSweptOn l.fn.seat.me l.seat.me;
  swept : (j f : ℕ) → j < l.slot-index → slice_get l.fn.order j ≡ Some f → f < l.fn.layout.frames → g.W.Ways.ways * l.fn.layout.cpus ≤ upto_of f l.seat.me.0.caching.cleared;
  counts : l.counts ≡ told_counts l.seat.me.0.caching.counts;
}
