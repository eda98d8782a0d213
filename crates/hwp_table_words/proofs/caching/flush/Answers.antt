use Rattle.std.proofs.Common.{◌≡◌, ◌+◌, ◌-◌, ◌^◌, ◌==◌, min, refl, sym, ap, ◌∙◌}
use Rattle.std.specs.Int.{from_bool}
use Rattle.hwp_table_words.specs.CacheCounts.{capped, told_counts}
use Rattle.hwp_table_words.specs.Stands.{Me}
use Rattle.hwp_table_words.proofs.EntryAsks.{entry-of}
use Rattle.hwp_table_words.proofs.Sweeps.{one-more}
use Rattle.hwp_table_words.proofs.caching.flush.Goals as goal

pub flush_as-found-requires-clause-entry : goal.flush_as-found-requires-clause-entry
flush_as-found-requires-clause-entry g c = (entry-of c.requires.at c.entry_at-word.ensures c.requires.inside, refl)

pub flush_as-found-requires-clause-seen : goal.flush_as-found-requires-clause-seen
flush_as-found-requires-clause-seen g c = refl

pub flush_as-found-requires-clause-can : goal.flush_as-found-requires-clause-can
flush_as-found-requires-clause-can g c = c.requires.can

pub returns-clause-flushed : goal.returns-clause-flushed
returns-clause-flushed g c = (c.flush_as-found.result, c.flush_as-found.ensures.flushed.1)

pub returns-clause-counts : goal.returns-clause-counts
returns-clause-counts g c =
    let more : c.saturating_add-counts.result ≡ capped (c.args.seat.now.me.0.caching.counts.flushes + from_bool (c.flush_as-found.result == c.args.seen)) =
    c.saturating_add-counts.ensures ∙ (λ i. min ((c.requires.counts i).flushes + c.from.ensures i) (2 ^ 64 - 1)) ∙ one-more c.args.seat.now.me.0.caching.counts.flushes (from_bool (c.flush_as-found.result == c.args.seen)) in
    (λ i. record { hits = (c.requires.counts i).hits; fills = (c.requires.counts i).fills; flushes = more i }) ∙ sym (ap (λ (o : Me). told_counts o.0.caching.counts) c.flush_as-found.ensures.flushed.1)
