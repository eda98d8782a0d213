use Rattle.std.proofs.Common.{◌≡◌, ℕ, ◌+◌, ◌-◌, ◌*◌, ◌^◌, ◌<◌, min, refl, sym, ap, ◌∙◌, subst}
use Rattle.hwp_core_rule.specs.Words.{size}
use Rattle.hwp_table_words.specs.CacheCounts.{capped, told_counts}
use Rattle.hwp_table_words.specs.CachePlays.{with_caching}
use Rattle.hwp_table_words.specs.Stands.{Me}
use Rattle.hwp_table_words.proofs.EntryAsks.{entry-of}
use Rattle.hwp_table_words.proofs.Sweeps.{one-more}
use Rattle.hwp_table_words.proofs.caching.fill.Goals as goal

pub fill_as-counts-requires-clause-entry : goal.fill_as-counts-requires-clause-entry
fill_as-counts-requires-clause-entry g c = (
  entry-of c.requires.at (c.entry_at-word.ensures ∙ ap (λ (n : ℕ). size c.args.layout.now + n) c.in-Some.ensures.0) (subst (λ (n : ℕ). n < g.W.Ways.ways * c.args.layout.now.cpus) c.in-Some.ensures.0 c.in-Some.ensures.1),
  refl,
)

pub fill_as-counts-requires-clause-own : goal.fill_as-counts-requires-clause-own
fill_as-counts-requires-clause-own g c = refl

pub fill_as-counts-requires-clause-word : goal.fill_as-counts-requires-clause-word
fill_as-counts-requires-clause-word g c = c.pack-entry.ensures.word

pub fill_as-counts-requires-clause-can : goal.fill_as-counts-requires-clause-can
fill_as-counts-requires-clause-can g c = c.requires.can

pub returns-clause-rest : goal.returns-clause-rest
returns-clause-rest g c = c.fill_as-counts.ensures.filled.1 ∙ sym (ap (λ (o : Me). with_caching o.0.caching c.args.seat.now.me) c.fill_as-counts.ensures.filled.1)

pub returns-clause-counts : goal.returns-clause-counts
returns-clause-counts g c =
    let more : c.saturating_add-counts.result ≡ capped (c.args.seat.now.me.0.caching.counts.fills + 1) =
    c.saturating_add-counts.ensures ∙ (λ i. min ((c.requires.counts i).fills + 1) (2 ^ 64 - 1)) ∙ one-more c.args.seat.now.me.0.caching.counts.fills 1 in
    (λ i. record { hits = (c.requires.counts i).hits; fills = more i; flushes = (c.requires.counts i).flushes }) ∙ sym (ap (λ (o : Me). told_counts o.0.caching.counts) c.fill_as-counts.ensures.filled.1)
