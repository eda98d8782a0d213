use Rattle.std.proofs.Common.{ℕ, subst}
use Rattle.atomic_table.specs.Table.{Allows}
use Rattle.hwp_core_rule.specs.Steps.{exchanged}
use Rattle.hwp_table_words.specs.CachePlays.{IsFlushed}
use Rattle.hwp_table_words.specs.Rules.{Kept}
use Rattle.hwp_table_words.proofs.EntryAsks.{entry-in, flush-allowed}
use Rattle.hwp_table_words.proofs.entries.flush_as.Goals as goal

pub compare_exchange-requires : goal.compare_exchange-requires
compare_exchange-requires g c = (
  c.requires.entry.0.same,
  entry-in c.requires.entry.0,
  subst (λ (n : ℕ). Allows (Kept g.W.Ways.ways c.args.sheet.now.key) c.args.sheet.now.table_id.slots c.args.seat.now.id c.args.seat.now.me c.args.word (exchanged n 0) (IsFlushed g.N.Aimed.aim c.args.word c.args.seat.now.me)) c.requires.seen
      (flush-allowed g.W.Ways.ways c.args.sheet.now.key g.N.Aimed.aim c.requires.entry.1 c.args.sheet.now.table_id.slots c.args.seat.now.id c.args.seat.now.me c.args.word _ _ c.requires.entry.0 c.requires.can),
)
