use Rattle.hwp_table_words.proofs.EntryAsks.{entry-in, fill-allowed}
use Rattle.hwp_table_words.proofs.entries.fill_as.Goals as goal

pub swap-requires : goal.swap-requires
swap-requires g c = (
  c.requires.entry.0.same,
  entry-in c.requires.entry.0,
  fill-allowed g.W.Ways.ways c.args.sheet.now.key g.N.Aimed.aim c.requires.entry.1 _ _ c.args.seat.now.me c.args.word _ _ c.requires.entry.0 c.args.cpu.0 c.args.slot.0 c.args.entry c.requires.own c.requires.word c.requires.can,
)
