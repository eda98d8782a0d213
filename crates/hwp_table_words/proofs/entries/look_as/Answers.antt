use Rattle.hwp_table_words.proofs.EntryAsks.{entry-in}
use Rattle.hwp_table_words.proofs.LookAsks.{look-allowed}
use Rattle.hwp_table_words.proofs.entries.look_as.Goals as goal

pub load-requires : goal.load-requires
load-requires g c = (c.requires.entry.same, entry-in c.requires.entry, look-allowed g.W.Ways.ways c.args.sheet.now.key g.N.Looking.look _ _ c.args.seat.now.me c.args.word _ _ c.requires.entry c.requires.can)
