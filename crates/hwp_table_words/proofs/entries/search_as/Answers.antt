use Rattle.hwp_table_words.proofs.EntryAsks.{entry-in, search-allowed}
use Rattle.hwp_table_words.proofs.entries.search_as.Goals as goal

pub load-requires : goal.load-requires
load-requires g c = (c.requires.entry.0.same, entry-in c.requires.entry.0, search-allowed g.W.Ways.ways c.args.sheet.now.key g.N.Aimed.aim c.requires.entry.1 _ _ c.args.seat.now.me c.args.word _ _ c.requires.entry.0 c.requires.can)
