use Rattle.std.proofs.Common.{refl}
use Rattle.hwp_table_words.proofs.EntryAsks.{entry-of}
use Rattle.hwp_table_words.proofs.caching.search.Goals as goal

pub search_as-requires-clause-entry : goal.search_as-requires-clause-entry
search_as-requires-clause-entry g c = (entry-of c.requires.at c.entry_at-word.ensures c.requires.inside, refl)

pub search_as-requires-clause-can : goal.search_as-requires-clause-can
search_as-requires-clause-can g c = c.requires.can

pub returns-clause-looked : goal.returns-clause-looked
returns-clause-looked g c = c.search_as.ensures.searched.1
