use Rattle.hwp_table_words.specs.CachePlays.{own_place}
use Rattle.hwp_table_words.proofs.caching.fill.Given as goal

abbrev pub ghosts-fill_as : goal.ghosts-fill_as
ghosts-fill_as g a = record { aim = record { layout = a.sheet.now.key; place = own_place g.W.Ways.ways a.cpu.0 a.slot.0; frame = a.frame.0; seen = 0 } }
