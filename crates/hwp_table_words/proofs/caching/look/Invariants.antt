use Rattle.std.proofs.Common.{◌*◌}
use Rattle.hwp_table_words.specs.Caches.{call_of, load_of}
use Rattle.hwp_table_words.proofs.caching.look.Given as goal

abbrev pub ghosts-look_as : goal.ghosts-look_as
ghosts-look_as g a = record { look = record { call = call_of (g.W.Ways.ways * a.sheet.now.key.cpus) a.sheet.now.key a.who (load_of a.slot) a.seat.now.me; slot = a.slot; place = a.place } }
