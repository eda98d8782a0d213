use Rattle.hwp_table_words.proofs.caching.flush.Given as goal

abbrev pub ghosts-flush_as : goal.ghosts-flush_as
ghosts-flush_as g a = record { aim = record { layout = a.sheet.now.key; place = a.place; frame = a.frame.0; seen = a.seen } }
