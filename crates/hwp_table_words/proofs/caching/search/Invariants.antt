use Rattle.hwp_table_words.proofs.caching.search.Given as goal

abbrev pub ghosts-search_as : goal.ghosts-search_as
ghosts-search_as g a = record { aim = record { layout = a.sheet.now.key; place = a.place; frame = a.frame.0; seen = 0 } }
