use Rattle.hwp_test_top.proofs.caches.counts_are.Given as goal

abbrev pub ghosts-played : goal.ghosts-played
ghosts-played g a = record { table = a.sheet.now.table_id }
