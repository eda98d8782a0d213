use Rattle.hwp_table_words.proofs.baton.split.Given as goal

abbrev pub ghosts-deal : goal.ghosts-deal
ghosts-deal g a = record { cpu = a.cpu.0 }
