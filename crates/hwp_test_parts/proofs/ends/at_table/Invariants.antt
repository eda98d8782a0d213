use Rattle.hwp_test_parts.proofs.ends.at_table.Given as goal

abbrev pub ghosts-dealt : goal.ghosts-dealt
ghosts-dealt g a = record { table = a.sheet.now.table_id }
