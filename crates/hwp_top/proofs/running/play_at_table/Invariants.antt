use Rattle.hwp_top.proofs.running.play_at_table.Given as goal

abbrev pub ghosts-seat_all : goal.ghosts-seat_all
ghosts-seat_all g a = record { table = a.sheet.now.table_id }
