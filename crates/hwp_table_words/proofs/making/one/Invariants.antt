use Rattle.std.proofs.Common.{◌*◌}
use Rattle.hwp_table_words.specs.Carrying.{front}
use Rattle.hwp_table_words.specs.Seats.{cpu_of, mine_of}
use Rattle.hwp_table_words.proofs.making.one.Given as goal

abbrev pub ghosts-step_as : goal.ghosts-step_as
ghosts-step_as g a = record {
  call = record {
    layout = a.sheet.now.key;
    cpu = cpu_of a.seat.now.me.0.known.mines;
    mine = mine_of a.seat.now.me.0.known.mines;
    who = a.who;
    step = a.step.now;
    put = front a.seat.now.me.1;
    places = g.W.Ways.ways * a.sheet.now.key.cpus;
  };
}
