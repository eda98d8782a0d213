use Rattle.std.proofs.Common.{false, cond, ap, ◌∙◌}
use Rattle.hwp_plain.specs.Boards.{Board, with_turn}
use Rattle.hwp_table.specs.Boards.{state_of}
use Rattle.hwp_table.specs.Turns.{turns_of}
use Rattle.hwp_table.proofs.Seated.{told, log-told}
use Rattle.hwp_table.proofs.board.SeatBoard.end.Goals as goal

pub invariant_of-self : goal.invariant_of-self
invariant_of-self g c = record {
  sheet_is = c.self.invariant.sheet_is;
  table_is = c.self.invariant.table_is;
  board = told g.N.OfTable.table c.self.inside.layout.now c.self.inside.seats.items c.self.inside.holder (turns_of c.self.inside.turns) c.self.inside.seat.0 c.self.invariant.board
      c.args.turn c.self.inside.ready (turns_of c.tell.new.turns) c.tell.ensures;
}

pub returns : goal.returns
returns g c =
    (λ i. record {
      layout = c.self.inside.layout.now;
      state = state_of c.self.inside.seats.items c.self.inside.holder;
      log = log-told g.N.OfTable.table c.self.inside.layout.now c.self.inside.seats.items c.self.inside.holder (turns_of c.self.inside.turns) c.self.inside.seat.0 c.self.invariant.board
          c.args.turn c.self.inside.ready (turns_of c.tell.new.turns) c.tell.ensures i;
      seat = c.self.inside.seat.0;
      ready = false;
      made = c.self.inside.made;
    })
    ∙ ap (λ (b : Board). record b { log = cond b.ready b.log (with_turn c.args.turn b.log); ready = false }) c.self.view_is
