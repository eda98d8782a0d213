use Rattle.std.proofs.Common.{◌∙◌, ap, sym}
use Rattle.hwp_table_words.specs.Known.{Knowing, with_note}
use Rattle.hwp_table_words.specs.Seats.{SeatValue, value_of}
use Rattle.hwp_table_words.proofs.SeatKeeps.{some-word, gathered, seat-gathers, cache-gathers}
use Rattle.hwp_table_words.proofs.seat.SeatOps.gather.Goals as goal

pub join-requires-clause-fits : goal.join-requires-clause-fits
join-requires-clause-fits g c = (c.self.invariant.0.same, c.requires.same ∙ ap (λ (v : SeatValue). v.table) (sym c.self.view_is), some-word g.W.Ways.ways c.self.inside.layout.now c.self.inside.sheet.now.table_id c.self.invariant.0.table)

pub invariant_of-self : goal.invariant_of-self
invariant_of-self g c = (
  seat-gathers g.W.Ways.ways c.self.inside.layout.now c.self.inside.sheet.now.key c.self.inside.sheet.now.table_id c.self.inside.seat.table_id c.join.new.seat.table_id c.self.inside.seat.me c.join.new.seat.me c.self.inside.order.items
      c.self.invariant.0 c.join.ensures.same c.args.note.me.0 c.requires.note.0 c.requires.note.1 c.join.ensures.seat,
  cache-gathers g.W.Ways.ways c.self.inside.layout.now c.self.inside.sheet.now.key c.self.inside.sheet.now.table_id c.self.inside.seat.table_id c.join.new.seat.table_id c.self.inside.seat.me c.join.new.seat.me c.self.inside.order.items
      c.self.invariant.0 c.join.ensures.same c.args.note.me.0 c.requires.note.0 c.requires.note.1 c.join.ensures.seat c.self.invariant.1,
)

pub returns : goal.returns
returns g c =
    ap (λ (k : Knowing). value_of c.self.inside.sheet.now.table_id c.self.inside.layout.now k)
    (gathered g.W.Ways.ways c.self.inside.layout.now c.self.inside.sheet.now.key c.self.inside.sheet.now.table_id c.self.inside.seat.table_id c.join.new.seat.table_id c.self.inside.seat.me c.join.new.seat.me c.self.inside.order.items
    c.self.invariant.0 c.join.ensures.same c.args.note.me.0 c.requires.note.0 c.requires.note.1 c.join.ensures.seat)
    ∙ ap (λ (v : SeatValue). record v { known = with_note v.known c.args.note.me.0.known }) c.self.view_is
