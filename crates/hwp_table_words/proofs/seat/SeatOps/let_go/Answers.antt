use Rattle.std.proofs.Common.{[], ◌∙◌, ap}
use Rattle.hwp_table_words.specs.Known.{idling, let_go, note}
use Rattle.hwp_table_words.specs.Seats.{SeatValue, value_of}
use Rattle.hwp_table_words.proofs.SeatKeeps.{some-word, seat-lets, cache-lets}
use Rattle.hwp_table_words.proofs.seat.SeatOps.let_go.Goals as goal

pub let_go-requires : goal.let_go-requires
let_go-requires g c = record { fits = (c.self.invariant.0.same, some-word g.W.Ways.ways c.self.inside.layout.now c.self.inside.sheet.now.table_id c.self.invariant.0.table) }

pub invariant_of-self : goal.invariant_of-self
invariant_of-self g c = (
  seat-lets g.W.Ways.ways c.self.inside.layout.now c.self.inside.sheet.now.key c.self.inside.sheet.now.table_id c.self.inside.seat.table_id c.let_go.new.seat.table_id c.self.inside.seat.me c.let_go.new.seat.me c.self.inside.order.items
      c.self.invariant.0 c.let_go.ensures.same.0 c.let_go.ensures.seat,
  cache-lets g.W.Ways.ways c.self.inside.layout.now c.self.inside.sheet.now.key c.self.inside.sheet.now.table_id c.self.inside.seat.table_id c.let_go.new.seat.table_id c.self.inside.seat.me c.let_go.new.seat.me c.self.inside.order.items
      c.self.invariant.0 c.let_go.ensures.same.0 c.let_go.ensures.seat c.self.invariant.1,
)

pub returns-clause-seat : goal.returns-clause-seat
returns-clause-seat g c =
    (λ i. value_of c.self.inside.sheet.now.table_id c.self.inside.layout.now (c.let_go.ensures.seat i).0)
    ∙ ap (λ (v : SeatValue). record v { known = let_go v.known }) c.self.view_is

pub returns-clause-note : goal.returns-clause-note
returns-clause-note g c = (
  c.let_go.ensures.same.1 ∙ c.self.invariant.0.same ∙ ap (λ (v : SeatValue). v.table) c.self.view_is,
  c.let_go.ensures.note ∙ ap (λ (v : SeatValue). (idling (note v.known), [])) c.self.view_is,
)
