use Rattle.std.proofs.Common.{ℕ, List, map, sym, ap, ◌∙◌, subst}
use Rattle.hwp_plain.specs.Boards.{Board}
use Rattle.hwp_table_words.specs.Seats.{SeatValue, mine}
use Rattle.hwp_table.specs.Boards.{state_of, whole_then}
use Rattle.hwp_table.specs.Seats.{AreSeats, IsHeld, whole_at}
use Rattle.hwp_table.specs.Turns.{played, turns_of}
use Rattle.hwp_table.proofs.Gathered.{whole-is}
use Rattle.hwp_table.proofs.board.SeatBoard.seats.Goals as goal

pub returns-clause-seats : goal.returns-clause-seats
returns-clause-seats g c = subst (λ (b : Board). AreSeats g.N.OfTable.table b.layout c.from_vec.result) c.self.view_is
    (subst (AreSeats g.N.OfTable.table c.self.inside.layout.now) (sym c.from_vec.ensures) c.self.invariant.board.are)

pub returns-clause-views : goal.returns-clause-views
returns-clause-views g c = ap (map mine) c.from_vec.ensures ∙ ap (λ (b : Board). b.state.views) c.self.view_is

pub returns-clause-rights : goal.returns-clause-rights
returns-clause-rights g c =
    let layout = c.self.inside.layout.now in
    let seats = c.self.inside.seats.items in
    let holder = c.self.inside.holder in
    let came = whole_then (state_of seats holder) (played (whole_at seats holder).log (turns_of c.self.inside.turns)) in
    let whole = whole-is g.W.Ways.ways g.N.OfTable.table c.self.inside.sheet.now.table_id layout seats holder (turns_of c.self.inside.turns) c.self.inside.seat.0 c.self.invariant in
    let held = subst (λ (l : List SeatValue). IsHeld layout l holder came) (sym c.from_vec.ensures) (subst (IsHeld layout seats holder) whole c.self.invariant.board.held) in
    subst (λ (b : Board). (h : ℕ) × IsHeld b.layout c.from_vec.result h (whole_then b.state b.log)) c.self.view_is (holder, held)
