use Rattle.std.proofs.Common.{◌≡◌, ℕ, sym, ap, ◌∙◌, subst, arith}
use Rattle.std.specs.Prelude.{Some, slice_get}
use Rattle.hwp_core_rule.specs.declared.View.{View}
use Rattle.hwp_core_rule.specs.Lists.{EachMember}
use Rattle.hwp_core_rule.specs.parts.Holdings.{HoldsNothing}
use Rattle.hwp_plain.specs.Boards.{Board}
use Rattle.hwp_table_words.specs.Ends.{HasAll}
use Rattle.hwp_table_words.specs.Known.{Whole}
use Rattle.hwp_table.specs.Boards.{whole_then}
use Rattle.hwp_table.specs.Seats.{whole_at}
use Rattle.hwp_table.specs.Turns.{turns_of}
use Rattle.hwp_table.proofs.Gathered.{which, these, whole-is, has-all}
use Rattle.hwp_table.proofs.board.SeatBoard.into_pass.Goals as goal

pub gather_seats-requires : goal.gather_seats-requires
gather_seats-requires g c = record { can = ((which g.W.Ways.ways g.N.OfTable.table c.self.inside.sheet.now.table_id c.self.inside.layout.now c.self.inside.seats.items c.self.inside.holder (turns_of c.self.inside.turns) c.self.inside.seat.0 c.self.invariant), (these g.W.Ways.ways g.N.OfTable.table c.self.inside.sheet.now.table_id c.self.inside.layout.now c.self.inside.seats.items c.self.inside.holder (turns_of c.self.inside.turns) c.self.inside.seat.0 c.self.invariant (subst (λ (b : Board). EachMember HoldsNothing b.state.views) (sym c.self.view_is) c.requires.nothing))) }

pub returns-clause-table : goal.returns-clause-table
returns-clause-table g c = (c.gather_seats.ensures (which g.W.Ways.ways g.N.OfTable.table c.self.inside.sheet.now.table_id c.self.inside.layout.now c.self.inside.seats.items c.self.inside.holder (turns_of c.self.inside.turns) c.self.inside.seat.0 c.self.invariant) (these g.W.Ways.ways g.N.OfTable.table c.self.inside.sheet.now.table_id c.self.inside.layout.now c.self.inside.seats.items c.self.inside.holder (turns_of c.self.inside.turns) c.self.inside.seat.0 c.self.invariant (subst (λ (b : Board). EachMember HoldsNothing b.state.views) (sym c.self.view_is) c.requires.nothing))).same

pub returns-clause-bare : goal.returns-clause-bare
returns-clause-bare g c = (c.gather_seats.ensures (which g.W.Ways.ways g.N.OfTable.table c.self.inside.sheet.now.table_id c.self.inside.layout.now c.self.inside.seats.items c.self.inside.holder (turns_of c.self.inside.turns) c.self.inside.seat.0 c.self.invariant) (these g.W.Ways.ways g.N.OfTable.table c.self.inside.sheet.now.table_id c.self.inside.layout.now c.self.inside.seats.items c.self.inside.holder (turns_of c.self.inside.turns) c.self.inside.seat.0 c.self.invariant (subst (λ (b : Board). EachMember HoldsNothing b.state.views) (sym c.self.view_is) c.requires.nothing))).bare

pub returns-clause-all : goal.returns-clause-all
returns-clause-all g c = subst (λ (b : Board). HasAll b.layout c.gather_seats.result.me.0.known) c.self.view_is
    (has-all g.N.OfTable.table c.self.inside.layout.now c.self.inside.seats.items c.self.inside.holder (whole_at c.self.inside.seats.items c.self.inside.holder) (these g.W.Ways.ways g.N.OfTable.table c.self.inside.sheet.now.table_id c.self.inside.layout.now c.self.inside.seats.items c.self.inside.holder (turns_of c.self.inside.turns) c.self.inside.seat.0 c.self.invariant (subst (λ (b : Board). EachMember HoldsNothing b.state.views) (sym c.self.view_is) c.requires.nothing)).can c.gather_seats.result.table_id c.gather_seats.result.me (c.gather_seats.ensures (which g.W.Ways.ways g.N.OfTable.table c.self.inside.sheet.now.table_id c.self.inside.layout.now c.self.inside.seats.items c.self.inside.holder (turns_of c.self.inside.turns) c.self.inside.seat.0 c.self.invariant) (these g.W.Ways.ways g.N.OfTable.table c.self.inside.sheet.now.table_id c.self.inside.layout.now c.self.inside.seats.items c.self.inside.holder (turns_of c.self.inside.turns) c.self.inside.seat.0 c.self.invariant (subst (λ (b : Board). EachMember HoldsNothing b.state.views) (sym c.self.view_is) c.requires.nothing))))

pub returns-clause-views : goal.returns-clause-views
returns-clause-views g c = subst (λ (b : Board). EachMember (λ (x : ℕ × View). slice_get b.state.views x.0 ≡ Some x.1) c.gather_seats.result.me.0.known.mines) c.self.view_is (c.gather_seats.ensures (which g.W.Ways.ways g.N.OfTable.table c.self.inside.sheet.now.table_id c.self.inside.layout.now c.self.inside.seats.items c.self.inside.holder (turns_of c.self.inside.turns) c.self.inside.seat.0 c.self.invariant) (these g.W.Ways.ways g.N.OfTable.table c.self.inside.sheet.now.table_id c.self.inside.layout.now c.self.inside.seats.items c.self.inside.holder (turns_of c.self.inside.turns) c.self.inside.seat.0 c.self.invariant (subst (λ (b : Board). EachMember HoldsNothing b.state.views) (sym c.self.view_is) c.requires.nothing))).views

pub returns-clause-whole : goal.returns-clause-whole
returns-clause-whole g c = (c.gather_seats.ensures (which g.W.Ways.ways g.N.OfTable.table c.self.inside.sheet.now.table_id c.self.inside.layout.now c.self.inside.seats.items c.self.inside.holder (turns_of c.self.inside.turns) c.self.inside.seat.0 c.self.invariant) (these g.W.Ways.ways g.N.OfTable.table c.self.inside.sheet.now.table_id c.self.inside.layout.now c.self.inside.seats.items c.self.inside.holder (turns_of c.self.inside.turns) c.self.inside.seat.0 c.self.invariant (subst (λ (b : Board). EachMember HoldsNothing b.state.views) (sym c.self.view_is) c.requires.nothing))).whole (omega arith) ∙ ap (λ (w : Whole). Some w) (whole-is g.W.Ways.ways g.N.OfTable.table c.self.inside.sheet.now.table_id c.self.inside.layout.now c.self.inside.seats.items c.self.inside.holder (turns_of c.self.inside.turns) c.self.inside.seat.0 c.self.invariant) ∙ ap (λ (b : Board). Some (whole_then b.state b.log)) c.self.view_is
