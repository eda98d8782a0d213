use Rattle.std.proofs.Common.{◌∷◌, set, sym, ap, subst}
use Rattle.hwp_core_rule.specs.declared.Turn.TheVariants.{Moved}
use Rattle.hwp_core_rule.specs.Calls.{CanMake, Steps, logs}
use Rattle.hwp_plain.specs.Boards.{Board, own_view}
use Rattle.hwp_table.specs.declared.turns.Turns.{Turns}
use Rattle.hwp_table.specs.Boards.{IsSeatBoard, state_of}
use Rattle.hwp_table.specs.Turns.{turns_of}
use Rattle.hwp_table.proofs.SeatSteps.{has-right, can-now, board3, steps3, moves3, moved-on}
use Rattle.hwp_table.proofs.board.SeatBoard.make.Goals as goal

pub hand_over-requires-clause-one_table : goal.hand_over-requires-clause-one_table
hand_over-requires-clause-one_table g c = (g.N.OfTable.table, λ i s e. (c.self.invariant.board.are.each i s e).table)

pub step-met-requires-clause-ready : goal.step-met-requires-clause-ready
step-met-requires-clause-ready g c = has-right g.N.OfTable.table c.self.inside.layout.now c.self.inside.seats.items c.self.inside.holder (turns_of c.self.inside.turns) c.self.inside.seat.0 c.self.invariant.board c.from-own.result c.from-own.ensures c.hand_over.new.seats.items c.hand_over.ensures c.index_mut.result.now c.index_mut.ensures.value

pub step-met-requires-clause-can : goal.step-met-requires-clause-can
step-met-requires-clause-can g c = can-now g.N.OfTable.table c.self.inside.layout.now c.self.inside.seats.items c.self.inside.holder (turns_of c.self.inside.turns) c.self.inside.seat.0 c.self.invariant.board c.from-own.result c.from-own.ensures c.hand_over.new.seats.items c.hand_over.ensures c.index_mut.result.now c.index_mut.ensures.value c.args.who c.args.step.now c.args.body
    (subst (λ (b : Board). CanMake b.layout c.args.who c.args.step.now c.args.body (own_view b)) (sym c.self.view_is) c.requires.can)

pub invariant_of-self : goal.invariant_of-self
invariant_of-self g c = record {
  sheet_is = c.self.invariant.sheet_is;
  table_is = c.self.invariant.table_is;
  board = subst (λ (t : Turns). IsSeatBoard g.N.OfTable.table c.self.inside.layout.now (set c.hand_over.new.seats.items c.from-own.result c.step-met.new.self) c.from-own.result (Moved ∷ turns_of t) c.self.inside.seat.0) (sym c.of-before.ensures)
      (board3 g.N.OfTable.table c.self.inside.layout.now c.self.inside.seats.items c.self.inside.holder (turns_of c.self.inside.turns) c.self.inside.seat.0 c.self.invariant.board c.from-own.result c.from-own.ensures c.hand_over.new.seats.items c.hand_over.ensures c.index_mut.result.now c.index_mut.ensures.value c.args.who c.args.step.now c.args.body
      (subst (λ (b : Board). CanMake b.layout c.args.who c.args.step.now c.args.body (own_view b)) (sym c.self.view_is) c.requires.can) c.step-met.result.found c.step-met.result.body c.step-met.new.self c.step-met.ensures.same c.step-met.ensures.told c.step-met.ensures.moved);
}

pub returns-clause-told : goal.returns-clause-told
returns-clause-told g c =
    subst (λ (b : Board). Steps b.layout c.args.who c.args.step.now (logs c.args.body) (own_view b) (own_view (record b { state = state_of (set c.hand_over.new.seats.items c.from-own.result c.step-met.new.self) c.from-own.result; seat = c.self.inside.seat.0 })) c.step-met.result.found c.step-met.result.body) c.self.view_is
    (steps3 g.N.OfTable.table c.self.inside.layout.now c.self.inside.seats.items c.self.inside.holder (turns_of c.self.inside.turns) c.self.inside.seat.0 c.self.invariant.board c.from-own.result c.from-own.ensures c.hand_over.new.seats.items c.hand_over.ensures c.index_mut.result.now c.index_mut.ensures.value c.args.who c.args.step.now c.args.body
    (subst (λ (b : Board). CanMake b.layout c.args.who c.args.step.now c.args.body (own_view b)) (sym c.self.view_is) c.requires.can) c.step-met.result.found c.step-met.result.body c.step-met.new.self c.step-met.ensures.same c.step-met.ensures.told c.step-met.ensures.moved)

pub returns-clause-moved : goal.returns-clause-moved
returns-clause-moved g c =
    moved-on c.args.body c.step-met.result.body c.self.view_is
    (moves3 g.N.OfTable.table c.self.inside.layout.now c.self.inside.seats.items c.self.inside.holder (turns_of c.self.inside.turns) c.self.inside.seat.0 c.self.invariant.board c.from-own.result c.from-own.ensures c.hand_over.new.seats.items c.hand_over.ensures c.index_mut.result.now c.index_mut.ensures.value c.args.who c.args.step.now c.args.body
    (subst (λ (b : Board). CanMake b.layout c.args.who c.args.step.now c.args.body (own_view b)) (sym c.self.view_is) c.requires.can) c.step-met.result.found c.step-met.result.body c.step-met.new.self c.step-met.ensures.same c.step-met.ensures.told c.step-met.ensures.moved
    c.self.inside.ready c.self.inside.made c.kind-self-inside.result (turns_of c.of-before.result.value) (ap turns_of c.of-before.ensures) c.kind-self-inside.ensures)
