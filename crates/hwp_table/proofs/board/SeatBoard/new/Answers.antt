use Rattle.std.proofs.Common.{◌≡◌, ◌<◌, [], length, set, sym, ap, ◌∙◌, subst, arith}
use Rattle.std.proofs.lemmas.List.{length-map}
use Rattle.atomic_table.specs.Seated.{TableId}
use Rattle.hwp_table_words.specs.Known.{idling, note}
use Rattle.hwp_table_words.specs.Seats.{IsTableOf, SeatValue}
use Rattle.hwp_table_words.specs.Stands.{Me}
use Rattle.hwp_core_rule.specs.Opening.{below}
use Rattle.hwp_core_rule.proofs.WordsOpen.{length-below}
use Rattle.hwp_table.specs.Boards.{IsSeatBoard}
use Rattle.hwp_table.specs.Seats.{seat_open}
use Rattle.hwp_table.proofs.Opened.{s-is, board-now, state-now, log-now}
use Rattle.hwp_table.proofs.board.SeatBoard.new.Goals as goal

-- there is a seat for each processor, and so the first
pub index_mut-requires : goal.index_mut-requires
index_mut-requires g c =
    let o = c.in_ok-seats.seats.ok in
    let count : length c.in_ok-seats.seats.items ≡ c.args.layout.now.cpus = ap length c.in_ok-seats.ensures ∙ length-map (below c.args.layout.now.cpus) (seat_open c.args.sheet.now.table_id c.args.layout.now) ∙ length-below c.args.layout.now.cpus in
    let some : 0 < c.args.layout.now.cpus = c.requires.table.0.sound.some_cpu in
    omega (arith, o, count, some)

pub gather-requires-clause-same : goal.gather-requires-clause-same
gather-requires-clause-same g c = c.let_go-note.ensures.same.1 ∙ c.requires.seat.0 ∙ sym (ap (λ (s : SeatValue). s.table) (s-is c.args.sheet.now.table_id c.args.layout.now c.requires.table.0.sound c.in_ok-seats.seats.items c.in_ok-seats.ensures c.index_mut.result.now c.index_mut.ensures.value))

pub invariant_of-result : goal.invariant_of-result
invariant_of-result g c = record {
  sheet_is = sym c.requires.named;
  table_is = subst (IsTableOf g.W.Ways.ways c.args.layout.now) (sym c.requires.named) c.requires.table.0;
  board = subst (λ (id : TableId). IsSeatBoard id c.args.layout.now (set c.in_ok-seats.seats.items 0 c.gather.new.self) 0 [] 0) (sym c.requires.named)
      (board-now c.args.sheet.now.table_id c.args.layout.now c.requires.table.0.sound c.in_ok-seats.seats.items c.in_ok-seats.ensures c.index_mut.result.now c.index_mut.ensures.value c.let_go-note.result.me (c.let_go-note.ensures.note ∙ ap (λ (m : Me). (idling (note m.0.known), [])) c.requires.seat.1) c.gather.new.self c.gather.ensures);
}

pub returns-clause-state : goal.returns-clause-state
returns-clause-state g c = state-now c.args.sheet.now.table_id c.args.layout.now c.requires.table.0.sound c.in_ok-seats.seats.items c.in_ok-seats.ensures c.index_mut.result.now c.index_mut.ensures.value c.let_go-note.result.me (c.let_go-note.ensures.note ∙ ap (λ (m : Me). (idling (note m.0.known), [])) c.requires.seat.1) c.gather.new.self c.gather.ensures

pub returns-clause-log : goal.returns-clause-log
returns-clause-log g c = log-now c.args.sheet.now.table_id c.args.layout.now c.requires.table.0.sound c.in_ok-seats.seats.items c.in_ok-seats.ensures c.index_mut.result.now c.index_mut.ensures.value c.let_go-note.result.me (c.let_go-note.ensures.note ∙ ap (λ (m : Me). (idling (note m.0.known), [])) c.requires.seat.1) c.gather.new.self c.gather.ensures
