use Rattle.std.proofs.Common.{List, [], ◌∷◌, ◌++◌, refl, sym, ap, ◌∙◌, subst, arith}
use Rattle.std.proofs.lemmas.List.{append-nil}
use Rattle.atomic_table.specs.Seated.{TableId}
use Rattle.hwp_table_words.specs.Known.{Knowing, joining}
use Rattle.hwp_table_words.specs.Seats.{SeatValue}
use Rattle.hwp_table.specs.Seats.{IsGathered}
use Rattle.hwp_table.proofs.Gathered.{of-s, none-carried, first, more, none-left}
use Rattle.hwp_table.proofs.dealing.gather_seats.Goals as goal

pub loop-seat-init : goal.loop-seat-init
loop-seat-init g c t these =
    let front = c.in-Some.ensures.items ∙ sym (append-nil (c.pop.new.self.items ++ c.in-Some.last ∷ [])) in
    first t.table t.layout c.args.seats.items t.holder t.whole these.can c.pop.new.self.items c.in-Some.last [] front c.pass-pass.result.table_id c.pass-pass.result.me refl
    c.pass-pass.ensures.same.0 (ap (λ (k : Knowing). k.known) c.pass-pass.ensures.same.1) (c.pass-pass.ensures.bare (none-carried t.table t.layout c.args.seats.items t.holder t.whole these.can c.pop.new.self.items c.in-Some.last [] front))

pub join-requires-clause-fits : goal.join-requires-clause-fits
join-requires-clause-fits g c =
    let t = c.requires.can.0 in
    let these = c.requires.can.1 in
    let w = c.loop-seat.invariant t these in
    let front = w.front ∙ ap (λ (l : List SeatValue). l ++ w.rest) c.in-Some-pop.ensures.items in
    let of = of-s t.table t.layout c.args.seats.items t.holder t.whole these.can c.pop-in-loop-seat.new.self.items c.in-Some-pop.seat w.rest front in (
      w.same ∙ sym these.sheet_is,
      c.pass.ensures.same.0 ∙ of.table ∙ sym these.sheet_is,
      omega (arith, these.table_is.words, ap (λ (t : TableId). t.words) these.sheet_is),
    )

pub join-requires-clause-empty : goal.join-requires-clause-empty
join-requires-clause-empty g c =
    let t = c.requires.can.0 in
    let these = c.requires.can.1 in
    let w = c.loop-seat.invariant t these in
    let front = w.front ∙ ap (λ (l : List SeatValue). l ++ w.rest) c.in-Some-pop.ensures.items in
    c.pass.ensures.bare (none-carried t.table t.layout c.args.seats.items t.holder t.whole these.can c.pop-in-loop-seat.new.self.items c.in-Some-pop.seat w.rest front)

pub loop-seat-preserved : goal.loop-seat-preserved
loop-seat-preserved g c t these =
    let w = c.loop-seat.invariant t these in
    let front = w.front ∙ ap (λ (l : List SeatValue). l ++ w.rest) c.in-Some-pop.ensures.items in
    more t.table t.layout c.args.seats.items t.holder t.whole these.can c.pop-in-loop-seat.new.self.items c.in-Some-pop.seat w.rest front c.loop-seat.seats.items c.loop-seat.pass.table_id c.join.new.seat.table_id c.loop-seat.pass.me c.join.new.seat.me
    c.in-Some-pop.ensures.items w c.join.ensures.same (c.join.ensures.seat ∙ ap (λ (k : Knowing). (joining c.loop-seat.pass.me.0 k, c.loop-seat.pass.me.1)) c.pass.ensures.same.1)

pub returns : goal.returns
returns g c t these =
    let o = c.loop-seat.seats.ok in
    let none = c.in_default-pop.ensures.cases in
    subst (λ (l : List SeatValue). IsGathered t.table t.layout c.args.seats.items t.holder t.whole l c.loop-seat.pass.table_id c.loop-seat.pass.me) (none-left c.loop-seat.seats.items (omega (arith, o, none.0))) (c.loop-seat.invariant t these)
