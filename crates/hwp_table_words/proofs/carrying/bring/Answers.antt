use Rattle.std.proofs.Common.{◌≡◌, ℕ, ◌<◌, List, [], ◌∷◌, ◌++◌, length, get_or, refl, sym, ap, ◌∙◌, subst}
use Rattle.atomic_table.specs.Table.{turned}
use Rattle.hwp_table_words.specs.Carrying.{vacant}
use Rattle.hwp_table_words.specs.Known.{times}
use Rattle.hwp_table_words.specs.Stands.{Me}
use Rattle.hwp_table_words.proofs.FrontSlot.{place, rotated, some-there, turned-vacant, times-rotated, count-rotated, place-falls}
use Rattle.hwp_table_words.proofs.carrying.bring.Goals as goal

pub loop-seat-preserved : goal.loop-seat-preserved
loop-seat-preserved c =
    let i = c.loop-seat.invariant in
    let first : ℕ = c.remove-first.result in
    let less = some-there c.args.slot c.loop-seat.order.items i.there in
    let items : c.push.new.self.items ≡ rotated c.loop-seat.order.items c.remove-first.result = c.push.ensures.items ∙ ap (λ (l : List ℕ). l ++ c.remove-first.result ∷ []) c.remove-first.ensures.items in
    record {
      table = c.turn.ensures.0 ∙ i.table;
      known = ap (λ (m : Me). m.0) c.turn.ensures.2 ∙ i.known;
      empty = ap (λ (m : Me). m.1) c.turn.ensures.2 ∙ (ap turned i.empty ∙ (turned-vacant c.loop-seat.order.items c.remove-first.result less c.remove-first.ensures.value ∙ ap vacant (sym items)));
      slot = i.slot;
      there = subst (λ (l : List ℕ). 0 < times c.args.slot l) (sym items) (subst (λ (n : ℕ). 0 < n) (sym (times-rotated c.args.slot c.loop-seat.order.items c.remove-first.result less c.remove-first.ensures.value)) i.there);
      times = λ k. ap (times k) items ∙ (times-rotated k c.loop-seat.order.items c.remove-first.result less c.remove-first.ensures.value ∙ i.times k);
      count = ap length items ∙ (count-rotated c.loop-seat.order.items c.remove-first.result less ∙ i.count);
    }

pub loop-seat-smaller : goal.loop-seat-smaller
loop-seat-smaller c =
    let items : c.push.new.self.items ≡ rotated c.loop-seat.order.items c.remove-first.result = c.push.ensures.items ∙ ap (λ (l : List ℕ). l ++ c.remove-first.result ∷ []) c.remove-first.ensures.items in
    subst (λ (l : List ℕ). place c.args.slot l < place c.args.slot c.loop-seat.order.items) (sym items)
    (place-falls c.args.slot c.loop-seat.order.items c.remove-first.result c.remove-first.ensures.value (λ e. c.loop-seat-test.true (ap (λ (l : List ℕ). get_or l 0 0) c.as_slice.ensures.value ∙ e)) c.loop-seat.invariant.there)

pub loop-seat-init : goal.loop-seat-init
loop-seat-init c = record { table = refl; known = refl; empty = c.requires.empty; slot = refl; there = c.requires.there; times = λ k. refl; count = refl }

pub returns-clause-same : goal.returns-clause-same
returns-clause-same c = (c.loop-seat.invariant.table, c.loop-seat.invariant.known)

pub returns-clause-empty : goal.returns-clause-empty
returns-clause-empty c = c.loop-seat.invariant.empty

pub returns-clause-times : goal.returns-clause-times
returns-clause-times c = c.loop-seat.invariant.times

pub returns-clause-count : goal.returns-clause-count
returns-clause-count c = c.loop-seat.invariant.count
