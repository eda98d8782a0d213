use Rattle.std.proofs.Common.{ℕ, ◌+◌, ◌<◌, Bool, false, List, [], ◌∷◌, ◌++◌, inl, inr, get_or, take, ap, ◌∙◌, sym, arith, get_or-set_same, get_or-set_other}
use Rattle.std.specs.Slots.{slots_counts, slots_filled, slots_items, slots_len}
use Rattle.hwp_core_rule.proofs.Lists.{same-or}
use Rattle.hwp_table_words.specs.Stands.{Content}
use Rattle.hwp_table_words.proofs.Taken.{take-one}
use Rattle.hwp_table_words.proofs.closing.take_slots.Goals as goal

pub loop-next-preserved : goal.loop-next-preserved
loop-next-preserved c = let i = c.loop-next.invariant in let p = c.push_reserved.ensures in let o = c.take.ensures.others in
    let near : c.loop-next.next < slots_len c.loop-next.closed.slots = omega (arith, c.loop-next-test.true, c.slot_count.ensures) in
    let filled : List Bool = slots_filled c.loop-next.closed.slots in
    record {
      near = omega (arith, near, o.2);
      row = (o.0 ∙ i.row.0, o.2 ∙ i.row.1);
      left = λ k past less. ap (λ (l : List Bool). get_or l k false) o.1 ∙ (get_or-set_other filled c.loop-next.next k false false (λ e. omega (arith, e, past)) ∙ i.left k (omega (arith, past)) (omega (arith, less, o.2)));
      gone = λ k less. ap (λ (l : List Bool). get_or l k false) o.1 ∙ elim (same-or k c.loop-next.next) [
        | inl same ↦ ap (λ (n : ℕ). get_or (Rattle.std.proofs.Common.set filled c.loop-next.next false) n false) same ∙ get_or-set_same filled c.loop-next.next false false (omega (arith, near, (slots_counts c.loop-next.closed.slots).1))
        | inr other ↦ get_or-set_other filled c.loop-next.next k false false other ∙ i.gone k (omega (arith, less, other))
      ];
      len = omega (arith, i.len, p.len);
      room = omega (arith, i.room, p.capacity, o.2);
      items = p.items ∙ ap (λ (l : List Content). l ++ c.take.result ∷ []) i.items ∙ take-one (slots_items c.loop-next.closed.slots) c.loop-next.next c.take.result c.take.ensures.value ∙ ap (take (c.loop-next.next + 1)) (sym o.0);
    }
