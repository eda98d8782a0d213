use Rattle.std.proofs.Common.{◌≡◌, ℕ, ◌-◌, ◌<◌, ◌≤◌, true, false, get_or, take}
use Rattle.std.specs.Prelude.{vec_len, vec_capacity}
use Rattle.std.specs.Slots.{slots_filled, slots_items, slots_len}
use Rattle.hwp_table_words.proofs.closing.take_slots.Given as goal

abbrev pub invariant-loop-next : goal.invariant-loop-next
invariant-loop-next l = record {
  near : l.next ≤ slots_len l.closed.slots;
  row : (slots_items l.closed.slots ≡ slots_items l.fn.closed.slots) × (slots_len l.closed.slots ≡ slots_len l.fn.closed.slots);
  left : (k : ℕ) → l.next ≤ k → k < slots_len l.closed.slots → get_or (slots_filled l.closed.slots) k false ≡ true;
  gone : (k : ℕ) → k < l.next → get_or (slots_filled l.closed.slots) k false ≡ false;
  len : vec_len l.slots ≡ l.next;
  room : slots_len l.closed.slots ≤ vec_capacity l.slots;
  items : l.slots.items ≡ take l.next (slots_items l.closed.slots);
}

abbrev pub decreases-loop-next : goal.decreases-loop-next
decreases-loop-next l = slots_len l.closed.slots - l.next
