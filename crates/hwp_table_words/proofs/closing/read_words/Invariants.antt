use Rattle.std.proofs.Common.{◌≡◌, ◌+◌, ◌-◌, ◌<◌, ◌≤◌, take, drop}
use Rattle.std.specs.Prelude.{vec_len, vec_capacity}
use Rattle.std.specs.Slots.{slots_items}
use Rattle.hwp_table_words.proofs.closing.read_words.Given as goal

abbrev pub invariant-loop-next : goal.invariant-loop-next
invariant-loop-next l = record {
  start : 0 < l.next;
  near : l.next ≤ l.count;
  closed : l.closed ≡ l.fn.closed;
  count : l.count ≡ l.fn.count;
  len : vec_len l.words + 1 ≡ l.next;
  room : l.count ≤ vec_capacity l.words;
  items : l.words.items ≡ take (l.next - 1) (drop 1 (slots_items l.closed.words));
}

abbrev pub decreases-loop-next : goal.decreases-loop-next
decreases-loop-next l = l.count - l.next
