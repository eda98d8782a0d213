use Rattle.std.proofs.Common.{◌≡◌, ℕ, ◌<◌, length}
use Rattle.hwp_table_words.specs.Carrying.{vacant}
use Rattle.hwp_table_words.specs.Known.{times}
use Rattle.hwp_table_words.proofs.FrontSlot.{place}
use Rattle.hwp_table_words.proofs.carrying.bring.Given as goal

abbrev pub invariant-loop-seat : goal.invariant-loop-seat
invariant-loop-seat l = record {
  table : l.seat.table_id ≡ l.fn.seat.table_id;
  known : l.seat.me.0 ≡ l.fn.seat.me.0;
  empty : l.seat.me.1 ≡ vacant l.order.items;
  slot : l.slot ≡ l.fn.slot;
  there : 0 < times l.slot l.order.items;
  times : (k : ℕ) → times k l.order.items ≡ times k l.fn.order.items;
  count : length l.order.items ≡ length l.fn.order.items;
}

abbrev pub decreases-loop-seat : goal.decreases-loop-seat
decreases-loop-seat l = place l.slot l.order.items
