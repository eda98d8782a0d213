use Rattle.hwp_kill.proofs.Places.{got, missed}
use Rattle.hwp_kill.proofs.Tables.{Noted-none, Noted-undeclared, Noted-again, Noted-first}
use Rattle.hwp_kill.proofs.kill.lowest_slots.Goals as goal
use Rattle.hwp_kill.proofs.kill.lowest_slots.Goals.{in-Some-get+then-is_none, in-Some-get+else-is_none, in_default-get}

pub loop-slot-init : goal.loop-slot-init
loop-slot-init c = Noted-none c.args.layout.now c.args.maps.now

pub loop-slot-preserved : goal.loop-slot-preserved
loop-slot-preserved c = elim c.match-get.branch [
  | in-Some-get+then-is_none w ↦
      rw w.lowest-is
      (Noted-first c.in-Some.slot w.in-Some-get.declared.now w.from-number.result c.loop-slot.invariant c.in-Some.ensures.lowest c.in-Some.ensures.below
      (got c.as_slice.ensures c.from.ensures w.in-Some-get.ensures.lookup.0 w.in-Some-get.ensures.lookup.1) w.from-number.ensures w.if-is_none.ensures)
  | in-Some-get+else-is_none w ↦
      rw w.lowest-is
      (Noted-again c.in-Some.slot w.in-Some-get.declared.now w.from-number.result c.loop-slot.invariant c.in-Some.ensures.lowest c.in-Some.ensures.below
      (got c.as_slice.ensures c.from.ensures w.in-Some-get.ensures.lookup.0 w.in-Some-get.ensures.lookup.1) w.from-number.ensures w.if-is_none.ensures)
  | in_default-get w ↦
      rw w.lowest-is
      (Noted-undeclared c.in-Some.slot c.loop-slot.invariant c.in-Some.ensures.lowest c.in-Some.ensures.below (missed c.as_slice.ensures c.from.ensures w.in_default-get.ensures.lookup.0))
]
