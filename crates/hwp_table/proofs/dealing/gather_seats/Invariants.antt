use Rattle.std.proofs.Common.{length}
use Rattle.hwp_table.specs.Seats.{AreThese, Gathering, IsGathered}
use Rattle.hwp_table.proofs.dealing.gather_seats.Given as goal

abbrev pub invariant-loop-seat : goal.invariant-loop-seat
invariant-loop-seat g l = (t : Gathering) → AreThese g.W.Ways.ways t l.fn.sheet.table_id l.fn.seats.items → IsGathered t.table t.layout l.fn.seats.items t.holder t.whole l.seats.items l.pass.table_id l.pass.me

abbrev pub decreases-loop-seat : goal.decreases-loop-seat
decreases-loop-seat g l = length l.seats.items
