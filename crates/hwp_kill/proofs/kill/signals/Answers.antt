use Rattle.std.proofs.Common.{arith}
use Rattle.hwp_kill.proofs.Tables.{DueBelow-unused, DueBelow-unreached, DueBelow-next, DueBelow-all}
use Rattle.hwp_kill.proofs.kill.signals.Goals as goal

pub loop-number-preserved-in_default : goal.loop-number-preserved-in_default
loop-number-preserved-in_default c =
    DueBelow-unused _ c.from.result c.loop-number.invariant (c.lowest_slots-lowest.ensures c.loop-number.number (omega arith)) c.from.ensures c.in_default.is

pub loop-number-preserved-in_default-reached : goal.loop-number-preserved-in_default-reached
loop-number-preserved-in_default-reached c =
    DueBelow-unreached c.loop-number.invariant (rw c.as_slice.ensures at c.in_default-reached.ensures)

pub loop-number-preserved : goal.loop-number-preserved
loop-number-preserved c =
    rw c.push.ensures (DueBelow-next _ c.from.result c.in-Some-reached.thread c.in-Some-reached.code c.in-Some.slot c.loop-number.invariant
    (c.lowest_slots-lowest.ensures c.loop-number.number (omega arith)) c.from.ensures c.in-Some.is
    (rw c.as_slice.ensures at c.in-Some-reached.ensures))

pub returns : goal.returns
returns c = rw c.if-not-signals_at_all.false (DueBelow-all c.requires c.loop-number.invariant c.loop-number-test.false)
