use Rattle.std.proofs.Common.{length, ap, arith}
use Rattle.hwp_claim_act.proofs.failing.endings.Goals as goal

pub push-requires : goal.push-requires
push-requires c =
    let few = c.as_slice-signal-items.ensures.few in
    let same = ap (λ l. length l) c.as_slice-signal-items.ensures.signals in
    let here = c.loop-signal-test.true in
    let below = c.loop-signal.invariant.1 in
    omega (arith, few, same, here, below)
