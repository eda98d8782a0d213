use Rattle.std.proofs.Common.{arith}
use Rattle.hwp_cpu_control.proofs.fork.Targets.of.Goals as goal
use Rattle.hwp_cpu_control.proofs.ForkTargets.{threads-next, undeclared}

pub loop-number-preserved : goal.loop-number-preserved
loop-number-preserved c =
    let within = rw c.as_slice-thread-items.ensures at c.loop-number-test.true in
    let more = c.push.ensures.few in
    let was = c.loop-number.invariant.0 in
    (omega (arith, more, was), c.push.ensures.room, threads-next c.args.process c.args.layout.now.threads c.loop-number.number undeclared _ _ within c.loop-number.invariant.2 (rw c.as_slice-thread-items.ensures at c.push.ensures.listed))
