use Rattle.std.proofs.Common.{◌∙◌, arith}
use Rattle.hwp_cpu_row.proofs.CowListLaws.{acting-known, copied-known, first-are, first-known, frozen-step, frozen-whole, told-are, told-known}
use Rattle.hwp_cpu_row.proofs.cows.freeze.Goals as goal

pub loop-number-preserved : goal.loop-number-preserved
loop-number-preserved c =
    let (are, long) = c.loop-number.invariant in (
      frozen-step c.args.layout.now c.args.thread c.loop-number.number c.loop-number.cows.items c.args.cows.now.items c.freeze_one.new.cows.items c.freezes_slot-freezes.result are (omega (arith, c.loop-number-test.true)) c.freezes_slot-freezes.ensures c.freeze_one.ensures.items,
      c.freeze_one.ensures.len ∙ long,
    )
