use Rattle.std.proofs.Common.{arith, refl}
use Rattle.hwp_script.specs.Text.{cow_forms}
use Rattle.hwp_script.proofs.PutLaws.{put_numbered}
use Rattle.hwp_script.proofs.printing.put_cows.Goals as goal

pub loop-number-preserved : goal.loop-number-preserved
loop-number-preserved c =
    put_numbered cow_forms _ _ _ c.args.twins.now c.loop-number.number _ _ (omega arith) c.loop-number.invariant c.in_ok-put_twin.ensures refl
