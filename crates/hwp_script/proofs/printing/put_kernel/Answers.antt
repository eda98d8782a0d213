use Rattle.std.proofs.Common.{arith, refl}
use Rattle.hwp_script.specs.Text.{kernel_forms}
use Rattle.hwp_script.proofs.PutLaws.{put_numbered}
use Rattle.hwp_script.proofs.printing.put_kernel.Goals as goal

pub loop-number-preserved : goal.loop-number-preserved
loop-number-preserved c =
    put_numbered kernel_forms _ _ _ c.args.kernel.now c.loop-number.number _ _ (omega arith) c.loop-number.invariant c.in_ok-put_mark.ensures refl
