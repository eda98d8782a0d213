use Rattle.std.proofs.Common.{arith, refl}
use Rattle.hwp_script.specs.Text.{page_forms}
use Rattle.hwp_script.proofs.PutLaws.{put_numbered}
use Rattle.hwp_script.proofs.printing.put_pages.Goals as goal

pub loop-number-preserved : goal.loop-number-preserved
loop-number-preserved c =
    put_numbered (page_forms c.args.locked.now) _ _ _ c.args.pages.now c.loop-number.number _ _ (omega arith) c.loop-number.invariant c.in_ok-put_page.ensures refl
