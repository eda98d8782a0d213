use Rattle.std.proofs.Common.{arith, ◌∙◌}
use Rattle.hwp_script.specs.Text.{list_forms}
use Rattle.hwp_script.proofs.PutLaws.{put_numbered}
use Rattle.hwp_script.proofs.printing.put_lists.Goals as goal

pub loop-number-preserved : goal.loop-number-preserved
loop-number-preserved c =
    put_numbered list_forms _ _ _ c.args.lists.now c.loop-number.number _ _ (omega arith) c.loop-number.invariant c.in_ok-put_list.ensures
    (c.as_slice.ensures ∙ c.index-lists-number.is)
