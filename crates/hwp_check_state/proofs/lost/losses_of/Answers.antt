use Rattle.std.proofs.Common.{◌∙◌, arith}
use Rattle.hwp_check_state.proofs.LostLaws.{losses-end, losses-next}
use Rattle.hwp_check_state.proofs.lost.losses_of.Goals as goal

pub loop-page-preserved : goal.loop-page-preserved
loop-page-preserved c =
    losses-next c.args.kinds.now c.args.pages.now c.loop-page.page _ _ c.as_slice.result.now c.loop-page.out.items c.add_kind.new.out.items (omega arith) (omega arith)
    (c.as_slice.ensures ∙ c.index-pages-page.is) c.loop-page.invariant c.in_ok-add_kind.ensures

pub returns : goal.returns
returns c = c.loop-page.invariant ∙ losses-end c.args.kinds.now c.args.pages.now c.loop-page.page (omega arith)
