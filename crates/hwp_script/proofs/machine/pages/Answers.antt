use Rattle.std.proofs.Common.{◌∷◌, ◌++◌, [], ap, ◌∙◌}
use Rattle.hwp_script_read.specs.hwp_geom.declared.PageKind.{PageKind}
use Rattle.hwp_script.specs.Machine.{page_kind}
use Rattle.hwp_script.proofs.Lists.{first-more, first-none}
use Rattle.hwp_script.proofs.machine.pages.Goals as goal

pub loop-page-init : goal.loop-page-init
loop-page-init c = c.new-pages.ensures ∙ first-none page_kind

pub loop-page-preserved : goal.loop-page-preserved
loop-page-preserved c = c.in_ok-push.ensures ∙ ap (λ (k : PageKind). c.loop-page.pages ++ k ∷ []) c.kind_of.ensures ∙ first-more page_kind c.loop-page.page c.loop-page.pages c.loop-page.invariant
