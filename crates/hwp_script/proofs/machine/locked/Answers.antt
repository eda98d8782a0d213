use Rattle.std.proofs.Common.{◌∙◌}
use Rattle.hwp_script.specs.Machine.{is_locked}
use Rattle.hwp_script.proofs.Lists.{first-more, first-none}
use Rattle.hwp_script.proofs.machine.locked.Goals as goal

pub loop-page-init : goal.loop-page-init
loop-page-init c = c.new-locked.ensures ∙ first-none is_locked

pub loop-page-preserved : goal.loop-page-preserved
loop-page-preserved c = c.in_ok-push.ensures ∙ first-more is_locked c.loop-page._page c.loop-page.locked c.loop-page.invariant
