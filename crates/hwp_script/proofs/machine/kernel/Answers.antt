use Rattle.std.proofs.Common.{◌∙◌}
use Rattle.hwp_script.specs.Machine.{is_kernel}
use Rattle.hwp_script.proofs.Lists.{first-more, first-none}
use Rattle.hwp_script.proofs.machine.kernel.Goals as goal

pub loop-frame-init : goal.loop-frame-init
loop-frame-init c = c.new-kernel.ensures ∙ first-none is_kernel

pub loop-frame-preserved : goal.loop-frame-preserved
loop-frame-preserved c = c.in_ok-push.ensures ∙ first-more is_kernel c.loop-frame.frame c.loop-frame.kernel c.loop-frame.invariant
