use Rattle.std.proofs.Common.{◌∙◌}
use Rattle.hwp_script.specs.Machine.{is_guest}
use Rattle.hwp_script.proofs.Lists.{first-more, first-none}
use Rattle.hwp_script.proofs.machine.guests.Goals as goal

pub loop-process-init : goal.loop-process-init
loop-process-init c = c.new-guests.ensures ∙ first-none is_guest

pub loop-process-preserved : goal.loop-process-preserved
loop-process-preserved c = c.in_ok-push.ensures ∙ first-more is_guest c.loop-process._process c.loop-process.guests c.loop-process.invariant
