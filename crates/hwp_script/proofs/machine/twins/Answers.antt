use Rattle.std.proofs.Common.{◌∙◌}
use Rattle.hwp_script.specs.Machine.{twin_decl}
use Rattle.hwp_script.proofs.Lists.{first-more, first-none}
use Rattle.hwp_script.proofs.machine.twins.Goals as goal

pub loop-slot-init : goal.loop-slot-init
loop-slot-init c = c.new-twins.ensures ∙ first-none twin_decl

pub loop-slot-preserved : goal.loop-slot-preserved
loop-slot-preserved c = c.in_ok-push.ensures ∙ first-more twin_decl c.loop-slot._slot c.loop-slot.twins c.loop-slot.invariant
