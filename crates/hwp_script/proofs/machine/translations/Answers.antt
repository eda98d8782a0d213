use Rattle.std.proofs.Common.{◌∷◌, ◌++◌, [], ap, ◌∙◌}
use Rattle.hwp_script_read.specs.hwp_geom.declared.TransDecl.{TransDecl}
use Rattle.hwp_script.specs.Machine.{trans_decl}
use Rattle.hwp_script.proofs.Lists.{first-more, first-none}
use Rattle.hwp_script.proofs.machine.translations.Goals as goal

pub loop-slot-init : goal.loop-slot-init
loop-slot-init c = c.new-trans.ensures ∙ first-none trans_decl

pub loop-slot-preserved : goal.loop-slot-preserved
loop-slot-preserved c = c.in_ok-push.ensures ∙ ap (λ (t : TransDecl). c.loop-slot.trans ++ t ∷ []) c.translation_of.ensures ∙ first-more trans_decl c.loop-slot.slot c.loop-slot.trans c.loop-slot.invariant
