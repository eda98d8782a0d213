use Rattle.std.proofs.Common.{◌≡◌, ◌+◌, List, Some, ap, slice_get, subst, sym, ◌∙◌, arith}
use Rattle.std.proofs.lemmas.Option.{slice_get-get_or}
use Rattle.hwp_check_rules.specs.hwp_guest.declared.Admit.{Admit}
use Rattle.hwp_check_rules.specs.hwp_law.GuestRule.{denied}
use Rattle.hwp_check_rules.specs.hwp_report_text.declared.Answer.{Answer}
use Rattle.hwp_check_rules.specs.hwp_script_words.declared.Command.{Command}
use Rattle.hwp_check_processes.specs.Admission.{AreAdmissions}
use Rattle.hwp_check_processes.proofs.AdmissionLaws.{next-admission}
use Rattle.hwp_check_processes.proofs.admission.admissions.Goals as goal

pub loop-number-preserved : goal.loop-number-preserved
loop-number-preserved c =
    subst (λ (admits : List Admit). AreAdmissions c.args.layout.now c.args.commands.now c.args.pairs.now (c.loop-number.number + 1) admits) (sym c.in_ok-push.ensures.items)
    (next-admission c.args.layout.now c.args.commands.now c.args.pairs.now c.loop-number.number c.loop-number.admits.items c.index-commands-number.result c.admission.result
    (slice_get-get_or c.args.commands.now c.loop-number.number _ c.loop-number-test.true ∙ ap Some (sym c.index-commands-number.is))
    (c.admission.ensures ∙ ap (λ (p : List (Command × Answer)). denied c.args.layout.now p c.index-commands-number.result) c.before-in-loop-number.ensures) c.loop-number.invariant)
