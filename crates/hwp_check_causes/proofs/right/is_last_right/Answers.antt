use Rattle.std.proofs.Common.{◌≡◌, ◌↔◌, IsTrue, sym, subst}
use Rattle.hwp_check_evidence.specs.hwp_kill.declared.Policy.{Policy}
use Rattle.hwp_check_evidence.specs.hwp_kill.Prctl.{reply}
use Rattle.hwp_check_evidence.specs.hwp_script_words.declared.Command.{Command}
use Rattle.hwp_check_evidence.specs.hwp_law.Outcomes.{reply_answer}
use Rattle.hwp_check_evidence.specs.hwp_law.Settings.{arguments}
use Rattle.hwp_check_evidence.specs.hwp_law.Policies.{policy_before}
use Rattle.hwp_check_causes.specs.Cases.{CaseValue}
use Rattle.hwp_check_causes.specs.Causing.{IsLast}
use Rattle.hwp_check_causes.proofs.right.is_last_right.Goals as goal

pub returns-in-Prctl : goal.returns-in-Prctl
returns-in-Prctl c =
    let old : c.case.inside.told.old ≡ policy_before c.case.inside.script.now c.case.inside.report.now c.case.inside.who c.in-Prctl.thread = c.case.invariant.told.old c.in-Prctl.thread c.in-Prctl.args c.small.ensures c.in-Prctl.is in
    subst (λ (v : CaseValue). IsTrue c.is_reply.result ↔ IsLast v.script v.report v.who v.command c.args.answer.now) c.case.view_is
    (subst (λ (x : Command). IsTrue c.is_reply.result ↔ IsLast c.case.inside.script.now c.case.inside.report.now c.case.inside.who x c.args.answer.now) (sym c.in-Prctl.is)
    (subst (λ (p : Policy). IsTrue c.is_reply.result ↔ (c.args.answer.now ≡ reply_answer (reply p (arguments c.in-Prctl.args)))) old c.is_reply.ensures))
