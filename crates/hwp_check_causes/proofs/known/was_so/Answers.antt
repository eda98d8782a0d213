use Rattle.std.proofs.Common.{◌↔◌, IsTrue, sym, subst}
use Rattle.hwp_check_evidence.specs.hwp_report_text.declared.Answer.{Answer}
use Rattle.hwp_check_evidence.specs.hwp_law.States.{HadState}
use Rattle.hwp_check_causes.specs.Asking.{IsSo}
use Rattle.hwp_check_causes.specs.Cases.{CaseValue}
use Rattle.hwp_check_causes.proofs.known.was_so.Goals as goal

pub returns-in-NotResident : goal.returns-in-NotResident
returns-in-NotResident c =
    subst (λ (v : CaseValue). IsTrue c.was_away.result ↔ HadState v.script.layout v.report.pages c.args.at (IsSo v.command c.args.answer.now)) c.case.view_is
    (subst (λ (a : Answer). IsTrue c.was_away.result ↔ HadState c.case.inside.script.now.layout c.case.inside.report.now.pages c.args.at (IsSo c.case.inside.command.now a)) (sym c.in-NotResident.is)
    (rw c.as_slice-pages.ensures at c.was_away.ensures))

pub returns-in-Dirty : goal.returns-in-Dirty
returns-in-Dirty c =
    subst (λ (v : CaseValue). IsTrue c.was_dirty.result ↔ HadState v.script.layout v.report.pages c.args.at (IsSo v.command c.args.answer.now)) c.case.view_is
    (subst (λ (a : Answer). IsTrue c.was_dirty.result ↔ HadState c.case.inside.script.now.layout c.case.inside.report.now.pages c.args.at (IsSo c.case.inside.command.now a)) (sym c.in-Dirty.is)
    (rw c.as_slice-pages.ensures at c.was_dirty.ensures))

pub returns-in-Mapped : goal.returns-in-Mapped
returns-in-Mapped c =
    subst (λ (v : CaseValue). IsTrue c.was_mapped.result ↔ HadState v.script.layout v.report.pages c.args.at (IsSo v.command c.args.answer.now)) c.case.view_is
    (subst (λ (a : Answer). IsTrue c.was_mapped.result ↔ HadState c.case.inside.script.now.layout c.case.inside.report.now.pages c.args.at (IsSo c.case.inside.command.now a)) (sym c.in-Mapped.is)
    (rw c.as_slice-pages.ensures at c.was_mapped.ensures))

pub returns-in-Locked : goal.returns-in-Locked
returns-in-Locked c =
    subst (λ (v : CaseValue). IsTrue c.was_locked.result ↔ HadState v.script.layout v.report.pages c.args.at (IsSo v.command c.args.answer.now)) c.case.view_is
    (subst (λ (a : Answer). IsTrue c.was_locked.result ↔ HadState c.case.inside.script.now.layout c.case.inside.report.now.pages c.args.at (IsSo c.case.inside.command.now a)) (sym c.in-Locked.is)
    (rw c.as_slice-pages.ensures at c.was_locked.ensures))
