use Rattle.std.proofs.Common.{◌≡◌, ◌↔◌, ◌∙◌, List, IsTrue, ap, subst}
use Rattle.hwp_check_evidence.specs.hwp_geom.declared.Who.{Who}
use Rattle.hwp_check_evidence.specs.hwp_page.declared.Entry.{Entry}
use Rattle.hwp_check_evidence.specs.hwp_report_text.declared.Report.{Report}
use Rattle.hwp_check_evidence.specs.Firsts.{is_named}
use Rattle.hwp_check_evidence.specs.Named.{HasOther}
use Rattle.hwp_check_rules.specs.AnswerFaults.{IsUnnamed}
use Rattle.hwp_check_answers.specs.Values.{AnswerValue}
use Rattle.hwp_check_answers.proofs.JudgeLaws.{is_unnamed, unnamed_is}
use Rattle.hwp_check_answers.proofs.judging.is_unnamed.Goals as goal
use Rattle.hwp_check_rules.specs.hwp_check_event_line.Reading.{copies_in}

pub returns : goal.returns
returns c =
    let case = c.given.inside.case in
    let answer = c.given.inside.answer.now in
    let naming = c.given.inside.naming.now in
    let copies = c.given.inside.copies.now in
    let known = c.given.invariant.are_named in
    let pages : c.as_slice-pages.result.now ≡ case.report.pages = c.as_slice-pages.ensures ∙ ap (λ (r : Report). r.pages) c.report.ensures in
    let told : IsTrue c.is_elsewhere.result ↔ HasOther case.report.pages (copies_in copies) case.who (is_named naming.names case.who.seq) =
    subst (λ (w : Who). IsTrue c.is_elsewhere.result ↔ HasOther case.report.pages (copies_in copies) w (is_named naming.names w.seq)) c.who.ensures
    (subst (λ (ps : List (List Entry)). IsTrue c.is_elsewhere.result ↔ HasOther ps (copies_in copies) c.who.result (is_named naming.names c.who.result.seq)) pages c.is_elsewhere.ensures) in
    subst (λ (v : AnswerValue). IsTrue c.is_elsewhere.result ↔ IsUnnamed (copies_in v.copies) v.report v.who v.answer) c.given.view_is
    (λ t. unnamed_is (copies_in copies) case.report case.who answer naming known (told.0 t), λ u. told.1 (is_unnamed (copies_in copies) case.report case.who answer naming known u))
