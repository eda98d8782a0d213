use Rattle.std.proofs.Common.{◌≡◌, ◌≤◌, List, None, fold, length, replicate, ap, ◌∙◌, sym, subst, arith}
use Rattle.std.proofs.lemmas.List.{at_drop_more}
use Rattle.hwp_law.specs.hwp_report_text.declared.CpuLine.{CpuLine}
use Rattle.hwp_check_evidence.specs.Firsts.{AreAnswersOf, answered_by}
use Rattle.hwp_check_evidence.proofs.FirstLaws.{answers_are}
use Rattle.hwp_check_evidence.proofs.WindowLaws.{past-empty}
use Rattle.hwp_check_evidence.proofs.firsts.first_answers.Goals as goal

pub returns-clause-answers : goal.returns-clause-answers
returns-clause-answers c =
    let past : length c.args.rows.now ≤ c.loop-row.row-index = let e = c.loop-row-test.false in let a = c.loop-row.auto.row-index-end in omega arith in
    let all : fold answered_by (replicate c.args.commands None) c.args.rows.now ≡ c.loop-row.list.items =
    sym c.loop-row.invariant ∙ ap (λ (l : List CpuLine). fold answered_by c.loop-row.list.items l) (past-empty c.args.rows.now c.loop-row.row-index past) in
    subst (AreAnswersOf c.args.rows.now) all (answers_are c.args.rows.now c.args.commands)

pub loop-row-preserved : goal.loop-row-preserved
loop-row-preserved c = rw c.note.ensures (sym (at_drop_more (fold answered_by c.loop-row.list.items) c.args.rows.now c.loop-row.row-index _ c.loop-row-test.true) ∙ c.loop-row.invariant)
