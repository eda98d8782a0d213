use Rattle.std.proofs.Common.{◌≡◌, Some, ◌∙◌, sym, true≢false}
use Rattle.hwp_check_evidence.specs.hwp_law.Commands.{process_at}
use Rattle.hwp_check_answers.proofs.JudgeLaws.{is_revived, revived_is}
use Rattle.hwp_check_answers.proofs.judging.is_revived.Goals as goal

pub returns-in-Some : goal.returns-in-Some
returns-in-Some c =
    let g = c.args.given.now in
    let is : process_at g.script g.who ≡ Some c.in-Some.process = sym c.process_of.ensures ∙ c.in-Some.is in (
      λ t. revived_is g.script g.report g.who g.answer c.in-Some.process is (λ over. true≢false (sym (c.is_over.ensures.1 over) ∙ c.if-is_over.false)) (c.was_over.ensures.0 t),
      λ r. c.was_over.ensures.1 (is_revived g.script g.report g.who g.answer c.in-Some.process is r),
    )
