use Rattle.std.proofs.Common.{rules, arith, refl, true≢false, sym}
use Rattle.std.proofs.lemmas.Option.{slice_get-get_or}
use Rattle.hwp_check_rules.proofs.AnswersByRow.{count-next}
use Rattle.hwp_check_answers.proofs.InPlace.{all-in-place, first-out-is, in-place-next}
use Rattle.hwp_check_answers.proofs.placing.first_out.Goals as goal

pub loop-number-init : goal.loop-number-init
loop-number-init c = (refl, omega arith, λ row line low there. absurd (omega (arith, low)))

pub loop-number-preserved : goal.loop-number-preserved
loop-number-preserved c = (
  count-next c.args.rows.now c.loop-number.number _ c.loop-number.answered c.from-answered.result c.is_answer.result c.loop-number-test.true c.loop-number.invariant.0 c.is_answer.ensures (search rules),
  search rules,
  in-place-next c.args.commands.now c.args.rows.now c.loop-number.number c.loop-number.answered _ (slice_get-get_or c.args.rows.now c.loop-number.number _ c.loop-number-test.true) c.loop-number.invariant.0
      (c.if-not-is_of_next.ensures.0 (search rules)) c.loop-number.invariant.2,
)

pub returns-then-not-is_of_next : goal.returns-then-not-is_of_next
returns-then-not-is_of_next c =
    first-out-is c.args.commands.now c.args.rows.now c.loop-number.number c.loop-number.answered _ (slice_get-get_or c.args.rows.now c.loop-number.number _ c.loop-number-test.true) c.loop-number.invariant.0
    (λ is. true≢false (sym (c.if-not-is_of_next.ensures.1 is))) c.loop-number.invariant.2

pub returns : goal.returns
returns c = all-in-place c.args.commands.now c.args.rows.now c.loop-number.number c.loop-number-test.false c.loop-number.invariant.2
