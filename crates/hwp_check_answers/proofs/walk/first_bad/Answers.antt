use Rattle.std.proofs.Common.{ℕ, ◌+◌, ◌<◌, ◌≤◌, subst, arith}
use Rattle.hwp_check_answers.specs.Judging.{IsNextOf}
use Rattle.hwp_check_answers.specs.Walk.{AreSoFarAt, answered_before}
use Rattle.hwp_check_answers.proofs.SoFarLaws.{so_far_next}
use Rattle.hwp_check_answers.proofs.NextLaws.{next_of}
use Rattle.hwp_check_answers.proofs.WalkLaws.{good_more, next_count}
use Rattle.hwp_check_answers.proofs.walk.first_bad.Goals as goal

pub is_good_row-requires-clause-next : goal.is_good_row-requires-clause-next
is_good_row-requires-clause-next c =
    let low : c.loop-number.number < c.args.end = c.loop-number-test.true in
    next_of c.args.processor.now.commands c.args.processor.now.rows c.loop-number.number c.line-row.result.now c.line-row.ensures.there (λ row line less is. c.requires.places row line (omega (arith, less, low)) is)

pub returns-then-not-is_good_row : goal.returns-then-not-is_good_row
returns-then-not-is_good_row c = record {
  line = c.line-row.result.now;
  within = c.loop-number-test.true;
  there = c.line-row.ensures.there;
  bad = c.if-not-is_good_row.ensures;
  before = c.loop-number.invariant.1;
}

pub loop-number-preserved : goal.loop-number-preserved
loop-number-preserved c =
    let p = c.args.processor.now in
    let n = c.loop-number.number in
    let row = c.line-row.result.now in
    let low : n < c.args.end = c.loop-number-test.true in
    let next : IsNextOf p.rows (answered_before p n) row = next_of p.commands p.rows n row c.line-row.ensures.there (λ r line less is. c.requires.places r line (omega (arith, less, low)) is) in (
      subst (λ (seq : ℕ). AreSoFarAt p (n + 1) seq c.note.new.so_far) (next_count p.rows n row c.line-row.ensures.there)
          (so_far_next p.script p.report p.cpu p.rows c.line-row.ensures.shown n (answered_before p n) row c.loop-number.so_far c.note.new.so_far c.line-row.ensures.there next c.loop-number.invariant.0 c.note.ensures.floors c.note.ensures.gone),
      good_more p.script p.report p.cpu p.commands p.rows n row c.line-row.ensures.there c.if-not-is_good_row.ensures c.loop-number.invariant.1,
    )

pub returns : goal.returns
returns c = λ row line less is.
    let past : c.args.end ≤ c.loop-number.number = let e = c.loop-number-test.false in let a = c.loop-number.auto.number-end in omega arith in
    c.loop-number.invariant.1 row line (omega (arith, less, past)) is
