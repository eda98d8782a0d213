use Rattle.std.proofs.Common.{◌≡◌, ◌<◌, ◌==◌, false, List, length, sym, subst, arith}
use Rattle.std.proofs.lemmas.Bool.{eqb-true, eqb-false}
use Rattle.std.proofs.lemmas.List.{length-map}
use Rattle.std.proofs.lemmas.Result.{IfOk-from_err}
use Rattle.hwp_script_lines.proofs.TurnLaws.{turns-good, turns-bad, turns-over, turns-unknown, turns-shaped, turns-high, turns-first, turns-last}
use Rattle.hwp_script_lines.proofs.turns.read_schedule.Goals as goal
use Rattle.hwp_script_lines.proofs.turns.read_schedule.Goals.{in-Ok+in_ok-push-in-Ok, in-Err-OverLimit, in-Err-BadNumber}

-- words that aren't empty
some-words : {A : Type 0} (words : List A) → false ≡ (length words == 0) → 0 < length words
some-words words some = let no = eqb-false (length words) 0 (sym some) in omega (arith, no)

pub returns-then-is_empty : goal.returns-then-is_empty
returns-then-is_empty c = λ h.
    let none = eqb-true (length c.args.words.now) 0 (sym c.if-is_empty.ensures) in
    let some : 0 < length c.args.words.now = subst (λ n. 0 < n) (length-map c.args.words.now (λ w. w.now)) h.0 in omega (arith, none, some)

pub loop-word-init : goal.loop-word-init
loop-word-init c = turns-first _ c.new-turns.result.items c.new-turns.ensures.items

pub returns-in_err-turn : goal.returns-in_err-turn
returns-in_err-turn c = IfOk-from_err _ _ c.from_residual.ensures.0

pub returns-in_err-push-in-Ok : goal.returns-in_err-push-in-Ok
returns-in_err-push-in-Ok c = IfOk-from_err _ _ c.from_residual-in_err-push-in-Ok.ensures.0

pub loop-word-preserved : goal.loop-word-preserved
loop-word-preserved c = elim c.match-branch-2.branch [
  | in-Ok+in_ok-push-in-Ok w ↦ rw (w.turns-is, w.is_bad-is, w.is_over-is, w.in_ok-push-in-Ok.ensures.items)
      (turns-good c.args.words.now c.loop-word.word-index _ c.loop-word.turns.items c.loop-word.is_bad c.loop-word.is_over _ c.loop-word.invariant (omega arith) (rw w.in-Ok.is at c.in_ok-turn.ensures))
  | in-Err-OverLimit w ↦ let over = rw (w.in-Err-OverLimit.is, w.in-Err-OverLimit.field-0-is) at c.in_ok-turn.ensures in rw (w.turns-is, w.is_bad-is, w.is_over-is)
      (turns-over c.args.words.now c.loop-word.word-index _ c.loop-word.turns.items c.loop-word.is_bad c.loop-word.is_over c.loop-word.invariant (omega arith) over)
  | in-Err-BadNumber w ↦ let bad = rw (w.in-Err-BadNumber.is, w.in-Err-BadNumber.field-0-is) at c.in_ok-turn.ensures in rw (w.turns-is, w.is_bad-is, w.is_over-is)
      (turns-bad c.args.words.now c.loop-word.word-index _ c.loop-word.turns.items c.loop-word.is_bad c.loop-word.is_over c.loop-word.invariant (omega arith) bad.0 bad.1)
]

pub returns-in-Err-Unknown : goal.returns-in-Err-Unknown
returns-in-Err-Unknown c = λ h.
    turns-unknown c.args.words.now c.loop-word.word-index _ (omega arith) (rw (c.in-Err-Unknown.is, c.in-Err-Unknown.field-0-is) at c.in_ok-turn.ensures) h.1

pub returns-then-is_bad : goal.returns-then-is_bad
returns-then-is_bad c = (
  (rw length-map (some-words c.args.words.now c.if-is_empty.ensures), turns-shaped c.args.words.now c.loop-word.word-index c.loop-word.turns.items c.loop-word.is_bad c.loop-word.is_over c.loop-word.invariant (omega arith)),
  c.loop-word.invariant.ill c.if-is_bad.true,
)

pub returns-then-is_over : goal.returns-then-is_over
returns-then-is_over c =
    turns-high c.args.words.now c.loop-word.word-index c.loop-word.turns.items c.loop-word.is_bad c.loop-word.is_over c.loop-word.invariant c.if-is_bad.false c.if-is_over.true (omega arith) (some-words c.args.words.now c.if-is_empty.ensures)

pub returns-else-is_over : goal.returns-else-is_over
returns-else-is_over c =
    rw c.from_vec.ensures
    (turns-last c.args.words.now c.loop-word.word-index c.loop-word.turns.items c.loop-word.is_bad c.loop-word.is_over c.loop-word.invariant c.if-is_bad.false c.if-is_over.false (omega arith) (some-words c.args.words.now c.if-is_empty.ensures))
