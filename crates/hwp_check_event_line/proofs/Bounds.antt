-- Behind which place a scrub can meet no bad line, frame by frame; and what it leaves in bank 1.
use Rattle.std.proofs.Common.{◌≡◌, ◌⊎◌, inl, inr, ℕ, zero, suc, ◌+◌, ◌-◌, ◌*◌, ◌<◌, cond, List, [], ◌∷◌, Option, None, refl, sym, ap, ◌∙◌, arith}
use Rattle.hwp_banks.specs.declared.Event.{Event}
use Rattle.hwp_law.specs.hwp_report_text.declared.Report.{Report}
use Rattle.hwp_law.specs.hwp_report_text.declared.EventLine.{EventLine}
use Rattle.hwp_check_event_line.specs.Scrubs.{Course, after, after_all, bound_from, can_meet_bad, turn}
use Rattle.hwp_check_event_line.specs.declared.reach.Reach.{Reach}
use Rattle.hwp_check_event_line.specs.declared.reach.Turn.{Turn}
use Rattle.hwp_check_event_line.specs.declared.reach.Turn.TheVariants as turns

module _ (report : Report) (low : ℕ → ℕ) where
  abbrev bound_by : ℕ → ℕ → ℕ
  bound_by bound frame = cond (can_meet_bad report low frame) (2 * frame + 1) bound

  bound-first : (bound frame more : ℕ) → 0 < more → bound_from report low bound frame more ≡ bound_from report low (bound_by bound frame) (frame + 1) (more - 1)
  bound-first bound frame zero some = absurd (omega (arith, some))
  bound-first bound frame (suc more) some = ap (bound_from report low (bound_by bound frame) (frame + 1)) (let e : more ≡ suc more - 1 = omega arith in e)

  pub bound-next : (first more number bound next whole : ℕ) → number < more → next ≡ bound_by bound (first + number) → bound_from report low bound (first + number) (more - number) ≡ whole → bound_from report low next (first + (number + 1)) (more - (number + 1)) ≡ whole
  bound-next first more number bound next whole within next_is was =
      ap (λ (b : ℕ). bound_from report low b (first + (number + 1)) (more - (number + 1))) next_is
      ∙ ap (λ (f : ℕ). bound_from report low (bound_by bound (first + number)) f (more - (number + 1))) (let e : first + (number + 1) ≡ first + number + 1 = omega arith in e)
      ∙ ap (bound_from report low (bound_by bound (first + number)) (first + number + 1)) (let e : more - (number + 1) ≡ more - number - 1 = omega arith in e)
      ∙ sym (bound-first bound (first + number) (more - number) (omega (arith, within))) ∙ was

-- a scrub leaves in bank 1 what it found there, or nothing
module _ (report : Report) (course : Course) where
  raw-kept : (lines : List EventLine) (reach : Reach) → ((after_all report course reach lines).raw ≡ reach.raw) ⊎ ((after_all report course reach lines).raw ≡ None)
  raw-kept [] reach = inl refl
  raw-kept (l ∷ ls) reach = elim (raw-kept ls (after course reach l (turn report course reach l))) [
    | inl same ↦ by (turn report course reach l) same
    | inr none ↦ inr none
  ]
    where
      by : (t : Turn) → (after_all report course (after course reach l (turn report course reach l)) ls).raw ≡ (after course reach l t).raw
          → ((after_all report course (after course reach l (turn report course reach l)) ls).raw ≡ reach.raw) ⊎ ((after_all report course (after course reach l (turn report course reach l)) ls).raw ≡ None)
      by turns.Beside same = inl same
      by turns.Bad same = inr same
      by turns.Weak same = inl same
      by turns.Instead same = inl same
      by turns.Stray same = inl same

  pub kept-by : (lines : List EventLine) (start end : Reach) (raw : Option Event) → end ≡ after_all report course start lines → start.raw ≡ raw → (end.raw ≡ raw) ⊎ (end.raw ≡ None)
  kept-by lines start end raw is start_is = elim (raw-kept lines start) [
    | inl same ↦ inl (ap (λ (r : Reach). r.raw) is ∙ same ∙ start_is)
    | inr none ↦ inr (ap (λ (r : Reach). r.raw) is ∙ none)
  ]
