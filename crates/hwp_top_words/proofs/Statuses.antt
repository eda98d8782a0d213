-- Which statuses calls end with.
use Rattle.std.specs.Prelude.{◌≡◌, ℕ, List, [], ◌∷◌, Contains, Bool, true, false, if◌then◌else◌, is_some, ◌⊎◌, Some}
use Rattle.std.proofs.Common.{lit<, refl, subst, sym, ◌∙◌, inl, inr, ◌≢◌}
use Rattle.std.proofs.lemmas.Option.{none-some, same_Some}
use Rattle.hwp_report.specs.hwp_report_text.declared.Report.{Report}
use Rattle.hwp_check.specs.hwp_check_rules.declared.verdicts.Verdict.{Verdict}
use Rattle.hwp_check.specs.hwp_check_rules.declared.verdicts.Verdict.TheVariants as verdicts
use Rattle.hwp_top_words.specs.Checked.{verdict_status}
use Rattle.hwp_top_words.specs.Statuses.{IsDone, done_status, told_text, write_fault_text}

-- the statuses of all calls
abbrev pub Listed : ℕ → Type 0
Listed n = Contains (0 ∷ 1 ∷ 2 ∷ 3 ∷ 4 ∷ 5 ∷ 6 ∷ 8 ∷ []) n

pub done_is_listed : (n : ℕ) → IsDone n → Listed n
done_is_listed n (inl zero) = subst Listed (sym zero) (0, lit< tt, refl)
done_is_listed n (inr (inl one)) = subst Listed (sym one) (1, lit< tt, refl)
done_is_listed n (inr (inr eight)) = subst Listed (sym eight) (7, lit< tt, refl)

pub fault_is_listed : (n : ℕ) → (n ≡ 3) ⊎ ((n ≡ 4) ⊎ (n ≡ 6)) → Listed n
fault_is_listed n (inl is) = subst Listed (sym is) (3, lit< tt, refl)
fault_is_listed n (inr (inl is)) = subst Listed (sym is) (4, lit< tt, refl)
fault_is_listed n (inr (inr is)) = subst Listed (sym is) (6, lit< tt, refl)

pub report_is_done : (report : Report) → IsDone (done_status report)
report_is_done report = by (is_some report.stop)
  where
    by : (stopped : Bool) → IsDone (if stopped then 8 else 0)
    by true = inr (inr refl)
    by false = inl refl

pub verdict_is_done : (verdict : Verdict) → IsDone (verdict_status verdict)
verdict_is_done verdicts.Legal = inl refl
verdict_is_done (verdicts.Not line rule) = inr (inl refl)

-- what is delivered is written, or a part of it is
pub delivered_somehow : (status n : ℕ) → IsDone status → (n ≡ status) ⊎ (n ≡ 5) → (IsDone n → ⊥) → n ≢ 5 → ⊥
delivered_somehow status n done (inl whole) not_done not_cut = not_done (subst IsDone (sym whole) done)
delivered_somehow status n done (inr cut) not_done not_cut = not_cut cut

-- the text that is told where a delivery fails is that of a failed write, and where it doesn't there is none
pub told_of_delivery : (told : List ℕ → Type 0) (status n : ℕ) (text : List ℕ) → IsDone status → (n ≡ status) ⊎ (n ≡ 5) → (n ≡ 5 → told write_fault_text) → told_text n ≡ Some text → told text
told_of_delivery told status n text (inl zero) (inl whole) cut is = absurd (none-some text (subst (λ (m : ℕ). told_text m ≡ Some text) (whole ∙ zero) is))
told_of_delivery told status n text (inr (inl one)) (inl whole) cut is = absurd (none-some text (subst (λ (m : ℕ). told_text m ≡ Some text) (whole ∙ one) is))
told_of_delivery told status n text (inr (inr eight)) (inl whole) cut is = absurd (none-some text (subst (λ (m : ℕ). told_text m ≡ Some text) (whole ∙ eight) is))
told_of_delivery told status n text done (inr five) cut is = subst told (same_Some write_fault_text text (subst (λ (m : ℕ). told_text m ≡ Some text) five is)) (cut five)

-- the statuses of a call that gives one run, by its report or its trace: all of the list but 1, which is a verdict's
abbrev pub RunStatus : ℕ → Type 0
RunStatus n = Contains (0 ∷ 2 ∷ 3 ∷ 4 ∷ 5 ∷ 6 ∷ 8 ∷ []) n

pub fault_is_run_status : (n : ℕ) → (n ≡ 3) ⊎ ((n ≡ 4) ⊎ (n ≡ 6)) → RunStatus n
fault_is_run_status n (inl is) = subst RunStatus (sym is) (2, lit< tt, refl)
fault_is_run_status n (inr (inl is)) = subst RunStatus (sym is) (3, lit< tt, refl)
fault_is_run_status n (inr (inr is)) = subst RunStatus (sym is) (5, lit< tt, refl)

pub report_is_run_status : (report : Report) → RunStatus (done_status report)
report_is_run_status report = by (is_some report.stop)
  where
    by : (stopped : Bool) → RunStatus (if stopped then 8 else 0)
    by true = (6, lit< tt, refl)
    by false = (0, lit< tt, refl)
