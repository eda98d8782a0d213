-- The rule of answers is broken by the lowest of three lines: the first by the script that was acted on, the first by a word that isn't
-- private, and the first by what guests were told.
use Rattle.std.proofs.Common.{◌≡◌, ◌⊎◌, inl, inr, ℕ, ◌<◌, ◌≤◌, min, List, length, Option, Some, None, MatchOption, subst, sym, ◌∙◌, arith}
use Rattle.std.proofs.lemmas.Bool.{cases_lt}
use Rattle.hwp_check_rules.specs.hwp_check_event_line.Scripts.{IsDeclared}
use Rattle.hwp_check_rules.specs.hwp_geom.declared.VSlot.{VSlot}
use Rattle.hwp_check_rules.specs.hwp_law.Acting.{acting_script, copied_at}
use Rattle.hwp_check_rules.specs.hwp_law.Guests.{AreGuestsKept}
use Rattle.hwp_check_rules.specs.hwp_law.Private.{ArePrivate}
use Rattle.hwp_check_rules.specs.hwp_report_text.declared.Report.{Report}
use Rattle.hwp_check_rules.specs.hwp_script_words.declared.Script.{Script}
use Rattle.hwp_check_rules.specs.hwp_script_words.Valid.{IsValid}
use Rattle.hwp_check_rules.specs.AnswerFaults.{IsAnswerFault, IsPrivateFault}
use Rattle.hwp_check_rules.specs.GuestFaults.{IsGuestFault}
use Rattle.hwp_check_rules.specs.Firsts.{IsClear, IsFirstFault, IsLeast, soonest}
use Rattle.hwp_check_rules.specs.Rules.{AnswersFit, ShapeFits}
use Rattle.hwp_check_rules.specs.Verdicts.{HoldBelow, Holds, IsBroken}
use Rattle.hwp_check_rules.specs.declared.Rule.TheVariants.{Answers, Shape}
use Rattle.hwp_check.proofs.ActedWhole.{valid_is_declared}
use Rattle.hwp_check.proofs.GuestJoin.{guests-broken, guests-hold}

-- ---- a rule that asks for more

module _ (Fit Whole : Type 0) (Wrong Told : ℕ → Type 0) where
  abbrev Judged : Option ℕ → Type 0
  Judged found = MatchOption found (IsClear Fit Wrong) (IsFirstFault Fit Wrong)

  -- no line breaks what is asked besides, and then it holds where the rest does; or this is the first that does
  abbrev Besides : Option ℕ → Type 0
  Besides found = MatchOption found ((Fit → Whole) × ((line : ℕ) → Told line → ⊥)) (IsLeast Told)

  more : (first second : Option ℕ) → ((line : ℕ) → Told line → Fit → Whole → ⊥) → Judged first → Besides second
      → MatchOption (soonest first second) (IsClear (Fit × Whole) (λ line. Wrong line ⊎ Told line)) (IsFirstFault (Fit × Whole) (λ line. Wrong line ⊎ Told line))
  more None None breaks clear none = record { fits = (clear.fits, none.0 clear.fits); none = λ line fault. elim fault [ inl wrong ↦ clear.none line wrong | inr told ↦ none.1 line told ] }
  more (Some a) None breaks broken none = record {
    broken = λ holds. broken.broken holds.0;
    at = inl broken.at;
    first = λ other fault. elim fault [ inl wrong ↦ broken.first other wrong | inr told ↦ absurd (none.1 other told) ];
  }
  more None (Some b) breaks clear least = record {
    broken = λ holds. breaks b least.at holds.0 holds.1;
    at = inr least.at;
    first = λ other fault. elim fault [ inl wrong ↦ absurd (clear.none other wrong) | inr told ↦ least.first other told ];
  }
  more (Some a) (Some b) breaks broken least = record {
    broken = λ holds. broken.broken holds.0;
    at = lowest (cases_lt a b);
    first = λ other fault. elim fault [
      | inl wrong ↦ let low : a ≤ other = broken.first other wrong in omega (arith, low)
      | inr told ↦ let low : b ≤ other = least.first other told in omega (arith, low)
    ];
  }
    where
      lowest : (a < b) ⊎ (b ≤ a) → Wrong (min a b) ⊎ Told (min a b)
      lowest (inl less) = let is : a ≡ min a b = omega (arith, less) in subst (λ (n : ℕ). Wrong n ⊎ Told n) is (inl broken.at)
      lowest (inr less) = let is : b ≡ min a b = omega (arith, less) in subst (λ (n : ℕ). Wrong n ⊎ Told n) is (inr least.at)

-- ---- the rule of answers

module _ (script : Script) (report : Report) (valid : IsValid script) (below : HoldBelow 3 script report) where
  abbrev Fits : Type 0
  Fits = AnswersFit (acting_script script report) (copied_at script report) report

  abbrev Faults : ℕ → Type 0
  Faults line = IsAnswerFault (acting_script script report) (copied_at script report) report line

  many : length script.lists ≡ length report.cpus
  many = let shape : ShapeFits (acting_script script report) report = below Shape (omega arith) in (valid_is_declared script valid).one_each ∙ sym shape.cpus

  -- a wrong word breaks the rule
  not-private : (line : ℕ) → IsPrivateFault script report line → ArePrivate script report → ⊥
  not-private line f private = f.wrong (private f.who f.command f.slot f.at_line f.fork f.word f.at f.made f.loads f.frozen f.answered)

  privates : (found : Option ℕ) → MatchOption found (ArePrivate script report) (IsLeast (IsPrivateFault script report)) → Besides Fits (ArePrivate script report) Faults (IsPrivateFault script report) found
  privates None private = (λ fit. private, λ line told. not-private line told private)
  privates (Some line) least = least

  guests : (found : Option ℕ) → MatchOption found ((line : ℕ) → IsGuestFault script report line → ⊥) (IsLeast (IsGuestFault script report))
      → Besides (Fits × ArePrivate script report) (AreGuestsKept script report) (λ line. Faults line ⊎ IsPrivateFault script report line) (IsGuestFault script report) found
  guests None none = (λ fit. guests-hold script report many fit.0 none, none)
  guests (Some line) least = least

  regrouped : (found : Option ℕ) → MatchOption found (IsClear ((Fits × ArePrivate script report) × AreGuestsKept script report) (λ line. (Faults line ⊎ IsPrivateFault script report line) ⊎ IsGuestFault script report line))
      (IsFirstFault ((Fits × ArePrivate script report) × AreGuestsKept script report) (λ line. (Faults line ⊎ IsPrivateFault script report line) ⊎ IsGuestFault script report line))
      → MatchOption found (Holds Answers script report) (IsBroken Answers script report)
  regrouped None clear = (clear.fits.0.0, clear.fits.0.1, clear.fits.1)
  regrouped (Some line) broken = record {
    broken = λ holds. broken.broken ((holds.0, holds.1), holds.2);
    at = to-fault line broken.at;
    first = λ other fault. broken.first other (of-fault other fault);
  }
    where
      to-fault : (line : ℕ) → (Faults line ⊎ IsPrivateFault script report line) ⊎ IsGuestFault script report line → Faults line ⊎ (IsPrivateFault script report line ⊎ IsGuestFault script report line)
      to-fault line (inl (inl wrong)) = inl wrong
      to-fault line (inl (inr told)) = inr (inl told)
      to-fault line (inr guest) = inr (inr guest)

      of-fault : (line : ℕ) → Faults line ⊎ (IsPrivateFault script report line ⊎ IsGuestFault script report line) → (Faults line ⊎ IsPrivateFault script report line) ⊎ IsGuestFault script report line
      of-fault line (inl wrong) = inl (inl wrong)
      of-fault line (inr (inl told)) = inl (inr told)
      of-fault line (inr (inr guest)) = inr guest

  pub answers_joined : (first second third : Option ℕ) → MatchOption first (IsClear Fits Faults) (IsFirstFault Fits Faults) → MatchOption second (ArePrivate script report) (IsLeast (IsPrivateFault script report))
      → MatchOption third ((line : ℕ) → IsGuestFault script report line → ⊥) (IsLeast (IsGuestFault script report))
      → MatchOption (soonest (soonest first second) third) (Holds Answers script report) (IsBroken Answers script report)
  answers_joined first second third of-answers of-private of-guests =
      regrouped (soonest (soonest first second) third)
      (more (Fits × ArePrivate script report) (AreGuestsKept script report) (λ line. Faults line ⊎ IsPrivateFault script report line) (IsGuestFault script report) (soonest first second) third
      (λ line fault fit kept. guests-broken script report many fit.0 kept line fault)
      (more Fits (ArePrivate script report) Faults (IsPrivateFault script report) first second (λ line told fit private. not-private line told private) of-answers (privates second of-private)) (guests third of-guests))
