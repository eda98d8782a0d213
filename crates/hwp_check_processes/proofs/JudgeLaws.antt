-- What is found of a line of a processor, from what was read of it.
use Rattle.std.proofs.Common.{◌≡◌, ◌≢◌, ◌⊎◌, inl, inr, ℕ, ◌+◌, ◌<◌, ◌≤◌, ◌==◌, Bool, true, false, cond, not, is_some, List, [], ◌∷◌, Option, Some, None, MatchBool, if◌then◌else◌, length, option_and_then, slice_get, slice_index_or, refl, sym, ap, ◌∙◌, subst, true≢false, arith}
use Rattle.std.proofs.lemmas.Bool.{cases_lt, eq-eqb, eqb-true}
use Rattle.std.proofs.lemmas.Option.{none-some, same_Some}
use Rattle.hwp_check_rules.specs.hwp_guest.declared.Admit.{Admit}
use Rattle.hwp_check_rules.specs.hwp_guest.declared.Admit.TheVariants as admissions
use Rattle.hwp_check_rules.specs.hwp_geom.declared.Layout.{Layout}
use Rattle.hwp_check_rules.specs.hwp_script_words.declared.Command.{Command}
use Rattle.hwp_check_rules.specs.hwp_report_text.declared.Answer.{Answer}
use Rattle.hwp_check_rules.specs.hwp_report_text.declared.Answer.TheVariants as answers
use Rattle.hwp_check_rules.specs.hwp_report_text.declared.CpuLine.{CpuLine}
use Rattle.hwp_check_rules.specs.hwp_report_text.declared.CpuLine.TheVariants as lines
use Rattle.hwp_check_rules.specs.hwp_report_text.declared.GuestLine.{GuestLine}
use Rattle.hwp_check_rules.specs.hwp_law.GuestRule.{denial, guest_lines}
use Rattle.hwp_check_rules.specs.GuestFaults.{IsAdmitted, IsGuestLacking, IsMistold, LacksGuest}
use Rattle.hwp_check_processes.specs.Judging.{AreEnough, AreRight, AreTold, IsFirstLacking, IsFirstWrong, IsLackingBy, IsMisadmittedBy, IsWrongBy, LacksGuestBy, answer_behind, answer_by, says_bad, says_denied, says_stopped}
use Rattle.hwp_check_processes.specs.Telling.{due_by, is_told}
use Rattle.hwp_check_processes.proofs.TellingLaws.{guest-none, is-told, no-guest, none-lines, some-lines, told-is}

-- ---- an answer, by what its guest makes of the access

module _ (answer : Answer) (Nothing : Type 0) where
  denied-is : says_denied answer ≡ true → (answer ≡ answers.GuestBad) ⊎ (answer ≡ answers.GuestStopped)
  denied-is is = by answer is
    where
      by : (a : Answer) → says_denied a ≡ true → (a ≡ answers.GuestBad) ⊎ (a ≡ answers.GuestStopped)
      by answers.GuestBad at = inl refl
      by answers.GuestStopped at = inr refl
      by a at = absurd (true≢false (sym at))

  bad-is : (a : Answer) → says_bad a ≡ true → (a ≡ answers.GuestBad) ⊎ (a ≡ answers.Stopped)
  bad-is answers.GuestBad at = inl refl
  bad-is answers.Stopped at = inr refl
  bad-is a at = absurd (true≢false (sym at))

  stopped-is : (a : Answer) → says_stopped a ≡ true → (a ≡ answers.GuestStopped) ⊎ (a ≡ answers.Stopped)
  stopped-is answers.GuestStopped at = inl refl
  stopped-is answers.Stopped at = inr refl
  stopped-is a at = absurd (true≢false (sym at))

  abbrev Fit : Option Answer → Type 0
  Fit due = IsAdmitted due answer Nothing

  pub yes_there : (b : Bool) → b ≡ says_denied answer → MatchBool (not b) (Fit None) (Fit None → ⊥)
  yes_there true is = λ fit. elim (denied-is (sym is)) [ inl bad ↦ fit.0 bad | inr stopped ↦ fit.1 stopped ]
  yes_there false is = (λ bad. true≢false (ap says_denied (sym bad) ∙ sym is), λ stopped. true≢false (ap says_denied (sym stopped) ∙ sym is))

module _ (answer : Answer) (busy : Bool) where
  abbrev Fits : Option Answer → Type 0
  Fits due = IsAdmitted due answer (busy ≡ false)

  pub bad_there : (b : Bool) → b ≡ says_bad answer → MatchBool (cond b (not busy) false) (Fits (Some answers.GuestBad)) (Fits (Some answers.GuestBad) → ⊥)
  bad_there true is = by busy refl
    where
      by : (c : Bool) → busy ≡ c → MatchBool (not c) (Fits (Some answers.GuestBad)) (Fits (Some answers.GuestBad) → ⊥)
      by true set = λ fit. true≢false (sym set ∙ fit.1)
      by false set = (bad-is answer (busy ≡ false) answer (sym is), set)
  bad_there false is = λ fit. elim fit.0 [ inl bad ↦ true≢false (ap says_bad (sym bad) ∙ sym is) | inr stopped ↦ true≢false (ap says_bad (sym stopped) ∙ sym is) ]

  pub stopped_there : (b : Bool) → b ≡ says_stopped answer → MatchBool (cond b (not busy) false) (Fits (Some answers.GuestStopped)) (Fits (Some answers.GuestStopped) → ⊥)
  stopped_there true is = by busy refl
    where
      by : (c : Bool) → busy ≡ c → MatchBool (not c) (Fits (Some answers.GuestStopped)) (Fits (Some answers.GuestStopped) → ⊥)
      by true set = λ fit. true≢false (sym set ∙ fit.1)
      by false set = (stopped-is answer (busy ≡ false) answer (sym is), set)
  stopped_there false is = λ fit. elim fit.0 [ inl bad ↦ true≢false (ap says_stopped (sym bad) ∙ sym is) | inr stopped ↦ true≢false (ap says_stopped (sym stopped) ∙ sym is) ]

-- ---- the command of an answer

module _ (commands : List Command) (admits : List Admit) (flags : List Bool) (seq : ℕ) (answer : Answer) where
  abbrev Wrong : Type 0
  Wrong = IsMisadmittedBy commands admits flags seq answer

  abbrev Good : Option Answer → Type 0
  Good due = IsAdmitted due answer (slice_index_or flags seq false ≡ false)

  pub none_made : slice_get commands seq ≡ None → Wrong → ⊥
  none_made none w = none-some w.command (sym none ∙ w.made)

  abbrev due-here : Option Answer
  due-here = denial (slice_index_or admits seq admissions.Yes)

  pub answered_there : (c : Command) (admit : Admit) (flag b : Bool) → slice_get commands seq ≡ Some c → admit ≡ slice_index_or admits seq admissions.Yes → flag ≡ slice_index_or flags seq false
      → MatchBool b (IsAdmitted (denial admit) answer (flag ≡ false)) (IsAdmitted (denial admit) answer (flag ≡ false) → ⊥) → MatchBool (not b) Wrong (Wrong → ⊥)
  answered_there c admit flag b made admit_is flag_is told = by b (subst (λ (f : Bool). MatchBool b (IsAdmitted due-here answer (f ≡ false)) (IsAdmitted due-here answer (f ≡ false) → ⊥)) flag_is
      (subst (λ (a : Admit). MatchBool b (IsAdmitted (denial a) answer (flag ≡ false)) (IsAdmitted (denial a) answer (flag ≡ false) → ⊥)) admit_is told))
    where
      by : (r : Bool) → MatchBool r (Good due-here) (Good due-here → ⊥) → MatchBool (not r) Wrong (Wrong → ⊥)
      by true good = λ w. w.wrong good
      by false wrong = record { command = c; made = made; wrong = wrong }

-- ---- a guest's line

by-line : (seq : ℕ) (line : CpuLine) (answer : Answer) → answer_by seq line ≡ Some answer → line ≡ lines.Answer seq answer
by-line seq (lines.Answer number given) answer is = by (number == seq) refl is
  where
    by : (b : Bool) → (number == seq) ≡ b → (if b then Some given else None) ≡ Some answer → lines.Answer number given ≡ lines.Answer seq answer
    by true same at = λ i. lines.Answer (eqb-true number seq same i) (same_Some given answer at i)
    by false other at = absurd (none-some answer at)
by-line seq (lines.Event event) answer is = absurd (none-some answer is)
by-line seq (lines.Offlined offlined) answer is = absurd (none-some answer is)
by-line seq (lines.Guest guest) answer is = absurd (none-some answer is)

line-by : (seq : ℕ) (answer : Answer) → answer_by seq (lines.Answer seq answer) ≡ Some answer
line-by seq answer = ap (λ (b : Bool). if b then Some answer else None) (eq-eqb seq seq refl)

module _ (rows : List CpuLine) (row seq : ℕ) where
  behind-is : (answer : Answer) → answer_behind rows row seq ≡ Some answer → slice_get rows (row + 1) ≡ Some (lines.Answer seq answer)
  behind-is answer is = by (slice_get rows (row + 1)) is
    where
      by : (o : Option CpuLine) → option_and_then (answer_by seq) o ≡ Some answer → o ≡ Some (lines.Answer seq answer)
      by None none = absurd (none-some answer none)
      by (Some line) at = ap Some (by-line seq line answer at)

  is-behind : (answer : Answer) → slice_get rows (row + 1) ≡ Some (lines.Answer seq answer) → answer_behind rows row seq ≡ Some answer
  is-behind answer is = ap (option_and_then (answer_by seq)) is ∙ line-by seq answer

module _ (layout : Layout) (commands : List Command) (rows : List CpuLine) (row : ℕ) (line : GuestLine) where
  abbrev Mistold : Type 0
  Mistold = IsMistold layout commands rows row line

  pub untold_made : slice_get commands line.seq ≡ None → Mistold → ⊥
  untold_made none w = none-some w.command (sym none ∙ w.made)

  pub untold_next : None ≡ answer_behind rows row line.seq → Mistold → ⊥
  untold_next none w = none-some w.answer (none ∙ is-behind rows row line.seq w.answer w.next)

  pub told_there : (c : Command) (answer : Answer) (b : Bool) → slice_get commands line.seq ≡ Some c → Some answer ≡ answer_behind rows row line.seq → b ≡ is_told layout line.seq c answer line → MatchBool (not b) Mistold (Mistold → ⊥)
  told_there c answer true made next tells = λ w.
      w.wrong (told-is layout line.seq w.command w.answer line
      (ap (λ (a : Answer). is_told layout line.seq w.command a line) (same_Some w.answer answer (sym (is-behind rows row line.seq w.answer w.next) ∙ sym next))
      ∙ ap (λ (x : Command). is_told layout line.seq x answer line) (same_Some w.command c (sym w.made ∙ made)) ∙ sym tells))
  told_there c answer false made next tells = record {
    command = c;
    answer = answer;
    made = made;
    next = behind-is rows row line.seq answer (sym next);
    wrong = λ is. true≢false (sym (is-told layout line.seq c answer line is) ∙ sym tells);
  }

-- ---- lines one after another

module _ (layout : Layout) (commands : List Command) (rows : List CpuLine) (admits : List Admit) (flags : List Bool) where
  abbrev WrongRow : ℕ → CpuLine → Type 0
  WrongRow row line = IsWrongBy layout commands rows admits flags row line

  pub right-none : AreRight layout commands rows admits flags 0
  right-none = λ row line less is. absurd (omega (arith, less))

  pub right_next : (n : ℕ) (line : CpuLine) → slice_get rows n ≡ Some line → (WrongRow n line → ⊥) → AreRight layout commands rows admits flags n → AreRight layout commands rows admits flags (n + 1)
  right_next n line there fine before = λ row other less is. elim (cases_lt row n) [
    | inl low ↦ before row other low is
    | inr high ↦
        let here : row ≡ n = omega (arith, less, high) in
        subst (λ (k : ℕ). WrongRow k other → ⊥) (sym here) (subst (λ (l : CpuLine). WrongRow n l → ⊥) (same_Some line other (sym there ∙ ap (slice_get rows) (sym here) ∙ is)) fine)
  ]

  pub right_all : (n : ℕ) → length rows ≤ n → AreRight layout commands rows admits flags n → AreRight layout commands rows admits flags (length rows)
  right_all n past right = λ row line less is. right row line (omega (arith, less, past)) is

  pub wrong_first : (n : ℕ) (line : CpuLine) → slice_get rows n ≡ Some line → WrongRow n line → AreRight layout commands rows admits flags n → IsFirstWrong layout commands rows admits flags n
  wrong_first n line there wrong before = record { line = line; there = there; wrong = wrong; before = before }

-- ---- lines that lack

module _ (layout : Layout) (commands : List Command) (told : List Bool) (seq : ℕ) (answer : Answer) where
  abbrev Lacks : Type 0
  Lacks = LacksGuestBy layout commands told seq answer

  pub lacks_made : slice_get commands seq ≡ None → Lacks → ⊥
  lacks_made none w = none-some w.command (sym none ∙ w.made)

  pub lacks_there : (c : Command) (due has : Bool) → slice_get commands seq ≡ Some c → due ≡ is_some (due_by layout c answer) → has ≡ slice_index_or told seq false → MatchBool (cond due (not has) false) Lacks (Lacks → ⊥)
  lacks_there c true true made due has = λ w. true≢false (has ∙ w.none)
  lacks_there c true false made due has = record { command = c; made = made; due = some-lines layout seq c answer (sym due); none = sym has }
  lacks_there c false has made due told = λ w.
      w.due (ap (λ (x : Command). guest_lines layout seq x answer) (same_Some w.command c (sym w.made ∙ made)) ∙ none-lines layout seq c answer (sym due))

  pub lacks_not : (c : Command) (due : Bool) → slice_get commands seq ≡ Some c → due ≡ is_some (due_by layout c answer) → due ≡ false → MatchBool due Lacks (Lacks → ⊥)
  lacks_not c true made is off = absurd (true≢false off)
  lacks_not c false made is off = λ w.
      w.due (ap (λ (x : Command). guest_lines layout seq x answer) (same_Some w.command c (sym w.made ∙ made)) ∙ none-lines layout seq c answer (sym is))

module _ (layout : Layout) (commands : List Command) (rows : List CpuLine) where
  -- a guest's line lacks by the flags exactly where it lacks
  module _ (told : List Bool) (are : AreTold layout commands rows told) where
    lacks-law : (seq : ℕ) (answer : Answer) → LacksGuestBy layout commands told seq answer → LacksGuest layout commands rows seq answer
    lacks-law seq answer w = record { command = w.command; made = w.made; due = w.due; none = no-guest seq rows (sym (are seq w.command answer w.made w.due) ∙ w.none) }

    law-lacks : (seq : ℕ) (answer : Answer) → LacksGuest layout commands rows seq answer → LacksGuestBy layout commands told seq answer
    law-lacks seq answer w = record { command = w.command; made = w.made; due = w.due; none = are seq w.command answer w.made w.due ∙ guest-none seq rows w.none }

    pub lacking-law : (line : CpuLine) → IsLackingBy layout commands told line → IsGuestLacking layout commands rows line
    lacking-law (lines.Answer seq answer) w = lacks-law seq answer w
    lacking-law line w = absurd w

    pub law-lacking : (line : CpuLine) → IsGuestLacking layout commands rows line → IsLackingBy layout commands told line
    law-lacking (lines.Answer seq answer) w = law-lacks seq answer w
    law-lacking line w = absurd w

  pub enough-none : AreEnough layout commands rows 0
  enough-none = λ row line less is. absurd (omega (arith, less))

  pub enough_next : (n : ℕ) (line : CpuLine) → slice_get rows n ≡ Some line → (IsGuestLacking layout commands rows line → ⊥) → AreEnough layout commands rows n → AreEnough layout commands rows (n + 1)
  enough_next n line there fine before = λ row other less is. elim (cases_lt row n) [
    | inl low ↦ before row other low is
    | inr high ↦
        let here : row ≡ n = omega (arith, less, high) in
        subst (λ (l : CpuLine). IsGuestLacking layout commands rows l → ⊥) (same_Some line other (sym there ∙ ap (slice_get rows) (sym here) ∙ is)) fine
  ]

  pub enough_all : (n : ℕ) → length rows ≤ n → AreEnough layout commands rows n → AreEnough layout commands rows (length rows)
  enough_all n past enough = λ row line less is. enough row line (omega (arith, less, past)) is

  pub lacking_first : (n : ℕ) (line : CpuLine) → slice_get rows n ≡ Some line → IsGuestLacking layout commands rows line → AreEnough layout commands rows n → IsFirstLacking layout commands rows n
  lacking_first n line there lacks before = record { line = line; there = there; lacks = lacks; before = before }
