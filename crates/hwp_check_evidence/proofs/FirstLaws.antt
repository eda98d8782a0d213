-- The answers that are noted are the first ones.
use Rattle.std.proofs.Common.{◌≡◌, inl, inr, ℕ, ◌<◌, ◌==◌, cond, Bool, true, false, List, [], ◌∷◌, Option, Some, None, fold, get_or, set, replicate, length, option_map, refl, sym, ap, ◌∙◌, subst, arith}
use Rattle.std.specs.List.{filter_map, find}
use Rattle.std.specs.Option.{option_or}
use Rattle.std.proofs.lemmas.Bool.{cases_eq, eq-eqb, eqb-true, false_from_ne_true}
use Rattle.std.proofs.lemmas.List.{get_or-set_same, get_or-set_other, get_or-replicate, length-replicate, length-set}
use Rattle.hwp_law.specs.hwp_report_text.declared.Answer.{Answer}
use Rattle.hwp_law.specs.hwp_report_text.declared.CpuLine.{CpuLine}
use Rattle.hwp_law.specs.hwp_report_text.declared.CpuLine.TheVariants as lines
use Rattle.hwp_law.specs.Lines.{AnswerLine, answer_among, answer_in}
use Rattle.hwp_check_evidence.specs.Firsts.{AreAnswersOf, answered_by}

by-many : (list : List (Option Answer)) (row : CpuLine) → length (answered_by list row) ≡ length list
by-many list (lines.Event event) = refl
by-many list (lines.Offlined offlined) = refl
by-many list (lines.Guest guest) = refl
by-many list (lines.Answer seq answer) = length-set list seq (option_or (get_or list seq None) (Some answer))

all-many : (rows : List CpuLine) (list : List (Option Answer)) → length (fold answered_by list rows) ≡ length list
all-many [] list = refl
all-many (r ∷ rs) list = all-many rs (answered_by list r) ∙ by-many list r

module _ (seq : ℕ) where
  among-is : (s : ℕ) (answer : Answer) (rest : List CpuLine) → answer_among (lines.Answer s answer ∷ rest) seq ≡ cond (seq == s) (Some answer) (answer_among rest seq)
  among-is s answer rest = by (seq == s)
    where
      by : (b : Bool) → option_map (λ (l : AnswerLine). l.answer) (cond b (Some (record { seq = s; answer = answer })) (find (λ (l : AnswerLine). seq == l.seq) (filter_map answer_in rest))) ≡ cond b (Some answer) (answer_among rest seq)
      by true = refl
      by false = refl

  or-own : (o : Option Answer) (answer : Answer) (rest : Option Answer) → option_or (option_or o (Some answer)) rest ≡ option_or o (Some answer)
  or-own None answer rest = refl
  or-own (Some a) answer rest = refl

  or-none : (o : Option Answer) → option_or o None ≡ o
  or-none None = refl
  or-none (Some a) = refl

  answers-law : (rows : List CpuLine) (list : List (Option Answer)) → seq < length list → get_or (fold answered_by list rows) seq None ≡ option_or (get_or list seq None) (answer_among rows seq)
  answers-law [] list inside = sym (or-none (get_or list seq None))
  answers-law (lines.Event event ∷ rs) list inside = answers-law rs list inside
  answers-law (lines.Offlined offlined ∷ rs) list inside = answers-law rs list inside
  answers-law (lines.Guest guest ∷ rs) list inside = answers-law rs list inside
  answers-law (lines.Answer s answer ∷ rs) list inside =
      answers-law rs (answered_by list (lines.Answer s answer)) (subst (λ (m : ℕ). seq < m) (sym (by-many list (lines.Answer s answer))) inside)
      ∙ step ∙ ap (option_or (get_or list seq None)) (sym (among-is s answer rs))
    where
      step : option_or (get_or (answered_by list (lines.Answer s answer)) seq None) (answer_among rs seq) ≡ option_or (get_or list seq None) (cond (seq == s) (Some answer) (answer_among rs seq))
      step = elim (cases_eq seq s) [
        | inl here ↦
            ap (λ (o : Option Answer). option_or o (answer_among rs seq))
            (subst (λ (m : ℕ). get_or (set list m (option_or (get_or list m None) (Some answer))) seq None ≡ option_or (get_or list seq None) (Some answer)) here
            (get_or-set_same list seq (option_or (get_or list seq None) (Some answer)) None inside))
            ∙ or-own (get_or list seq None) answer (answer_among rs seq)
            ∙ ap (λ (b : Bool). option_or (get_or list seq None) (cond b (Some answer) (answer_among rs seq))) (sym (eq-eqb seq s here))
        | inr other ↦
            ap (λ (o : Option Answer). option_or o (answer_among rs seq)) (get_or-set_other list s seq (option_or (get_or list s None) (Some answer)) None other)
            ∙ ap (λ (b : Bool). option_or (get_or list seq None) (cond b (Some answer) (answer_among rs seq))) (sym (false_from_ne_true (seq == s) (λ is. other (eqb-true seq s is))))
      ]

module _ (rows : List CpuLine) (commands : ℕ) where
  pub answers_many : length (fold answered_by (replicate commands None) rows) ≡ commands
  answers_many = all-many rows (replicate commands None) ∙ length-replicate {A = Option Answer} commands None

  pub answers_are : AreAnswersOf rows (fold answered_by (replicate commands None) rows)
  answers_are seq inside =
      let many : length (fold answered_by (replicate commands None) rows) ≡ commands = answers_many in
      let none : length (replicate {A = Option Answer} commands None) ≡ commands = length-replicate {A = Option Answer} commands None in
      answers-law seq rows (replicate commands None) (omega (arith, inside, many, none))
      ∙ ap (λ (o : Option Answer). option_or o (answer_among rows seq)) (get_or-replicate {A = Option Answer} commands seq None None (omega (arith, inside, many)))
