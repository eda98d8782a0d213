-- Whether a line answers a load by another word, by what was found.
use Rattle.std.proofs.Common.{◌≡◌, inl, inr, ℕ, ◌+◌, ◌≤◌, ◌==◌, Bool, true, false, List, Some, None, IsTrue, MatchBool, length, not, slice_get, take, refl, sym, ap, subst, ◌∙◌, true≢false, arith, cond, ◌↔◌}
use Rattle.std.proofs.lemmas.Bool.{cases_lt, eqb-false, eqb-true}
use Rattle.std.proofs.lemmas.Option.{none-some, same_Some}
use Rattle.hwp_check_rules.specs.hwp_geom.declared.Cpu.{Cpu}
use Rattle.hwp_check_rules.specs.hwp_geom.declared.Layout.{Layout}
use Rattle.hwp_check_rules.specs.hwp_page.declared.At.{At}
use Rattle.hwp_check_rules.specs.hwp_report_text.declared.Answer.{Answer}
use Rattle.hwp_check_rules.specs.hwp_report_text.declared.Answer.TheVariants as answers
use Rattle.hwp_check_rules.specs.hwp_report_text.declared.CpuLine.{CpuLine}
use Rattle.hwp_check_rules.specs.hwp_report_text.declared.CpuLine.TheVariants as lines
use Rattle.hwp_check_rules.specs.hwp_report_text.declared.Report.{Report}
use Rattle.hwp_check_rules.specs.hwp_script_words.declared.Command.{Command}
use Rattle.hwp_check_rules.specs.hwp_law.Lines.{answer_among}
use Rattle.hwp_check_processes.specs.Loads.{AreKept, IsFirstWrong, IsWordWrong, IsWrongRow, expected}

module _ (layout : Layout) (report : Report) (cpu : Cpu) (list : List Command) (pairs : List (Command × Answer)) (seq word : ℕ) where
  abbrev Wrong : Type 0
  Wrong = IsWordWrong layout report cpu list pairs seq word

  pub none_there : slice_get list seq ≡ None → Wrong → ⊥
  none_there none w = none-some w.command (sym none ∙ w.made)

  pub expects_none : (c : Command) → slice_get list seq ≡ Some c → expected layout report cpu (take seq pairs) c ≡ None → Wrong → ⊥
  expects_none c made none w =
      none-some w.own (sym none ∙ ap (expected layout report cpu (take seq pairs)) (same_Some c w.command (sym made ∙ w.made)) ∙ w.expects)

  pub expects_some : (c : Command) (own : ℕ) (b : Bool) → slice_get list seq ≡ Some c → expected layout report cpu (take seq pairs) c ≡ Some own → b ≡ not (own == word) → MatchBool b Wrong (Wrong → ⊥)
  expects_some c own b made is told = subst (λ (t : Bool). MatchBool t Wrong (Wrong → ⊥)) (sym told) (by (own == word) refl)
    where
      by : (same : Bool) → (own == word) ≡ same → MatchBool (not same) Wrong (Wrong → ⊥)
      by true same = λ w.
          w.other (sym (same_Some own w.own (sym is ∙ ap (expected layout report cpu (take seq pairs)) (same_Some c w.command (sym made ∙ w.made)) ∙ w.expects)) ∙ eqb-true own word same)
      by false other = record { command = c; own = own; made = made; expects = is; other = eqb-false own word other }

module _ (layout : Layout) (report : Report) (cpu : Cpu) (list : List Command) (rows : List CpuLine) (pairs : List (Command × Answer)) where
  abbrev WrongRow : CpuLine → Type 0
  WrongRow line = IsWrongRow layout report cpu list rows pairs line

  abbrev number_in : CpuLine → ℕ
  number_in (lines.Answer seq answer) = seq
  number_in line = 0

  abbrev answer_of_line : CpuLine → Answer
  answer_of_line (lines.Answer seq answer) = answer
  answer_of_line line = answers.Done

  abbrev word_in : Answer → ℕ
  word_in (answers.Value word at) = word
  word_in answer = 0

  pub value_wrong : (seq word : ℕ) (at : At) (a b : Bool) → MatchBool a (IsWordWrong layout report cpu list pairs seq word) (IsWordWrong layout report cpu list pairs seq word → ⊥)
      → (IsTrue b ↔ (answer_among rows seq ≡ Some (answers.Value word at))) → MatchBool (cond a b false) (WrongRow (lines.Answer seq (answers.Value word at))) (WrongRow (lines.Answer seq (answers.Value word at)) → ⊥)
  value_wrong seq word at true true wrong tells = record { seq = seq; word = word; at = at; line_is = refl; answered = tells.0 refl; wrong = wrong }
  value_wrong seq word at true false wrong tells = λ r.
      true≢false (sym (tells.1 (subst (λ (n : ℕ). answer_among rows n ≡ Some (answers.Value word at)) (sym (ap number_in r.line_is)) (r.answered ∙ ap Some (sym (ap answer_of_line r.line_is))))))
  value_wrong seq word at false b fine tells = λ r.
      fine (subst (λ (n : ℕ). IsWordWrong layout report cpu list pairs n word) (sym (ap number_in r.line_is))
      (subst (λ (x : ℕ). IsWordWrong layout report cpu list pairs r.seq x) (sym (ap (λ (l : CpuLine). word_in (answer_of_line l)) r.line_is)) r.wrong))

  abbrev is_value : CpuLine → Bool
  is_value (lines.Answer seq (answers.Value word at)) = true
  is_value line = false

  -- no other line is such
  pub other_line : (line : CpuLine) → is_value line ≡ false → WrongRow line → ⊥
  other_line line other r = true≢false (sym (ap is_value r.line_is) ∙ other)

  pub kept_next : (n : ℕ) (line : CpuLine) → slice_get rows n ≡ Some line → (WrongRow line → ⊥) → AreKept layout report cpu list rows pairs n → AreKept layout report cpu list rows pairs (n + 1)
  kept_next n line there fine before = λ row other less is. elim (cases_lt row n) [
    | inl low ↦ before row other low is
    | inr high ↦
        let here : row ≡ n = omega (arith, less, high) in
        subst (λ (l : CpuLine). WrongRow l → ⊥) (same_Some line other (sym there ∙ ap (slice_get rows) (sym here) ∙ is)) fine
  ]

  pub kept-none : AreKept layout report cpu list rows pairs 0
  kept-none = λ row line less is. absurd (omega (arith, less))

  pub kept_all : (n : ℕ) → length rows ≤ n → AreKept layout report cpu list rows pairs n → AreKept layout report cpu list rows pairs (length rows)
  kept_all n past kept = λ row line less is. kept row line (omega (arith, less, past)) is

  pub wrong_first : (n : ℕ) (line : CpuLine) → slice_get rows n ≡ Some line → WrongRow line → AreKept layout report cpu list rows pairs n → IsFirstWrong layout report cpu list rows pairs n
  wrong_first n line there wrong before = record { line = line; there = there; wrong = wrong; before = before }

-- ---- the answer that was found

abbrev is_word : Answer → Bool
is_word (answers.Value word at) = true
is_word answer = false

abbrev word_told : Answer → ℕ
word_told (answers.Value word at) = word
word_told answer = 0

abbrev page_told : Answer → ℕ
page_told (answers.Value word at) = at.page.0
page_told answer = 0

abbrev entry_told : Answer → ℕ
entry_told (answers.Value word at) = at.entry
entry_told answer = 0

pub other_answer : (answer : Answer) (word : ℕ) (at : At) → is_word answer ≡ false → IsTrue false ↔ (answer ≡ answers.Value word at)
other_answer answer word at other = (λ t. absurd (true≢false (sym t)), λ is. absurd (true≢false (sym (ap is_word is) ∙ other)))

pub same_answer : (told : ℕ) (place : At) (word : ℕ) (at : At) (a b c : Bool) → a ≡ (told == word) → b ≡ (place.page.0 == at.page.0) → c ≡ (place.entry == at.entry)
    → IsTrue (cond a (cond b c false) false) ↔ (answers.Value told place ≡ answers.Value word at)
same_answer told place word at true true true a_is b_is c_is = (
  λ t. λ i. answers.Value (eqb-true told word (sym a_is) i) (record { page = record { 0 = eqb-true place.page.0 at.page.0 (sym b_is) i }; entry = eqb-true place.entry at.entry (sym c_is) i }),
  λ is. refl,
)
same_answer told place word at true true false a_is b_is c_is = (λ t. absurd (true≢false (sym t)), λ is. absurd (eqb-false place.entry at.entry (sym c_is) (ap entry_told is)))
same_answer told place word at true false c a_is b_is c_is = (λ t. absurd (true≢false (sym t)), λ is. absurd (eqb-false place.page.0 at.page.0 (sym b_is) (ap page_told is)))
same_answer told place word at false b c a_is b_is c_is = (λ t. absurd (true≢false (sym t)), λ is. absurd (eqb-false told word (sym a_is) (ap word_told is)))
