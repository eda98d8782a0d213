-- The first answer of each command, line by line.
use Rattle.std.proofs.Common.{◌≡◌, ◌⊎◌, inl, inr, ℕ, ◌+◌, ◌<◌, ◌≤◌, ◌==◌, Bool, true, false, cond, List, [], ◌∷◌, ◌++◌, Option, Some, None, filter_map, get_or, length, option_map, slice_get, slice_index_or, take, refl, sym, ap, ◌∙◌, subst}
use Rattle.std.specs.List.{find}
use Rattle.std.proofs.lemmas.Bool.{cases_eq, eq-eqb, ne_eqb}
use Rattle.std.proofs.lemmas.List.{get_or-set_other, get_or-set_same, length-set, take_all, take_more}
use Rattle.std.proofs.lemmas.Option.{get_or_from_slice_get, slice_get-get_or, slice_get_within}
use Rattle.hwp_law.specs.hwp_report_text.declared.Answer.{Answer}
use Rattle.hwp_law.specs.hwp_report_text.declared.CpuLine.{CpuLine}
use Rattle.hwp_law.specs.hwp_report_text.declared.CpuLine.TheVariants as lines
use Rattle.hwp_law.specs.Lines.{AnswerLine, answer_among, answer_in}
use Rattle.hwp_check_events.specs.Indexed.{AreFirst, answer_here, first_answer, with_answer}

-- a line more at the front, and at the end
front-answer : (seq : ℕ) (row : CpuLine) (rows : List CpuLine) → answer_among (row ∷ rows) seq ≡ first_answer (answer_here seq row) (answer_among rows seq)
front-answer seq (lines.Event event) rows = refl
front-answer seq (lines.Offlined offlined) rows = refl
front-answer seq (lines.Guest guest) rows = refl
front-answer seq (lines.Answer s answer) rows = by (seq == s)
  where
    by : (b : Bool) → option_map (λ (l : AnswerLine). l.answer) (cond b (Some (record { seq = s; answer = answer })) (find (λ (l : AnswerLine). seq == l.seq) (filter_map answer_in rows)))
        ≡ first_answer (cond b (Some answer) None) (answer_among rows seq)
    by true = refl
    by false = refl

first-first : (a b c : Option Answer) → first_answer a (first_answer b c) ≡ first_answer (first_answer a b) c
first-first None b c = refl
first-first (Some a) b c = refl

first-none : (a : Option Answer) → first_answer a None ≡ a
first-none None = refl
first-none (Some a) = refl

end-answer : (seq : ℕ) (rows : List CpuLine) (row : CpuLine) → answer_among (rows ++ row ∷ []) seq ≡ first_answer (answer_among rows seq) (answer_here seq row)
end-answer seq [] row = front-answer seq row [] ∙ first-none (answer_here seq row)
end-answer seq (x ∷ xs) row =
    front-answer seq x (xs ++ row ∷ []) ∙ ap (first_answer (answer_here seq x)) (end-answer seq xs row) ∙ first-first (answer_here seq x) (answer_among xs seq) (answer_here seq row)
    ∙ ap (λ (o : Option Answer). first_answer o (answer_here seq row)) (sym (front-answer seq x xs))

abbrev pub Firsts : List CpuLine → ℕ → ℕ → List (Option Answer) → Type 0
Firsts rows count n answers = AreFirst (take n rows) count answers

with-size : (row : CpuLine) (answers : List (Option Answer)) → length (with_answer row answers) ≡ length answers
with-size (lines.Event event) answers = refl
with-size (lines.Offlined offlined) answers = refl
with-size (lines.Guest guest) answers = refl
with-size (lines.Answer s answer) answers = length-set answers s (first_answer (slice_index_or answers s None) (Some answer))

with-each : (row : CpuLine) (answers : List (Option Answer)) (seq : ℕ) (answer before : Option Answer) → slice_get (with_answer row answers) seq ≡ Some answer → ((a : Option Answer) → slice_get answers seq ≡ Some a → a ≡ before) → answer ≡ first_answer before (answer_here seq row)
with-each (lines.Event event) answers seq answer before there each = each answer there ∙ sym (first-none before)
with-each (lines.Offlined offlined) answers seq answer before there each = each answer there ∙ sym (first-none before)
with-each (lines.Guest guest) answers seq answer before there each = each answer there ∙ sym (first-none before)
with-each (lines.Answer s own) answers seq answer before there each = which (cases_eq seq s)
  where
    within : seq < length answers
    within = subst (λ (n : ℕ). seq < n) (length-set answers s (first_answer (slice_index_or answers s None) (Some own))) (slice_get_within (with_answer (lines.Answer s own) answers) seq answer there)

    was : slice_get answers seq ≡ Some (get_or answers seq None)
    was = slice_get-get_or answers seq None within

    which : (seq ≡ s) ⊎ (seq ≡ s → ⊥) → answer ≡ first_answer before (cond (seq == s) (Some own) None)
    which (inl same) =
        sym (get_or_from_slice_get (with_answer (lines.Answer s own) answers) seq answer None there)
        ∙ ap (λ (n : ℕ). get_or (with_answer (lines.Answer s own) answers) n None) same
        ∙ get_or-set_same answers s (first_answer (slice_index_or answers s None) (Some own)) None (subst (λ (n : ℕ). n < length answers) same within)
        ∙ ap (λ (n : ℕ). first_answer (get_or answers n None) (Some own)) (sym same) ∙ ap (λ (o : Option Answer). first_answer o (Some own)) (each (get_or answers seq None) was)
        ∙ ap (λ (b : Bool). first_answer before (cond b (Some own) None)) (sym (eq-eqb seq s same))
    which (inr other) =
        sym (get_or_from_slice_get (with_answer (lines.Answer s own) answers) seq answer None there) ∙ get_or-set_other answers s seq (first_answer (slice_index_or answers s None) (Some own)) None other
        ∙ each (get_or answers seq None) was ∙ sym (first-none before) ∙ ap (λ (b : Bool). first_answer before (cond b (Some own) None)) (sym (ne_eqb seq s other))

pub firsts-next : (rows : List CpuLine) (count n : ℕ) (answers next : List (Option Answer)) (d : CpuLine) → n < length rows → next ≡ with_answer (get_or rows n d) answers → Firsts rows count n answers → Firsts rows count (n + 1) next
firsts-next rows count n answers next d within next_is so = record { size = ap length next_is ∙ with-size (get_or rows n d) answers ∙ so.size; each = each }
  where
    each : (seq : ℕ) (answer : Option Answer) → slice_get next seq ≡ Some answer → answer ≡ answer_among (take (n + 1) rows) seq
    each seq answer there =
        with-each (get_or rows n d) answers seq answer (answer_among (take n rows) seq) (subst (λ (l : List (Option Answer)). slice_get l seq ≡ Some answer) next_is there) (λ a at. so.each seq a at)
        ∙ sym (end-answer seq (take n rows) (get_or rows n d)) ∙ ap (λ (l : List CpuLine). answer_among l seq) (sym (take_more rows n d within))

pub firsts-first : (rows : List CpuLine) (count : ℕ) (answers : List (Option Answer)) → length answers ≡ count → ((k : ℕ) (d : Option Answer) → k < length answers → slice_index_or answers k d ≡ None) → Firsts rows count 0 answers
firsts-first rows count answers size none = record { size = size; each = each }
  where
    take-none : (xs : List CpuLine) → take 0 xs ≡ []
    take-none [] = refl
    take-none (x ∷ xs) = refl

    each : (seq : ℕ) (answer : Option Answer) → slice_get answers seq ≡ Some answer → answer ≡ answer_among (take 0 rows) seq
    each seq answer there =
        sym (get_or_from_slice_get answers seq answer answer there) ∙ none seq answer (slice_get_within answers seq answer there) ∙ sym (ap (λ (l : List CpuLine). answer_among l seq) (take-none rows))

pub firsts-last : (rows : List CpuLine) (count n : ℕ) (answers : List (Option Answer)) → length rows ≤ n → Firsts rows count n answers → AreFirst rows count answers
firsts-last rows count n answers all so = subst (λ (r : List CpuLine). AreFirst r count answers) (take_all n rows all) so
