-- A line in its place is of the command whose answer comes next, and an answer in its place is its command's first.
use Rattle.std.proofs.Common.{◌≡◌, ℕ, zero, suc, ◌+◌, ◌<◌, ◌≤◌, ◌==◌, cond, Bool, true, List, [], ◌∷◌, Option, Some, count_by, option_map, slice_get, take, refl, sym, ap, ◌∙◌, subst, arith}
use Rattle.std.specs.List.{filter_map, find}
use Rattle.std.proofs.lemmas.Bool.{eq-eqb, eqb-true, false_from_ne_true}
use Rattle.std.proofs.lemmas.List.{take-take}
use Rattle.std.proofs.lemmas.List.Sums.{count_by_more_yes, sum_by-take-le}
use Rattle.std.proofs.lemmas.Option.{get_or_from_slice_get, none-some, same_Some, slice_get_within}
use Rattle.hwp_check_evidence.specs.hwp_script_words.declared.Command.{Command}
use Rattle.hwp_check_evidence.specs.hwp_report_text.declared.Answer.{Answer}
use Rattle.hwp_check_evidence.specs.hwp_report_text.declared.CpuLine.{CpuLine}
use Rattle.hwp_check_evidence.specs.hwp_report_text.declared.CpuLine.TheVariants as lines
use Rattle.hwp_check_evidence.specs.hwp_law.Lines.{AnswerLine, answer_among, answer_in}
use Rattle.hwp_check_rules.specs.Answered.{is_answer}
use Rattle.hwp_check_answers.specs.Judging.{IsNextOf}
use Rattle.hwp_check_answers.specs.Placing.{FirstInPlace}

-- the first answer of a command is its answer
among-own : (s seq : ℕ) (answer : Answer) (rest : List CpuLine) → s ≡ seq → answer_among (lines.Answer s answer ∷ rest) seq ≡ Some answer
among-own s seq answer rest same = ap (λ (b : Bool). by b) (eq-eqb seq s (sym same))
  where
    by : Bool → Option Answer
    by b = option_map (λ (l : AnswerLine). l.answer) (cond b (Some (record { seq = s; answer = answer })) (find (λ (l : AnswerLine). seq == l.seq) (filter_map answer_in rest)))

among-other : (s seq : ℕ) (answer : Answer) (rest : List CpuLine) → (s ≡ seq → ⊥) → answer_among (lines.Answer s answer ∷ rest) seq ≡ answer_among rest seq
among-other s seq answer rest other = ap (λ (b : Bool). by b) (false_from_ne_true (seq == s) (λ is. other (sym (eqb-true seq s is))))
  where
    by : Bool → Option Answer
    by b = option_map (λ (l : AnswerLine). l.answer) (cond b (Some (record { seq = s; answer = answer })) (find (λ (l : AnswerLine). seq == l.seq) (filter_map answer_in rest)))

first-answer : (rows : List CpuLine) (row seq : ℕ) (answer : Answer) → slice_get rows row ≡ Some (lines.Answer seq answer)
    → ((r s : ℕ) (a : Answer) → r < row → slice_get rows r ≡ Some (lines.Answer s a) → s ≡ seq → ⊥) → answer_among rows seq ≡ Some answer
first-answer [] row seq answer is none = absurd (none-some _ is)
first-answer (x ∷ rs) zero seq answer is none = subst (λ (l : CpuLine). answer_among (l ∷ rs) seq ≡ Some answer) (sym (same_Some _ _ is)) (among-own seq seq answer rs refl)
first-answer (lines.Event event ∷ rs) (suc row) seq answer is none = first-answer rs row seq answer is (λ r t a low there. none (suc r) t a (omega (arith, low)) there)
first-answer (lines.Offlined offlined ∷ rs) (suc row) seq answer is none = first-answer rs row seq answer is (λ r t a low there. none (suc r) t a (omega (arith, low)) there)
first-answer (lines.Guest guest ∷ rs) (suc row) seq answer is none = first-answer rs row seq answer is (λ r t a low there. none (suc r) t a (omega (arith, low)) there)
first-answer (lines.Answer s b ∷ rs) (suc row) seq answer is none =
    among-other s seq b rs (none 0 s b (omega arith) refl) ∙ first-answer rs row seq answer is (λ r t a low there. none (suc r) t a (omega (arith, low)) there)

-- an answer counts
pub count-rises : (rows : List CpuLine) (low high : ℕ) (line : CpuLine) → low < high → slice_get rows low ≡ Some line → is_answer line ≡ true → count_by is_answer (take low rows) < count_by is_answer (take high rows)
count-rises rows low high line less is own =
    let one : count_by is_answer (take (low + 1) rows) ≡ count_by is_answer (take low rows) + 1 =
    count_by_more_yes is_answer rows low line (slice_get_within rows low line is) (ap is_answer (get_or_from_slice_get rows low line line is) ∙ own) in
    let part : count_by is_answer (take (low + 1) (take high rows)) ≤ count_by is_answer (take high rows) = sum_by-take-le (λ (l : CpuLine). cond (is_answer l) 1 0) (take high rows) (low + 1) in
    let same : count_by is_answer (take (low + 1) (take high rows)) ≡ count_by is_answer (take (low + 1) rows) = ap (count_by is_answer) (take-take (low + 1) high rows (omega (arith, less))) in
    omega (arith, one, part, same)

pub next_of : (commands : List Command) (rows : List CpuLine) (row : ℕ) (line : CpuLine) → slice_get rows row ≡ Some line → FirstInPlace commands rows (row + 1) → IsNextOf rows (count_by is_answer (take row rows)) line
next_of commands rows row line there places = record {
  of_next = (places row line (omega arith) there).of_next;
  first = λ answer is. first-answer rows row (count_by is_answer (take row rows)) answer (there ∙ ap Some is) (λ r s a low at same.
      let number : s ≡ count_by is_answer (take r rows) = (places r (lines.Answer s a) (omega (arith, low)) at).of_next in
      let rises : count_by is_answer (take r rows) < count_by is_answer (take row rows) = count-rises rows r row (lines.Answer s a) low at refl in
      omega (arith, number, rises, same));
}
