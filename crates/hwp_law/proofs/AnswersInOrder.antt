-- Where the lines of a processor have one answer for each of its commands, in order, the first answer with the number n is the n-th.
use Rattle.std.proofs.Common.{◌≡◌, ℕ, zero, suc, ◌+◌, ◌<◌, ◌≤◌, ◌==◌, Bool, true, false, cond, List, [], ◌∷◌, Option, Some, filter_map, find, length, map, option_map, slice_get, unwrap_or, refl, sym, ap, ◌∙◌, arith}
use Rattle.std.proofs.lemmas.Bool.{eq-eqb, ne_eqb}
use Rattle.hwp_script_words.specs.hwp_geom.declared.Cpu.{Cpu}
use Rattle.hwp_report_text.specs.declared.Answer.{Answer}
use Rattle.hwp_report_text.specs.declared.Answer.TheVariants as answers
use Rattle.hwp_report_text.specs.declared.CpuLine.{CpuLine}
use Rattle.hwp_report_text.specs.declared.CpuLine.TheVariants as lines
use Rattle.hwp_report_text.specs.declared.Report.{Report}
use Rattle.hwp_script_words.specs.declared.Command.{Command}
use Rattle.hwp_script_words.specs.declared.Script.{Script}
use Rattle.hwp_law.specs.Causes.{AreCaused}
use Rattle.hwp_law.specs.Lines.{AnswerLine, answer_among, answer_in, answers_from, answers_to}

-- the answers of lines, in order
abbrev pub answers_in : List CpuLine → List Answer
answers_in rows = map (λ (l : AnswerLine). l.answer) (filter_map answer_in rows)

-- the answer of the i-th of so many commands
pub answer-from : (told : ℕ → Option Answer) (n count i : ℕ) → i < count → slice_get (answers_from told n count) i ≡ Some (unwrap_or (told (n + i)) answers.Stopped)
answer-from told n zero i within = absurd (omega (arith, within))
answer-from told n (suc more) zero within = let same : n ≡ n + 0 = omega arith in ap (λ (k : ℕ). Some (unwrap_or (told k) answers.Stopped)) same
answer-from told n (suc more) (suc i) within =
    let same : (n + 1) + i ≡ n + suc i = omega arith in
    answer-from told (n + 1) more i (omega (arith, within)) ∙ ap (λ (k : ℕ). Some (unwrap_or (told k) answers.Stopped)) same

-- what tells the same of commands from number n on
pub same-from : (one other : ℕ → Option Answer) (n count : ℕ) → ((k : ℕ) → n ≤ k → one k ≡ other k) → answers_from one n count ≡ answers_from other n count
same-from one other n zero same = refl
same-from one other n (suc more) same =
    ap (λ (o : Option Answer). unwrap_or o answers.Stopped ∷ answers_from one (n + 1) more) (same n (omega arith))
    ∙ ap (λ (l : List Answer). unwrap_or (other n) answers.Stopped ∷ l) (same-from one other (n + 1) more (λ k above. same k (omega (arith, above))))

-- the line of an answer tells its own command's, and no other's
told-in : (seq : ℕ) (answer : Answer) (rest : List CpuLine) (k : ℕ) (b : Bool) → (k == seq) ≡ b
    → answer_among (lines.Answer seq answer ∷ rest) k ≡ option_map (λ (l : AnswerLine). l.answer) (cond b (Some (record { seq = seq; answer = answer })) (find (λ (l : AnswerLine). k == l.seq) (filter_map answer_in rest)))
told-in seq answer rest k b is =
    ap (λ (c : Bool). option_map (λ (l : AnswerLine). l.answer) (cond c (Some (record { seq = seq; answer = answer })) (find (λ (l : AnswerLine). k == l.seq) (filter_map answer_in rest)))) is

pub own-answer : (seq : ℕ) (answer : Answer) (rest : List CpuLine) (k : ℕ) → k ≡ seq → answer_among (lines.Answer seq answer ∷ rest) k ≡ Some answer
own-answer seq answer rest k same = told-in seq answer rest k true (eq-eqb k seq same)

pub other-answer : (seq : ℕ) (answer : Answer) (rest : List CpuLine) (k : ℕ) → (k ≡ seq → ⊥) → answer_among (lines.Answer seq answer ∷ rest) k ≡ answer_among rest k
other-answer seq answer rest k other = told-in seq answer rest k false (ne_eqb k seq other)

in-order-from : (script : Script) (report : Report) (cpu : Cpu) (n : ℕ) (commands : List Command) (rows : List CpuLine) → AreCaused script report cpu n commands rows
    → answers_from (answer_among rows) n (length commands) ≡ answers_in rows
in-order-from script report cpu n [] [] are = refl
in-order-from script report cpu n [] (row ∷ rest) are = absurd are
in-order-from script report cpu n (c ∷ cs) [] are = absurd are
in-order-from script report cpu n (c ∷ cs) (lines.Event event ∷ rest) are = in-order-from script report cpu n (c ∷ cs) rest are.1
in-order-from script report cpu n (c ∷ cs) (lines.Offlined line ∷ rest) are = in-order-from script report cpu n (c ∷ cs) rest are.2
in-order-from script report cpu n (c ∷ cs) (lines.Guest line ∷ rest) are = in-order-from script report cpu n (c ∷ cs) rest are.2
in-order-from script report cpu n (c ∷ cs) (lines.Answer seq answer ∷ rest) are =
    let same : seq ≡ n = are.0 in
    ap (λ (o : Option Answer). unwrap_or o answers.Stopped ∷ answers_from (answer_among (lines.Answer seq answer ∷ rest)) (n + 1) (length cs)) (own-answer seq answer rest n (sym same))
    ∙ ap (λ (l : List Answer). answer ∷ l)
    (same-from (answer_among (lines.Answer seq answer ∷ rest)) (answer_among rest) (n + 1) (length cs) (λ k above. other-answer seq answer rest k (λ is. omega (arith, above, same, is)))
    ∙ in-order-from script report cpu (n + 1) cs rest are.3)

pub in-order : (script : Script) (report : Report) (cpu : Cpu) (commands : List Command) (rows : List CpuLine) → AreCaused script report cpu 0 commands rows → answers_to commands rows ≡ answers_in rows
in-order script report cpu commands rows are = in-order-from script report cpu 0 commands rows are
