-- The answers of a processor's lines, command by command: the n-th answer is that of the command with number n, and no line has another.
use Rattle.std.proofs.Common.{◌≡◌, ℕ, zero, suc, ◌+◌, ◌<◌, ◌==◌, Bool, true, false, cond, List, [], ◌∷◌, Some, drop, filter_map, find, option_map, slice_get, take, refl, sym, ap, ◌∙◌, subst, true≢false, arith}
use Rattle.std.specs.List.{zip}
use Rattle.std.proofs.lemmas.Bool.{eq-eqb, eqb-true, ne_eqb}
use Rattle.std.proofs.lemmas.Option.{none-some, same_Some}
use Rattle.hwp_law_served.specs.hwp_geom.declared.Cpu.{Cpu}
use Rattle.hwp_law_served.specs.hwp_report_text.declared.Answer.{Answer}
use Rattle.hwp_law_served.specs.hwp_report_text.declared.CpuLine.{CpuLine}
use Rattle.hwp_law_served.specs.hwp_report_text.declared.CpuLine.TheVariants as lines
use Rattle.hwp_law_served.specs.hwp_report_text.declared.Report.{Report}
use Rattle.hwp_law_served.specs.hwp_script_words.declared.Command.{Command}
use Rattle.hwp_law_served.specs.hwp_script_words.declared.Script.{Script}
use Rattle.hwp_law_served.specs.hwp_law.Causes.{AreCaused, IsCaused}
use Rattle.hwp_law_served.specs.hwp_law.Lines.{AnswerLine, answer_among, answer_in}
use Rattle.hwp_law_served.proofs.of_hwp_law.AnswersInOrder.{answers_in}
use Rattle.hwp_law_served.proofs.of_hwp_law.Rows.{same_answer}

-- ---- lists

pub get-take : {X : Type 0} (n : ℕ) (xs : List X) (i : ℕ) (x : X) → slice_get (take n xs) i ≡ Some x → slice_get xs i ≡ Some x
get-take zero xs i x there = absurd (none-some x there)
get-take (suc n) [] i x there = absurd (none-some x there)
get-take (suc n) (y ∷ ys) zero x there = there
get-take (suc n) (y ∷ ys) (suc i) x there = get-take n ys i x there

pub get-drop : {X : Type 0} (n : ℕ) (xs : List X) (i : ℕ) → slice_get (drop n xs) i ≡ slice_get xs (n + i)
get-drop zero xs i = let same : i ≡ 0 + i = omega arith in ap (slice_get xs) same
get-drop (suc n) [] i = refl
get-drop (suc n) (y ∷ ys) i = let same : suc (n + i) ≡ suc n + i = omega arith in get-drop n ys i ∙ ap (slice_get (y ∷ ys)) same

pub zip-get : {X Y : Type 0} (xs : List X) (ys : List Y) (i : ℕ) (x : X) (y : Y) → slice_get xs i ≡ Some x → slice_get ys i ≡ Some y → slice_get (zip xs ys) i ≡ Some (x, y)
zip-get [] ys i x y one other = absurd (none-some x one)
zip-get (a ∷ more) [] i x y one other = absurd (none-some y other)
zip-get {X} {Y} (a ∷ more) (b ∷ others) zero x y one other = ap (λ (z : X). Some (z, b)) (same_Some a x one) ∙ ap (λ (z : Y). Some (x, z)) (same_Some b y other)
zip-get (a ∷ more) (b ∷ others) (suc i) x y one other = zip-get more others i x y one other

pub zip-parts : {X Y : Type 0} (xs : List X) (ys : List Y) (i : ℕ) (p : X × Y) → slice_get (zip xs ys) i ≡ Some p → (slice_get xs i ≡ Some p.0) × (slice_get ys i ≡ Some p.1)
zip-parts [] ys i p there = absurd (none-some p there)
zip-parts (a ∷ more) [] i p there = absurd (none-some p there)
zip-parts {X} {Y} (a ∷ more) (b ∷ others) zero p there = (ap (λ (q : X × Y). Some q.0) (same_Some (a, b) p there), ap (λ (q : X × Y). Some q.1) (same_Some (a, b) p there))
zip-parts (a ∷ more) (b ∷ others) (suc i) p there = zip-parts more others i p there

-- ---- from answer to command

-- the i-th answer is that of the i-th of some commands, which are numbered from n on, with its cause
pub record IsGiven (script : Script) (report : Report) (cpu : Cpu) (n : ℕ) (commands : List Command) (rows : List CpuLine) (i : ℕ) (answer : Answer) : Type 0 where
  pub command : Command
  pub command_is : slice_get commands i ≡ Some command
  pub caused : IsCaused script report (record { cpu = cpu; seq = n + i }) command answer
  pub found : answer_among rows (n + i) ≡ Some answer

abbrev answer_at : AnswerLine → Answer
answer_at l = l.answer

first-found : (n i seq : ℕ) (a : Answer) (rest : List CpuLine) → n ≡ i → seq ≡ n → option_map answer_at (cond (i == seq) (Some (record { seq = seq; answer = a })) (find (λ (l : AnswerLine). i == l.seq) (filter_map answer_in rest))) ≡ Some a
first-found n i seq a rest same is = ap (λ (b : Bool). option_map answer_at (cond b (Some (record { seq = seq; answer = a })) (find (λ (l : AnswerLine). i == l.seq) (filter_map answer_in rest)))) (eq-eqb i seq (sym same ∙ sym is))

later-found : (i seq : ℕ) (a answer : Answer) (rest : List CpuLine) → seq < i → answer_among rest i ≡ Some answer → option_map answer_at (cond (i == seq) (Some (record { seq = seq; answer = a })) (find (λ (l : AnswerLine). i == l.seq) (filter_map answer_in rest))) ≡ Some answer
later-found i seq a answer rest less found =
    ap (λ (b : Bool). option_map answer_at (cond b (Some (record { seq = seq; answer = a })) (find (λ (l : AnswerLine). i == l.seq) (filter_map answer_in rest)))) (ne_eqb i seq (λ same. omega (arith, same, less))) ∙ found

pub caused-given : (script : Script) (report : Report) (cpu : Cpu) (n : ℕ) (commands : List Command) (rows : List CpuLine) → AreCaused script report cpu n commands rows → (i : ℕ) (answer : Answer) → slice_get (answers_in rows) i ≡ Some answer
    → IsGiven script report cpu n commands rows i answer
caused-given script report cpu n [] [] are i answer there = absurd (none-some answer there)
caused-given script report cpu n [] (row ∷ rest) are i answer there = absurd are
caused-given script report cpu n (c ∷ cs) [] are i answer there = absurd are
caused-given script report cpu n (c ∷ cs) (lines.Event event ∷ rest) are i answer there =
    let g = caused-given script report cpu n (c ∷ cs) rest are.1 i answer there in
    record { command = g.command; command_is = g.command_is; caused = g.caused; found = g.found }
caused-given script report cpu n (c ∷ cs) (lines.Offlined line ∷ rest) are i answer there =
    let g = caused-given script report cpu n (c ∷ cs) rest are.2 i answer there in
    record { command = g.command; command_is = g.command_is; caused = g.caused; found = g.found }
caused-given script report cpu n (c ∷ cs) (lines.Guest line ∷ rest) are i answer there =
    let g = caused-given script report cpu n (c ∷ cs) rest are.2 i answer there in
    record { command = g.command; command_is = g.command_is; caused = g.caused; found = g.found }
caused-given script report cpu n (c ∷ cs) (lines.Answer seq a ∷ rest) are zero answer there =
    let same : n ≡ n + 0 = omega arith in
    let is : a ≡ answer = same_Some a answer there in
    record {
      command = c;
      command_is = refl;
      caused = subst (IsCaused script report (record { cpu = cpu; seq = n + 0 }) c) is (subst (λ (k : ℕ). IsCaused script report (record { cpu = cpu; seq = k }) c a) same are.1);
      found = first-found n (n + 0) seq a rest same are.0 ∙ ap Some is;
    }
caused-given script report cpu n (c ∷ cs) (lines.Answer seq a ∷ rest) are (suc i) answer there =
    let same : (n + 1) + i ≡ n + suc i = omega arith in
    let less : seq < n + suc i = omega (arith, are.0) in
    let g = caused-given script report cpu (n + 1) cs rest are.3 i answer there in
    record {
      command = g.command;
      command_is = g.command_is;
      caused = subst (λ (k : ℕ). IsCaused script report (record { cpu = cpu; seq = k }) g.command answer) same g.caused;
      found = later-found (n + suc i) seq a answer rest less (subst (λ (k : ℕ). answer_among rest k ≡ Some answer) same g.found);
    }

-- ---- from line to answer

abbrev is_given : CpuLine → Bool
is_given (lines.Answer seq answer) = true
is_given line = false

no-answer : (line : CpuLine) (seq : ℕ) (answer : Answer) → is_given line ≡ false → Some line ≡ Some (lines.Answer seq answer) → ⊥
no-answer line seq answer other is = true≢false (sym (ap is_given (same_Some line (lines.Answer seq answer) is)) ∙ other)

pub line-given : (script : Script) (report : Report) (cpu : Cpu) (n : ℕ) (commands : List Command) (rows : List CpuLine) → AreCaused script report cpu n commands rows → (j seq : ℕ) (answer : Answer) → slice_get rows j ≡ Some (lines.Answer seq answer)
    → (i : ℕ) × (seq ≡ n + i) × (slice_get (answers_in rows) i ≡ Some answer)
line-given script report cpu n commands [] are j seq answer there = absurd (none-some (lines.Answer seq answer) there)
line-given script report cpu n [] (row ∷ rest) are j seq answer there = absurd are
line-given script report cpu n (c ∷ cs) (lines.Event event ∷ rest) are zero seq answer there = absurd (no-answer (lines.Event event) seq answer refl there)
line-given script report cpu n (c ∷ cs) (lines.Event event ∷ rest) are (suc j) seq answer there = line-given script report cpu n (c ∷ cs) rest are.1 j seq answer there
line-given script report cpu n (c ∷ cs) (lines.Offlined line ∷ rest) are zero seq answer there = absurd (no-answer (lines.Offlined line) seq answer refl there)
line-given script report cpu n (c ∷ cs) (lines.Offlined line ∷ rest) are (suc j) seq answer there = line-given script report cpu n (c ∷ cs) rest are.2 j seq answer there
line-given script report cpu n (c ∷ cs) (lines.Guest line ∷ rest) are zero seq answer there = absurd (no-answer (lines.Guest line) seq answer refl there)
line-given script report cpu n (c ∷ cs) (lines.Guest line ∷ rest) are (suc j) seq answer there = line-given script report cpu n (c ∷ cs) rest are.2 j seq answer there
line-given script report cpu n (c ∷ cs) (lines.Answer number a ∷ rest) are zero seq answer there =
    let same : (number ≡ seq) × (a ≡ answer) = same_answer number seq a answer (same_Some (lines.Answer number a) (lines.Answer seq answer) there) in
    (0, omega (arith, are.0, same.0), ap Some same.1)
line-given script report cpu n (c ∷ cs) (lines.Answer number a ∷ rest) are (suc j) seq answer there =
    let g : (i : ℕ) × (seq ≡ (n + 1) + i) × (slice_get (answers_in rest) i ≡ Some answer) = line-given script report cpu (n + 1) cs rest are.3 j seq answer there in
    (suc g.0, omega (arith, g.1), g.2)

-- the answer that was found stands in a line
pub found-line : (seq : ℕ) (answer : Answer) (rows : List CpuLine) → answer_among rows seq ≡ Some answer → (j : ℕ) × (slice_get rows j ≡ Some (lines.Answer seq answer))
found-line seq answer [] found = absurd (none-some answer found)
found-line seq answer (lines.Event event ∷ rest) found = let g = found-line seq answer rest found in (suc g.0, g.1)
found-line seq answer (lines.Offlined line ∷ rest) found = let g = found-line seq answer rest found in (suc g.0, g.1)
found-line seq answer (lines.Guest line ∷ rest) found = let g = found-line seq answer rest found in (suc g.0, g.1)
found-line seq answer (lines.Answer number a ∷ rest) found = which (seq == number) refl (found-line seq answer rest)
  where
    which : (b : Bool) → (seq == number) ≡ b → (answer_among rest seq ≡ Some answer → (j : ℕ) × (slice_get rest j ≡ Some (lines.Answer seq answer))) → (j : ℕ) × (slice_get (lines.Answer number a ∷ rest) j ≡ Some (lines.Answer seq answer))
    which true e later =
        let is : a ≡ answer = same_Some a answer (sym (ap (λ (b : Bool). option_map answer_at (cond b (Some (record { seq = number; answer = a })) (find (λ (l : AnswerLine). seq == l.seq) (filter_map answer_in rest)))) e) ∙ found) in
        (0, ap (λ (k : ℕ). Some (lines.Answer k a)) (sym (eqb-true seq number e)) ∙ ap (λ (x : Answer). Some (lines.Answer seq x)) is)
    which false e later =
        let g = later (sym (ap (λ (b : Bool). option_map answer_at (cond b (Some (record { seq = number; answer = a })) (find (λ (l : AnswerLine). seq == l.seq) (filter_map answer_in rest)))) e) ∙ found) in
        (suc g.0, g.1)
