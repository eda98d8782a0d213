-- The answers of commands, by lines that are read from the last one on.
use Rattle.std.proofs.Common.{◌≡◌, ℕ, zero, suc, ◌+◌, ◌-◌, ◌<◌, List, [], ◌∷◌, ◌++◌, Option, Some, drop, get_or, length, replicate, slice_set, take, unwrap_or, refl, sym, ap, ◌∙◌, arith}
use Rattle.std.proofs.lemmas.List.{drop_all, drop_more}
use Rattle.hwp_law.specs.hwp_report_text.declared.Answer.{Answer}
use Rattle.hwp_law.specs.hwp_report_text.declared.Answer.TheVariants as answers
use Rattle.hwp_law.specs.hwp_report_text.declared.CpuLine.{CpuLine}
use Rattle.hwp_law.specs.hwp_report_text.declared.CpuLine.TheVariants as lines
use Rattle.hwp_law.specs.hwp_script_words.declared.Command.{Command}
use Rattle.hwp_law.specs.Lines.{answer_among, answers_from, answers_to}
use Rattle.hwp_law.proofs.AnswersInOrder.{other-answer, own-answer, same-from}
use Rattle.hwp_check_rules.specs.ActedOn.{noted}

-- without a line each counts as `stopped`
none-told : (n count : ℕ) → replicate count answers.Stopped ≡ answers_from (answer_among []) n count
none-told n zero = refl
none-told n (suc more) = ap (λ (l : List Answer). answers.Stopped ∷ l) (none-told (n + 1) more)

take-none : (n : ℕ) → ◌≡◌ {A = List Answer} (take n []) []
take-none zero = refl
take-none (suc n) = refl

pub answers-begin : (commands : List Command) (rows : List CpuLine) (given none : List Answer) (m : ℕ) → given ≡ take (length commands) none ++ replicate (length commands - m) answers.Stopped → none ≡ [] → m ≡ 0
    → given ≡ answers_to commands (drop (length rows - 0) rows)
answers-begin commands rows given none m is empty least =
    let all : length commands - m ≡ length commands = omega (arith, least) in
    is ∙ ap (λ (l : List Answer). take (length commands) l ++ replicate (length commands - m) answers.Stopped) empty
    ∙ ap (λ (l : List Answer). l ++ replicate (length commands - m) answers.Stopped) (take-none (length commands))
    ∙ ap (λ (n : ℕ). replicate n answers.Stopped) all ∙ none-told 0 (length commands) ∙ ap (answers_to commands) (sym (drop_all (length rows - 0) rows (omega arith)))

-- one for each command
many-from : (told : ℕ → Option Answer) (n count : ℕ) → length (answers_from told n count) ≡ count
many-from told n zero = refl
many-from told n (suc more) = ap suc (many-from told (n + 1) more)

pub answers-many : (commands : List Command) (rows : List CpuLine) (given : List Answer) → given ≡ answers_to commands rows → length given ≡ length commands
answers-many commands rows given is = ap (λ (l : List Answer). length l) is ∙ many-from (answer_among rows) 0 (length commands)

-- an answer more, of the i-th command
set-from : (told next : ℕ → Option Answer) (n count i : ℕ) (answer : Answer) → ((k : ℕ) → k ≡ n + i → next k ≡ Some answer) → ((k : ℕ) → (k ≡ n + i → ⊥) → next k ≡ told k)
    → slice_set (answers_from told n count) i answer ≡ answers_from next n count
set-from told next n zero i answer own other = refl
set-from told next n (suc more) zero answer own other =
    ap (λ (o : Option Answer). unwrap_or o answers.Stopped ∷ answers_from told (n + 1) more) (sym (own n (omega arith)))
    ∙ ap (λ (l : List Answer). unwrap_or (next n) answers.Stopped ∷ l) (same-from told next (n + 1) more (λ k above. sym (other k (λ is. omega (arith, above, is)))))
set-from told next n (suc more) (suc i) answer own other =
    ap (λ (o : Option Answer). unwrap_or o answers.Stopped ∷ slice_set (answers_from told (n + 1) more) i answer) (sym (other n (λ is. omega (arith, is))))
    ∙ ap (λ (l : List Answer). unwrap_or (next n) answers.Stopped ∷ l)
    (set-from told next (n + 1) more i answer (λ k is. own k (omega (arith, is))) (λ k differs. other k (λ is. differs (omega (arith, is)))))

noted-more : (row : CpuLine) (rest : List CpuLine) (commands : List Command) → noted row (answers_to commands rest) ≡ answers_to commands (row ∷ rest)
noted-more (lines.Event event) rest commands = refl
noted-more (lines.Offlined offlined) rest commands = refl
noted-more (lines.Guest guest) rest commands = refl
noted-more (lines.Answer seq answer) rest commands =
    let same : 0 + seq ≡ seq = omega arith in
    set-from (answer_among rest) (answer_among (lines.Answer seq answer ∷ rest)) 0 (length commands) seq answer (λ k is. own-answer seq answer rest k (is ∙ same)) (λ k differs. other-answer seq answer rest k (λ is. differs (is ∙ sym same)))

pub answers-more : (commands : List Command) (rows : List CpuLine) (given after : List Answer) (back : ℕ) (d : CpuLine) → back < length rows → after ≡ noted (get_or rows (length rows - 1 - back) d) given
    → given ≡ answers_to commands (drop (length rows - back) rows) → after ≡ answers_to commands (drop (length rows - (back + 1)) rows)
answers-more commands rows given after back d within done are =
    let at : ℕ = length rows - (back + 1) in
    let here : at < length rows = omega (arith, within) in
    let place : length rows - 1 - back ≡ at = omega (arith, within) in
    let next : at + 1 ≡ length rows - back = omega (arith, within) in
    done ∙ ap (noted (get_or rows (length rows - 1 - back) d)) are
    ∙ noted-more (get_or rows (length rows - 1 - back) d) (drop (length rows - back) rows) commands
    ∙ sym (ap (answers_to commands) (drop_more rows at d here ∙ (λ i. get_or rows (sym place i) d ∷ drop (next i) rows)))
