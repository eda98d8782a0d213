-- What a processor knows of the numbers of its handles stays over each step of a later command, and goes on with one row more.
use Rattle.std.proofs.Common.{◌≡◌, ◌⊎◌, inl, inr, ℕ, zero, suc, ◌+◌, ◌<◌, ◌≤◌, true, List, [], ◌∷◌, ◌++◌, Option, Some, length, slice_get, take, refl, sym, ap, ◌∙◌, subst, arith}
use Rattle.std.proofs.lemmas.Option.{none-some, same_Some, slice_get_within}
use Rattle.hwp_law.specs.hwp_geom.declared.Cpu.{Cpu}
use Rattle.hwp_law.specs.hwp_geom.declared.FileNo.{FileNo}
use Rattle.hwp_law.specs.hwp_geom.declared.Layout.{Layout}
use Rattle.hwp_law.specs.hwp_geom.declared.Who.{Who}
use Rattle.hwp_law.specs.hwp_page.History.{BodyValue}
use Rattle.hwp_plain.specs.hwp_core_rule.declared.Step.{Step}
use Rattle.hwp_plain.specs.hwp_core_rule.declared.View.{View}
use Rattle.hwp_plain.proofs.of_hwp_core_rule.Lists.{at_last}
use Rattle.hwp_plain.specs.hwp_core_rule.Calls.{CanMake, Steps, logs}
use Rattle.hwp_plain.proofs.of_hwp_core_rule.tasks.LossCovers.{covers-stays}
use Rattle.hwp_plain.proofs.of_hwp_core_rule.tasks.SightKeeps.{saw-stays}
use Rattle.hwp_law.specs.hwp_script_words.declared.Command.{Command}
use Rattle.hwp_law.specs.hwp_report_text.declared.Answer.{Answer}
use Rattle.hwp_law.specs.Losses.{number_by, numbers_after, tells_number}
use Rattle.hwp_cpu_row.specs.declared.Row.{Row}
use Rattle.hwp_law_served.specs.Handles.{KnowsNumber, KnowsNumbers, answers_by, number_at}

-- ---- the numbers so far

-- after one command more the number is by that command
pub numbers-next : (file : FileNo) (n : ℕ) (list : List (Command × Answer)) (i : ℕ) (p : Command × Answer) → slice_get {X = Command × Answer} list i ≡ Some p
    → numbers_after file n (take (suc i) list) ≡ number_by file (numbers_after file n (take i list)) p.0 p.1
numbers-next file n [] i p there = absurd (none-some p there)
numbers-next file n (q ∷ qs) zero p there = ap (λ (x : Command × Answer). number_by file n x.0 x.1) (same_Some {A = Command × Answer} q p there)
numbers-next file n (q ∷ qs) (suc i) p there = numbers-next file (number_by file n q.0 q.1) qs i p there

-- rows more leave the numbers after commands that have one
front : (file : FileNo) (n : ℕ) (list : List Command) (rows more : List Row) (k : ℕ) → k ≤ length rows → numbers_after file n (take k (answers_by list (rows ++ more))) ≡ numbers_after file n (take k (answers_by list rows))
front file n list rows more zero within = refl
front file n [] rows more (suc k) within = refl
front file n (c ∷ cs) [] more (suc k) within = absurd (let none : suc k ≤ 0 = within in omega arith)
front file n (c ∷ cs) (r ∷ rs) more (suc k) within = front file (number_by file n c r.answer) cs rs more k (let one : suc k ≤ suc (length rs) = within in let less : k ≤ length rs = omega arith in less)

pub number-front : (file : FileNo) (list : List Command) (rows more : List Row) (k : ℕ) → k ≤ length rows → number_at file list (rows ++ more) k ≡ number_at file list rows k
number-front file list rows more k within = front file 0 list rows more k within

-- a command with its row's answer
abbrev pair_of : Command → Row → Option (Command × Answer)
pair_of command row = Some (command, row.answer)

-- they stand side by side
pub pair-there : (list : List Command) (rows : List Row) (i : ℕ) (command : Command) (row : Row) → slice_get list i ≡ Some command → slice_get rows i ≡ Some row → slice_get {X = Command × Answer} (answers_by list rows) i ≡ Some (command, row.answer)
pair-there [] rows i command row command_is row_is = absurd (none-some command command_is)
pair-there (c ∷ cs) [] i command row command_is row_is = absurd (none-some row row_is)
pair-there (c ∷ cs) (r ∷ rs) zero command row command_is row_is = ap (λ (x : Command). pair_of x r) (same_Some c command command_is) ∙ ap (λ (x : Row). pair_of command x) (same_Some r row row_is)
pair-there (c ∷ cs) (r ∷ rs) (suc i) command row command_is row_is = pair-there cs rs i command row command_is row_is

-- the number after a command with this row
pub number-next : (file : FileNo) (list : List Command) (rows : List Row) (i : ℕ) (command : Command) (row : Row) → slice_get list i ≡ Some command → slice_get rows i ≡ Some row
    → number_at file list rows (i + 1) ≡ number_by file (number_at file list rows i) command row.answer
number-next file list rows i command row command_is row_is =
    ap (number_at file list rows) (let same : i + 1 ≡ suc i = omega arith in same) ∙ numbers-next file 0 (answers_by list rows) i (command, row.answer) (pair-there list rows i command row command_is row_is)

-- with one row more it is by the command that comes next
pub number-last : (file : FileNo) (list : List Command) (rows : List Row) (command : Command) (row : Row) → slice_get list (length rows) ≡ Some command
    → number_at file list (rows ++ row ∷ []) (length rows + 1) ≡ number_by file (number_at file list rows (length rows)) command row.answer
number-last file list rows command row command_is =
    number-next file list (rows ++ row ∷ []) (length rows) command row command_is (at_last rows row)
    ∙ ap (λ (n : ℕ). number_by file n command row.answer) (number-front file list rows (row ∷ []) (length rows) (omega arith))

-- ---- what is known of them

-- over a step of a command that isn't answered yet
pub numbers-stay : {layout : Layout} {by : Who} {step : Step} {body : Option BodyValue} {old new : View} {found : ℕ} {got : Option BodyValue} → CanMake layout by step body old → Steps layout by step (logs body) old new found got
    → (cpu : Cpu) (list : List Command) (rows : List Row) → length rows ≤ by.seq → KnowsNumbers layout old cpu list rows → KnowsNumbers layout new cpu list rows
numbers-stay {layout} {by} can made cpu list rows past knows file i command row command_is row_is tells =
    let was = knows file i command row command_is row_is tells in
    let inside : i < length rows = slice_get_within rows i row row_is in
    let before : i ≤ by.seq = omega (arith, inside, past) in
    (saw-stays made was.0, covers-stays file (record { cpu = cpu; seq = i }) before can made (number_at file list rows (i + 1)) was.1)

-- a member of the rows with one more is one of them, or the last
abbrev IsOneOrLast : List Row → Row → ℕ → Row → Type 0
IsOneOrLast rows last i row = ((i < length rows) × (slice_get rows i ≡ Some row)) ⊎ ((i ≡ length rows) × (last ≡ row))

one-or-last : (rows : List Row) (last : Row) (i : ℕ) (row : Row) → slice_get (rows ++ last ∷ []) i ≡ Some row → IsOneOrLast rows last i row
one-or-last [] last zero row there = inr (refl, same_Some last row there)
one-or-last [] last (suc i) row there = absurd (none-some row there)
one-or-last (r ∷ rs) last zero row there = inl (omega arith, there)
one-or-last (r ∷ rs) last (suc i) row there = later (one-or-last rs last i row there)
  where
    later : IsOneOrLast rs last i row → IsOneOrLast (r ∷ rs) last (suc i) row
    later (inl (before, at)) = inl (omega (arith, before), at)
    later (inr (at, is)) = inr (omega (arith, at), is)

-- with one row more, of which it is known
pub numbers-more : (layout : Layout) (view : View) (cpu : Cpu) (list : List Command) (rows : List Row) (command : Command) (row : Row) → slice_get list (length rows) ≡ Some command → KnowsNumbers layout view cpu list rows
    → ((file : FileNo) → tells_number file command row.answer ≡ true → KnowsNumber layout view (record { cpu = cpu; seq = length rows }) file (number_by file (number_at file list rows (length rows)) command row.answer))
    → KnowsNumbers layout view cpu list (rows ++ row ∷ [])
numbers-more layout view cpu list rows command row command_is knows here file i c r c_is r_is tells = which (one-or-last rows row i r r_is)
  where
    last : i ≡ length rows → row ≡ r → KnowsNumber layout view (record { cpu = cpu; seq = i }) file (number_at file list (rows ++ row ∷ []) (i + 1))
    last at same =
        let is : command ≡ c = same_Some command c (sym command_is ∙ ap (slice_get list) (sym at) ∙ c_is) in
        let told : tells_number file command row.answer ≡ true = ap (λ (x : Command). tells_number file x row.answer) is ∙ ap (λ (x : Row). tells_number file c x.answer) same ∙ tells in
        subst (λ (k : ℕ). KnowsNumber layout view (record { cpu = cpu; seq = k }) file (number_at file list (rows ++ row ∷ []) (k + 1))) (sym at)
        (subst (KnowsNumber layout view (record { cpu = cpu; seq = length rows }) file) (sym (number-last file list rows command row command_is)) (here file told))

    which : IsOneOrLast rows row i r → KnowsNumber layout view (record { cpu = cpu; seq = i }) file (number_at file list (rows ++ row ∷ []) (i + 1))
    which (inl (before, at)) =
        subst (KnowsNumber layout view (record { cpu = cpu; seq = i }) file) (sym (number-front file list rows (row ∷ []) (i + 1) (let inside : i < length rows = before in let within : i + 1 ≤ length rows = omega (arith, inside) in within))) (knows file i c r c_is at tells)
    which (inr (at, same)) = last at same

-- at first there are none
pub numbers-begin : (layout : Layout) (view : View) (cpu : Cpu) (list : List Command) → KnowsNumbers layout view cpu list []
numbers-begin layout view cpu list file i command row command_is row_is tells = absurd (none-some row row_is)
