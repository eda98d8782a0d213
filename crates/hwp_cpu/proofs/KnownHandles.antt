-- The number of each handle of a processor is 0, or a step of the processor showed so many losses of the file.
use Rattle.hwp_cpu_row.specs.hwp_law.Cows.{acting}
use Rattle.std.proofs.Common.{◌≡◌, ◌⊎◌, inl, inr, ℕ, zero, suc, ◌+◌, ◌<◌, ◌≤◌, ◌==◌, Bool, true, false, cond, List, [], Option, Some, None, length, slice_get, replicate, refl, sym, ap, ◌∙◌, subst, arith}
use Rattle.std.specs.Prelude.{unwrap_or}
use Rattle.std.proofs.lemmas.List.{length-set, length-replicate}
use Rattle.std.proofs.lemmas.Option.{slice_get_within}
use Rattle.hwp_cpu_row.specs.hwp_geom.declared.Cpu.{Cpu}
use Rattle.hwp_cpu_row.specs.hwp_geom.declared.FileNo.{FileNo}
use Rattle.hwp_cpu_row.specs.hwp_geom.declared.Layout.{Layout}
use Rattle.hwp_cpu_row.specs.hwp_geom.declared.Who.{Who}
use Rattle.hwp_cpu_row.specs.hwp_script_words.declared.Command.{Command}
use Rattle.hwp_cpu_row.specs.hwp_script_words.declared.Command.TheVariants as commands
use Rattle.hwp_cpu_row.specs.hwp_report_text.declared.Answer.{Answer}
use Rattle.hwp_cpu_row.specs.hwp_report_text.declared.Answer.TheVariants as answers
use Rattle.hwp_law_served.specs.hwp_law.Losses.{number_by, tells_number}
use Rattle.hwp_cpu_row.specs.hwp_core_rule.declared.SharedWord.TheVariants as places
use Rattle.hwp_cpu_row.specs.hwp_core_rule.declared.View.{View}
use Rattle.hwp_cpu_row.specs.hwp_core_rule.Known.{HasSeenLoss, Saw}
use Rattle.hwp_cpu_command.specs.hwp_evict.Fsyncs as fsyncs
use Rattle.hwp_cpu_row.specs.declared.Row.{Row}
use Rattle.hwp_cpu_command.specs.declared.job.Job.{Job}
use Rattle.hwp_cpu_command.specs.declared.job.Job.TheVariants as jobs
use Rattle.hwp_cpu_command.specs.FileHandles.{HasHandle, KnowsHandle, handles_after}
use Rattle.hwp_law_served.specs.Handles.{KnowsNumbers, number_at}
use Rattle.hwp_law_served.proofs.Handles.{number-next}
use Rattle.hwp_cpu.specs.Serving.{AreNumbered}
use Rattle.hwp_law_served.proofs.Rows.{past-end}

-- an answer that tells no number leaves it
untold : (file : FileNo) (n : ℕ) (command : Command) (a : Answer) → tells_number file command a ≡ false → number_by file n command a ≡ n
untold file n (commands.Fsync other) (answers.Eio more) is = let none : cond (other.0 == file.0) more 0 ≡ 0 = ap (λ (b : Bool). cond b more 0) is in omega (arith, none)
untold file n (commands.Fsync other) _ is = refl
untold file n (commands.Open other) (answers.Opened lost) is = ap (λ (b : Bool). cond b lost n) is
untold file n (commands.Open other) _ is = refl
untold file n command a is = refl

seen-loss : (view : View) (who : Who) (file : FileNo) (n : ℕ) → Saw view who (places.Loss file) n → HasSeenLoss view file n
seen-loss view who file n (i, s, there, shown) = (i, s, there, (shown.1, shown.2))

abbrev Known : View → FileNo → ℕ → Type 0
Known view file n = (n ≡ 0) ⊎ HasSeenLoss view file n

-- each number is 0 at first, and then what some answer told
pub number-known : (layout : Layout) (view : View) (cpu : Cpu) (list : List Command) (rows : List Row) → KnowsNumbers layout view cpu list rows → (file : FileNo) (k : ℕ) → k ≤ length rows → k ≤ length list
    → Known view file (number_at file list rows k)
number-known layout view cpu list rows knows file zero few fewer = inl refl
number-known layout view cpu list rows knows file (suc k) few fewer = at-command (slice_get list k) refl (number-known layout view cpu list rows knows file k (omega (arith, few)) (omega (arith, fewer)))
  where
    here : (command : Command) (row : Row) → slice_get list k ≡ Some command → slice_get rows k ≡ Some row → (b : Bool) → tells_number file command row.answer ≡ b → Known view file (number_at file list rows k) → Known view file (number_at file list rows (k + 1))
    here command row command_is row_is true told was = inr (seen-loss view (record { cpu = cpu; seq = k }) file (number_at file list rows (k + 1)) (knows file k command row command_is row_is told).0)
    here command row command_is row_is false told was = subst (Known view file) (sym (number-next file list rows k command row command_is row_is ∙ untold file (number_at file list rows k) command row.answer told)) was

    at-row : (command : Command) (o : Option Row) → slice_get list k ≡ Some command → slice_get rows k ≡ o → Known view file (number_at file list rows k) → Known view file (number_at file list rows (k + 1))
    at-row command (Some row) command_is row_is was = here command row command_is row_is (tells_number file command row.answer) refl was
    at-row command None command_is row_is was = absurd (let most : length rows ≤ k = past-end rows k row_is in omega (arith, most, few))

    at-command : (o : Option Command) → slice_get list k ≡ o → Known view file (number_at file list rows k) → Known view file (number_at file list rows (suc k))
    at-command (Some command) is was = subst (λ (i : ℕ). Known view file (number_at file list rows i)) (let same : k + 1 ≡ suc k = omega arith in same) (at-row command (slice_get rows k) is refl was)
    at-command None is was = absurd (let most : length list ≤ k = past-end list k is in omega (arith, most, fewer))

-- so the number that a command gets is known
pub handle-known : (layout : Layout) (view : View) (cpu : Cpu) (list : List Command) (rows : List Row) (handles : List ℕ) (j : Job) → KnowsNumbers layout view cpu list rows → AreNumbered layout list rows handles → length rows ≤ length list → HasHandle handles j → KnowsHandle view j
handle-known layout view cpu list rows handles (jobs.Fsync f) knows are few has = which (slice_get handles f.file.0) refl
  where
    which : (o : Option ℕ) → slice_get handles f.file.0 ≡ o → Known view f.file f.handle
    which None is = inl (has.0 ∙ ap (λ (o : Option ℕ). unwrap_or o 0) is)
    which (Some m) is =
        let within : f.file.0 < length handles = slice_get_within handles f.file.0 m is in
        let there = are.each f.file (subst (λ (n : ℕ). f.file.0 < n) are.many within) in
        subst (Known view f.file) (sym (has.0 ∙ ap (λ (o : Option ℕ). unwrap_or o 0) there)) (number-known layout view cpu list rows knows f.file (length rows) (omega arith) few)
handle-known layout view cpu list rows handles _ knows are few has = tt

-- there are as many handles after a command
pub handles-many : (j : Job) (handles : List ℕ) → length (handles_after j handles) ≡ length handles
handles-many (jobs.Fsync f) handles = length-set handles f.file.0 (fsyncs.number f)
handles-many _ handles = refl

-- at first all numbers are 0
zeros-at : (n i : ℕ) → i < n → slice_get {X = ℕ} (replicate n 0) i ≡ Some 0
zeros-at zero i less = absurd (omega (arith, less))
zeros-at (suc n) zero less = refl
zeros-at (suc n) (suc i) less = zeros-at n i (omega (arith, less))

pub numbers-first : (layout : Layout) (list : List Command) → AreNumbered layout list [] (replicate layout.files 0)
numbers-first layout list = record { many = length-replicate layout.files 0; each = λ file inside. zeros-at layout.files file.0 inside }

-- a command is acted on by the same answers as to handles
pub number-acted : (layout : Layout) (earlier : List (Command × Answer)) (file : FileNo) (n : ℕ) (own : Command) (a : Answer) → number_by file n (acting layout earlier own) a ≡ number_by file n own a
number-acted layout earlier file n (commands.Load thread slot line) a = refl
number-acted layout earlier file n own a = refl

pub tells-acted : (layout : Layout) (earlier : List (Command × Answer)) (file : FileNo) (own : Command) (a : Answer) → tells_number file (acting layout earlier own) a ≡ tells_number file own a
tells-acted layout earlier file (commands.Load thread slot line) a = refl
tells-acted layout earlier file own a = refl
