-- What the law refuses: small changes of the example's report, each against the clause that sees it.
use Rattle.std.proofs.Common.{◌≡◌, ℕ, suc, zero, ◌<◌, ◌≤◌, Bool, true, false, List, [], ◌∷◌, Some, None, take, ◌&&◌, nat_lt, slice_get, refl, sym, ap, subst, ◌∙◌, inl, inr, lit<, true≢false, arith}
use Rattle.std.proofs.lemmas.Option.{none-some, same_Some}
use Rattle.std.specs.List.{list_any}
use Rattle.hwp_script_words.specs.hwp_geom.declared.Cpu.{Cpu}
use Rattle.hwp_script_words.specs.hwp_geom.declared.FileNo.{FileNo}
use Rattle.hwp_script_words.specs.hwp_geom.declared.Mask.{Mask}
use Rattle.hwp_script_words.specs.hwp_geom.declared.Page.{Page}
use Rattle.hwp_script_words.specs.hwp_geom.declared.PageKind.{PageKind}
use Rattle.hwp_script_words.specs.hwp_geom.declared.PageKind.TheVariants.{Anon, File}
use Rattle.hwp_script_words.specs.hwp_geom.declared.Version.{Version}
use Rattle.hwp_script_words.specs.hwp_geom.declared.Version.TheVariants.{One, Two}
use Rattle.hwp_report_text.specs.hwp_kill.declared.Policy.{Policy}
use Rattle.hwp_report_text.specs.hwp_kill.declared.Policy.TheVariants as policies
use Rattle.hwp_report_text.specs.hwp_page.declared.At.{At}
use Rattle.hwp_report_text.specs.hwp_page.declared.Met.TheVariants.{Word}
use Rattle.hwp_report_text.specs.hwp_page.declared.Entry.{Entry}
use Rattle.hwp_report_text.specs.hwp_page.declared.Outcome.TheVariants as outcomes
use Rattle.hwp_report_text.specs.hwp_page.declared.PageState.{PageState}
use Rattle.hwp_report_text.specs.hwp_page.declared.Situation.TheVariants as situations
use Rattle.hwp_report_text.specs.hwp_page.declared.What.TheVariants as entries
use Rattle.hwp_report_text.specs.hwp_page.History.{state_after}
use Rattle.hwp_report_text.specs.hwp_page.Refusals.{IsDirty, IsLockedIn}
use Rattle.hwp_report_text.specs.hwp_page.Step.{opening_of}
use Rattle.hwp_report_text.specs.hwp_banks.declared.Origin.TheVariants as origins
use Rattle.hwp_script_words.specs.declared.Command.{Command}
use Rattle.hwp_script_words.specs.declared.Command.TheVariants as commands
use Rattle.hwp_script_words.specs.declared.Script.{Script}
use Rattle.hwp_report_text.specs.declared.Acted.{Acted}
use Rattle.hwp_report_text.specs.declared.Acted.TheVariants as acts
use Rattle.hwp_report_text.specs.declared.Answer.{Answer}
use Rattle.hwp_report_text.specs.declared.Answer.TheVariants as answers
use Rattle.hwp_report_text.specs.declared.CpuLine.TheVariants as lines
use Rattle.hwp_report_text.specs.declared.EventLine.{EventLine}
use Rattle.hwp_report_text.specs.declared.How.TheVariants as hows
use Rattle.hwp_report_text.specs.declared.MarkLine.{MarkLine}
use Rattle.hwp_report_text.specs.declared.MarkLine.TheVariants as marks
use Rattle.hwp_report_text.specs.declared.OfflineResult.TheVariants as results
use Rattle.hwp_report_text.specs.declared.Whereabouts.TheVariants as places
use Rattle.hwp_report_text.specs.declared.Report.{Report}
use Rattle.hwp_law.specs.Answers.{IsNamed}
use Rattle.hwp_law.specs.Causes.{IsCaused}
use Rattle.hwp_law.specs.Checks.{IsFailureAct}
use Rattle.hwp_report_text.specs.Acts.{is_stopping}
use Rattle.hwp_report_text.specs.hwp_banks.Banks.{Banks, empty_banks}
use Rattle.hwp_law.specs.Commands.{arrival_of}
use Rattle.hwp_law.specs.Endings.{EndingsStay}
use Rattle.hwp_law.specs.Entries.{IsMadeBy}
use Rattle.hwp_law.specs.Events.{AreEventsOf, IsDamaged, MeetsMarked}
use Rattle.hwp_law.specs.Frames.{IsPlaced}
use Rattle.hwp_law.specs.Halts.{IsStoppedBy}
use Rattle.hwp_law.specs.Law.{HasShape}
use Rattle.hwp_law.specs.Lines.{seq_of}
use Rattle.hwp_law.specs.Losses.{IsNumber, LossesAgree}
use Rattle.hwp_law.specs.Pairings.{AreRecorded}
use Rattle.hwp_law.specs.Records.{Alternates, HaveEvents, WasPoisoned, ends_poisoned}
use Rattle.hwp_law.specs.SeenPolicies.{IsPolicySeen}
use Rattle.hwp_law.specs.States.{HadState, IsInWindow}
use Rattle.hwp_law.specs.Stops.{StaysStopped}
use Rattle.hwp_law.proofs.Examples.{command, history, layout, mark, report, script}

-- ---- records of frames

-- a record doesn't begin with an unpoisoning, and a second poisoning is of the next cycle
pub unpoisoned_first : Alternates (marks.Unpoisoned 0 (command 3) ∷ []) → ⊥
unpoisoned_first list = true≢false (sym (list 0 (marks.Unpoisoned 0 (command 3)) refl).turn)

pub same_cycle : Alternates (mark ∷ marks.Unpoisoned 0 (command 3) ∷ mark ∷ []) → ⊥
same_cycle list = let is : ◌≡◌ {A = ℕ} 0 1 = (list 2 mark refl).cycle in absurd (omega arith)

-- the frame's line with this record
abbrev marked : MarkLine → Report
marked m = record report { frames = record { place = places.Handled; bad = record { 0 = 0x20 }; weak = record { 0 = 0 }; marks = m ∷ [] } ∷ [] }

abbrev first_recovered : List Acted → Bool
first_recovered (acts.Recovered ∷ list) = true
first_recovered list = false

-- a mark by an event has the event's result, and the event line's command
pub other_result : HaveEvents (marked (marks.Poisoned 0 (command 2) (hows.Failure true situations.SwapDirty outcomes.Delayed))) (record { 0 = 0 }) (command 2) → ⊥
other_result same = true≢false (sym (ap first_recovered same))

pub other_command : HaveEvents (marked (marks.Poisoned 0 (command 1) (hows.Failure true situations.AnonOnly outcomes.Recovered))) (record { 0 = 0 }) (command 2) → ⊥
other_command same = true≢false (sym (ap first_recovered same))

-- a failure's mark has its entry, of the same situation; and where the row is S9 the entry says that a thread needed the page
pub no_entry : AreRecorded script (record report { pages = (take 4 history) ∷ [] }) (command 2) → ⊥
no_entry recorded = let same : ◌≡◌ {A = ℕ} 0 1 = recorded.failures situations.AnonOnly refl in absurd (omega arith)

pub other_situation : AreRecorded script (marked (marks.Poisoned 0 (command 2) (hows.Failure true situations.SwapClean outcomes.Recovered))) (command 2) → ⊥
other_situation recorded = let same : ◌≡◌ {A = ℕ} 0 1 = recorded.failures situations.SwapClean refl in absurd (omega arith)

pub optional_entry : AreRecorded script (record report { pages = ((record { who = command 2; what = entries.Fail situations.AnonOnly None [] [] }) ∷ []) ∷ [] }) (command 2) → ⊥
optional_entry recorded = let same : ◌≡◌ {A = ℕ} 0 1 = recorded.required situations.AnonOnly refl in absurd (omega arith)

-- a mark of a soft offline has a line of its command that says so, and each such line has its mark
pub unsaid_move : AreRecorded script (marked (marks.Poisoned 0 (command 2) hows.Moved)) (command 2) → ⊥
unsaid_move recorded = let same : ◌≡◌ {A = ℕ} 1 0 = recorded.softs (record { 0 = 0 }) true in absurd (omega arith)

abbrev softened : Script
softened = record script { lists = (commands.Soft (record { 0 = 1 }) ∷ []) ∷ [] }

pub unmarked_take : AreRecorded softened (record report { cpus = (lines.Answer 0 answers.TakenFree ∷ []) ∷ [] }) (command 0) → ⊥
unmarked_take recorded = let same : ◌≡◌ {A = ℕ} 0 1 = recorded.softs (record { 0 = 1 }) false in absurd (omega arith)

pub unmarked_offline : AreRecorded script (record report { cpus = (lines.Offlined (record { seq = 2; frame = record { 0 = 1 }; result = results.TakenFree }) ∷ []) ∷ [] }) (command 2) → ⊥
unmarked_offline recorded = let same : ◌≡◌ {A = ℕ} 0 1 = recorded.softs (record { 0 = 1 }) false in absurd (omega arith)

-- `already` has a poisoning before it, which no earlier command of the processor took back
pub never_poisoned : WasPoisoned [] (command 3) true → ⊥
never_poisoned was =
    let within : was.count ≤ 0 = was.within in
    let none : was.count ≡ 0 = omega arith in
    true≢false (sym (ap (λ (n : ℕ). ends_poisoned (take n [])) (sym none) ∙ was.ended))

pub taken_back : WasPoisoned (marks.Poisoned 0 (command 0) hows.Moved ∷ marks.Unpoisoned 0 (command 1) ∷ []) (command 3) true → ⊥
taken_back was =
    let past : 1 < was.count = was.earlier 1 (marks.Unpoisoned 0 (command 1)) refl (refl, lit< tt) in
    let within : was.count ≤ 2 = was.within in
    let all : was.count ≡ 2 = omega arith in
    true≢false (sym (ap (λ (n : ℕ). ends n) (sym all) ∙ was.ended))
  where
    ends : ℕ → Bool
    ends n = ends_poisoned (take n (marks.Poisoned 0 (command 0) hows.Moved ∷ marks.Unpoisoned 0 (command 1) ∷ []))

-- a frame that is poisoned isn't free
pub poisoned_free : IsPlaced layout false true places.Free → ⊥
poisoned_free placed = true≢false placed.1

-- ---- event lines

abbrev load : Banks → List EventLine → Banks → Type 0
load before list after = AreEventsOf script (λ who. None) report (command 2) (arrival_of (commands.Load (record { 0 = 0 }) (record { 0 = 0 }) 5)) (commands.Load (record { 0 = 0 }) (record { 0 = 0 }) 5) before list after

-- a machine check of an access has its event line, and an access without one has none
pub no_line : (after : Banks) → load empty_banks [] after → ⊥
no_line after (frame, [], later, all, damaged, check, rest) = check
no_line after (frame, l ∷ ls, later, all, damaged, check, rest) = absurd (true≢false (ap is_empty all))
  where
    is_empty : List EventLine → Bool
    is_empty [] = true
    is_empty (x ∷ xs) = false

pub line_too_many : (line : EventLine) (after : Banks) → AreEventsOf script (λ who. None) report (command 3) (arrival_of (commands.Load (record { 0 = 0 }) (record { 0 = 0 }) 6)) (commands.Load (record { 0 = 0 }) (record { 0 = 0 }) 6) empty_banks (line ∷ []) after → ⊥
line_too_many line after (none, same) = true≢false (sym (ap is_empty none))
  where
    is_empty : List EventLine → Bool
    is_empty [] = true
    is_empty (x ∷ xs) = false

-- the machine makes events of its own at bad lines alone
pub sound_line : IsDamaged report origins.Access 0 6 → ⊥
sound_line bad = bad refl

-- behind a stop a failure is held back, and where the machine doesn't recover it is a panic
abbrev is_held : Acted → Bool
is_held acts.Held = true
is_held _ = false

pub acted_behind_stop : IsFailureAct script report (command 2) true 0 acts.Recovered → ⊥
acted_behind_stop held = true≢false (sym (ap is_held held))

abbrev is_panic : Acted → Bool
is_panic acts.Panic = true
is_panic _ = false

pub recovered_without : IsFailureAct (record script { layout = record layout { recovery = false } }) report (command 2) false 0 acts.Recovered → ⊥
recovered_without panics = true≢false (sym (ap is_panic panics))

-- a scrub that went to its end met the line that an earlier command of its processor marked
pub passed_over : MeetsMarked script (record report { cpus = (lines.Answer 2 (answers.Scrubbed 0) ∷ []) ∷ [] }) (command 2) origins.BadLine (record { 0 = 0 }) None → ⊥
passed_over meets = meets 0 5 (command 1) refl (refl, lit< tt) refl

-- ---- the stop

-- a line of a bank that stopped the machine
abbrev stopping : ℕ → EventLine
stopping bank = record { seq = 2; bank = bank; status = 7; addr = 0; misc = 0; row = 3; acted = acts.Stop }

-- of two banks that stop, the lower one is the record's
pub higher_bank : IsStoppedBy 3 1 7 (stopping 0 ∷ stopping 1 ∷ []) → ⊥
higher_bank stopped = at stopped.place stopped.line stopped.there stopped.bank_is stopped.lowest
  where
    at : (place : ℕ) (line : EventLine) → slice_get (stopping 0 ∷ stopping 1 ∷ []) place ≡ Some line → line.bank ≡ 1
        → list_any (λ (l : EventLine). is_stopping l.acted && nat_lt l.bank 1) (take place (stopping 0 ∷ stopping 1 ∷ [])) ≡ false → ⊥
    at zero line there bank lowest = let is : ◌≡◌ {A = ℕ} 0 1 = ap (λ (l : EventLine). l.bank) (same_Some (stopping 0) line there) ∙ bank in absurd (omega arith)
    at (suc zero) line there bank lowest = true≢false lowest
    at (suc (suc n)) line there bank lowest = absurd (none-some line there)

-- after `stopped` a processor answers nothing else
abbrev is_stopped : Answer → Bool
is_stopped answers.Stopped = true
is_stopped _ = false

pub done_after : StaysStopped (lines.Answer 0 answers.Stopped ∷ lines.Answer 1 answers.Done ∷ []) → ⊥
done_after stays = true≢false (sym (ap is_stopped (stays 0 1 0 1 answers.Done (lit< tt) refl refl)))

-- ---- answers

-- a nested machine check only stops the machine, and a release names its entry
pub nested_raised : IsCaused script report (command 0) commands.RaiseNested (answers.Raised 0) → ⊥
nested_raised caused = caused

pub freed_without : IsCaused script report (command 0) (commands.Free (record { 0 = 0 })) answers.Done → ⊥
freed_without caused = caused

-- a thread without a handler that was signalled makes no later access
pub lives_on : EndingsStay (record script { layout = record layout { threads = (record { process = record { 0 = 0 }; cpu = record { 0 = 0 }; handler = false }) ∷ [] } }) report → ⊥
lives_on stay = stay (command 2) (command 3) (record { 0 = 0 }) (answers.Sigbus (record { page = record { 0 = 0 }; entry = 5 }))
    (inl (record { at = record { page = record { 0 = 0 }; entry = 4 }; entry = _; there = refl; own = refl; ending = refl })) (refl, lit< tt) refl refl

-- a number of entries past the processor's later entries, or at one of its earlier ones, is not in the window
abbrev after_entries : ℕ → At
after_entries n = record { page = record { 0 = 0 }; entry = n }

pub past_later : IsInWindow report.pages [] (command 1) (after_entries 4) → ⊥
past_later window = let is : 4 ≤ 3 = window.before_later (after_entries 3) _ refl refl refl (lit< tt) in absurd (omega arith)

pub not_past_earlier : IsInWindow report.pages [] (command 3) (after_entries 4) → ⊥
not_past_earlier window = let is : 4 < 4 = window.past_earlier (after_entries 4) _ refl refl refl (lit< tt) in absurd (omega arith)

-- the line of another command names no entry
pub named_by_other : IsNamed ((lines.Answer 1 (answers.Stored (after_entries 2)) ∷ []) ∷ []) (after_entries 2) (record { who = command 0; what = entries.Store (record { 0 = 0 }) 5 (Word (record { 0 = 0 }) 77) }) → ⊥
named_by_other (line, zero, there, own, names) = let is : ◌≡◌ {A = ℕ} 1 0 = ap seq_of (same_Some _ line there) ∙ own in absurd (omega arith)
named_by_other (line, suc i, there, own, names) = none-some line there

-- ---- entries

-- a store has the word of its command, and a command that marks a line makes no entry
pub other_word : IsMadeBy script (λ who. None) (record { 0 = 0 }) (record { who = command 0; what = entries.Store (record { 0 = 0 }) 5 (Word (record { 0 = 0 }) 78) }) → ⊥
other_word (inl made) = let is : ◌≡◌ {A = ℕ} 78 77 = made.0.3 in absurd (omega arith)
other_word (inr copied) = copied

pub made_by_mark : IsMadeBy script (λ who. None) (record { 0 = 0 }) (record { who = command 1; what = entries.Load (record { 0 = 0 }) 5 (Word (record { 0 = 0 }) 77) }) → ⊥
made_by_mark (inl made) = made.0
made_by_mark (inr copied) = copied

-- no thread has a setting that its processor's commands don't make
pub setting_unmade : (policy : Policy) → IsPolicySeen script report (record { thread = record { 0 = 0 }; policy = policy; n = 1 }) → ⊥
setting_unmade policy seen = let few : 1 ≤ 0 = seen.made in absurd (omega arith)

-- nor one by a call of prctl(2) that was answered `stopped`, where the same call answered `done` is one
abbrev setting : Script
setting = record script { lists = (commands.Prctl (record { 0 = 0 }) (record { operation = 33; arg2 = 1; arg3 = 1; arg4 = 0; arg5 = 0 }) ∷ []) ∷ [] }

abbrev told : Answer → Report
told answer = record report { cpus = (lines.Answer 0 answer ∷ []) ∷ [] }

pub setting_stopped : (policy : Policy) → IsPolicySeen setting (told answers.Stopped) (record { thread = record { 0 = 0 }; policy = policy; n = 1 }) → ⊥
setting_stopped policy seen = let few : 1 ≤ 0 = seen.made in absurd (omega arith)

pub setting_done : IsPolicySeen setting (told answers.Done) (record { thread = record { 0 = 0 }; policy = policies.Early; n = 1 })
setting_done = record { made = omega arith; policy = refl }

abbrev is_default : Policy → Bool
is_default policies.Default = true
is_default _ = false

pub other_policy : IsPolicySeen script report (record { thread = record { 0 = 0 }; policy = policies.Early; n = 0 }) → ⊥
other_policy seen = true≢false (sym (ap is_default seen.policy))

-- ---- losses

abbrev file : FileNo
file = record { 0 = 0 }

abbrev by_zero : Cpu
by_zero = record { 0 = 0 }

-- the page is of a file, and a failure lost what a store had made dirty
abbrev filed : Script
filed = record script { layout = record layout { files = 1; pages = File file 9 ∷ [] } }

abbrev lost : Report
lost = record report { files = 1 ∷ []; pages = ((record { who = command 2; what = entries.Fail situations.FileDirty None [] [] }) ∷ []) ∷ [] }

-- and other commands ask for losses
abbrev asks : Answer → Command × Answer
asks answer = (commands.Fsync file, answer)

abbrev opens : ℕ → Command × Answer
opens n = (commands.Open file, answers.Opened n)

-- the number of the file's losses is the one that the histories have
pub none_said : LossesAgree filed (record lost { files = 0 ∷ [] }) → ⊥
none_said agree = let same : ◌≡◌ {A = ℕ} 0 1 = agree.lost file 0 refl in absurd (omega arith)

-- an answer doesn't tell of more losses than there are, nor do two together
pub told_of_more : IsNumber filed lost file by_zero (asks answers.Done ∷ asks (answers.Eio 2) ∷ []) 1 → ⊥
told_of_more number = let few : 2 ≤ 1 = number.within in absurd (omega arith)

pub told_of_twice : IsNumber filed lost file by_zero (asks (answers.Eio 1) ∷ asks (answers.Eio 1) ∷ []) 1 → ⊥
told_of_twice number = let few : 2 ≤ 1 = number.within in absurd (omega arith)

pub opened_past_all : IsNumber filed lost file by_zero (opens 2 ∷ []) 0 → ⊥
opened_past_all number = let few : 2 ≤ 1 = number.within in absurd (omega arith)

-- a file isn't opened below what its processor was told
pub opened_below : IsNumber filed lost file by_zero (asks (answers.Eio 1) ∷ opens 0 ∷ []) 1 → ⊥
opened_below number = let fallen : 1 ≤ 0 = number.rises in absurd (omega arith)

-- once a processor's own command lost something, what its later commands were told has it
pub not_told : IsNumber filed lost file by_zero (asks answers.Done ∷ asks answers.Done ∷ asks answers.Done ∷ asks answers.Done ∷ []) 3 → ⊥
not_told number = let few : 1 ≤ 0 = number.covers in absurd (omega arith)

-- `fsync` isn't answered `opened`, nor `open` as `fsync` is
pub opened_unasked : (n : ℕ) → IsCaused filed lost (command 3) (commands.Fsync file) (answers.Opened n) → ⊥
opened_unasked n caused = caused

pub opened_and_told : (n : ℕ) → IsCaused filed lost (command 3) (commands.Open file) (answers.Eio n) → ⊥
opened_and_told n caused = caused

-- ---- versions and locked pages

abbrev is_first : Version → Bool
is_first One = true
is_first Two = false

-- the report is of the script's version
pub other_version : HasShape script (record report { version = Two }) → ⊥
other_version shape = true≢false (sym (ap is_first shape.version))

-- the same script, whose page is locked
abbrev locked : Script
locked = record script { layout = record layout { locked = true ∷ [] } }

abbrev page : Page
page = record { 0 = 0 }

-- `out` looks at the lines of a page that isn't locked alone
pub looked_at : (mask : Mask) → IsCaused locked report (command 0) (commands.Out page) (answers.BadLines mask (after_entries 3)) → ⊥
looked_at mask caused = true≢false caused.0

-- the page had this property after its first three entries, locked or not
had_it : (l : Bool) (P : PageState → Type 0) → HadState (record layout { locked = l ∷ [] }) report.pages (after_entries 3) P → P (state_after (opening_of Anon l) (take 3 history))
had_it l P h =
    subst (λ (k : PageKind). P (state_after (opening_of k l) (take 3 history))) (sym (same_Some Anon h.kind h.declared))
    (subst (λ (es : List Entry). P (state_after (opening_of h.kind l) (take 3 es))) (sym (same_Some history h.entries h.there)) h.had)

-- a page that isn't locked isn't refused as one, and a locked page for nothing else
pub not_locked : IsCaused script report (command 0) (commands.Drop page) (answers.Locked (after_entries 3)) → ⊥
not_locked caused = let is : IsLockedIn (state_after (opening_of Anon false) (take 3 history)) = had_it false IsLockedIn caused.1 in true≢false (sym is.1)

pub dirty_before : IsCaused locked report (command 0) (commands.Drop page) (answers.Dirty (after_entries 3)) → ⊥
dirty_before caused = let is : IsDirty (state_after (opening_of Anon true) (take 3 history)) = had_it true IsDirty caused.1 in true≢false is.1
