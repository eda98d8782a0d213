-- When the answers of a report are those of the script's commands.
use Rattle.std.specs.Prelude.{◌≡◌, ℕ, ◌+◌, ◌*◌, ◌==◌, Bool, true, false, ◌||◌, cond, nat_lt, List, [], ◌∷◌, flat_map, Option, Some, None, length, slice_get, filter_map, IsSome, IsSomeAnd, if◌then◌else◌}
use Rattle.std.specs.List.{list_any}
use Rattle.hwp_script_words.specs.hwp_geom.declared.Cpu.{Cpu}
use Rattle.hwp_script_words.specs.hwp_geom.declared.Who.{Who}
use Rattle.hwp_script_words.specs.hwp_geom.declared.Mask.{Mask}
use Rattle.hwp_script_words.specs.hwp_geom.declared.Layout.{Layout}
use Rattle.hwp_script_words.specs.hwp_geom.declared.Page.{Page}
use Rattle.hwp_script_words.specs.hwp_geom.declared.VSlot.{VSlot}
use Rattle.hwp_report_text.specs.hwp_banks.Addresses.{frame_at}
use Rattle.hwp_report_text.specs.hwp_page.Refusals.{IsAway, IsDirty, IsLockedIn, IsMapped, IsUnused}
use Rattle.hwp_report_text.specs.hwp_page.Step.{IsOf}
use Rattle.hwp_report_text.specs.hwp_page.declared.At.{At}
use Rattle.hwp_report_text.specs.hwp_page.declared.Entry.{Entry}
use Rattle.hwp_report_text.specs.hwp_page.declared.What.{What}
use Rattle.hwp_report_text.specs.hwp_page.declared.What.TheVariants as entries
use Rattle.hwp_report_text.specs.hwp_page.declared.Met.TheVariants.{Word}
use Rattle.hwp_script_words.specs.declared.Command.{Command}
use Rattle.hwp_script_words.specs.declared.Command.TheVariants as commands
use Rattle.hwp_script_words.specs.declared.Script.{Script}
use Rattle.hwp_report_text.specs.declared.Answer.{Answer}
use Rattle.hwp_report_text.specs.declared.Answer.TheVariants as answers
use Rattle.hwp_report_text.specs.declared.Stop.{Stop}
use Rattle.hwp_report_text.specs.Offlines.{offline_answer}
use Rattle.hwp_report_text.specs.declared.CpuLine.{CpuLine}
use Rattle.hwp_report_text.specs.declared.CpuLine.TheVariants as lines
use Rattle.hwp_law.specs.Commands.{has_watch}
use Rattle.hwp_law.specs.Lines.{seq_of}
use Rattle.hwp_law.specs.Places.{entry_at}
use Rattle.hwp_law.specs.States.{HadState, IsInWindow, entry_named, state_named}

-- the frame that a command names to go bad, to fail or to go out of use; where the script has a `watch`, also one that it makes weak
abbrev pub frame_named : Bool → Command → Option ℕ
frame_named watches (commands.Bad frame line) = Some frame.0
frame_named watches (commands.Weak frame line) = if watches then Some frame.0 else None
frame_named watches (commands.Inject frame) = Some frame.0
frame_named watches (commands.Soft frame) = Some frame.0
frame_named watches (commands.Log status addr misc) = Some (frame_at addr)
frame_named watches _ = None

-- the frames that the commands of the script name
abbrev pub named_frames : Script → List ℕ
named_frames script = flat_map (filter_map (frame_named (has_watch script))) script.lists

-- how many of these frames, from number n on, are neither the kernel's nor named
abbrev pub usable_from : List ℕ → ℕ → List Bool → ℕ
usable_from named n [] = 0
usable_from named n (kernel ∷ rest) = cond (kernel || list_any (λ f. f == n) named) 0 1 + usable_from named (n + 1) rest

-- the frames that are neither the kernel's nor named
abbrev pub usable_frames : Script → ℕ
usable_frames script = usable_from (named_frames script) 0 script.layout.kernel

-- the script has usable frames enough for every page at once, with two more for each processor
abbrev pub is_ample : Script → Bool
is_ample script = nat_lt (length script.layout.pages + 2 * script.layout.cpus) (usable_frames script)

-- at the place stands this entry of this command
abbrev pub StandsAt : List (List Entry) → Who → At → What → Type 0
StandsAt pages who at what = entry_at pages at ≡ Some (record { who = who; what = what })

-- a load gave the word of its entry, or no frame was free
abbrev pub IsLoadAnswer : Script → List (List Entry) → Who → VSlot → ℕ → Answer → Type 0
IsLoadAnswer script pages who slot line (answers.Value word at) = (mask : Mask) × StandsAt pages who at (entries.Load slot line (Word mask word))
IsLoadAnswer script pages who slot line answers.NoFrame = is_ample script ≡ false
IsLoadAnswer script pages who slot line _ = ⊥

-- the answer of a command that names a page: it was made, or the page was in no frame
abbrev pub IsPageAnswer : Layout → List (List Entry) → Who → Page → What → Answer → Type 0
IsPageAnswer layout pages who page what (answers.DoneAt at) = (at.page ≡ page) × StandsAt pages who at what
IsPageAnswer layout pages who page what (answers.NotResident at) = (at.page ≡ page) × HadState layout pages at IsAway
IsPageAnswer layout pages who page what _ = ⊥

-- the report shows the cause of a command's answer
abbrev pub IsAnswer : Script → List (List Entry) → Option Stop → Who → Command → Answer → Type 0
IsAnswer script pages stop who command answers.Stopped = IsSome stop
IsAnswer script pages stop who (commands.Load thread slot line) answer = IsLoadAnswer script pages who slot line answer
IsAnswer script pages stop who (commands.Fetch thread slot line) answer = IsLoadAnswer script pages who slot line answer
IsAnswer script pages stop who (commands.KLoad thread slot line) answer = IsLoadAnswer script pages who slot line answer
IsAnswer script pages stop who (commands.Store thread slot line word) (answers.Stored at) =
    (mask : Mask) × StandsAt pages who at (entries.Store slot line (Word mask word))
IsAnswer script pages stop who (commands.Store thread slot line word) answers.NoFrame = is_ample script ≡ false
IsAnswer script pages stop who (commands.Free slot) (answers.DoneAt at) = StandsAt pages who at (entries.Free slot)
IsAnswer script pages stop who (commands.Free slot) (answers.NotMapped at) =
    IsOf script.layout at.page slot × HadState script.layout pages at (IsUnused slot)
IsAnswer script pages stop who (commands.Drop page) (answers.Dirty at) =
    (at.page ≡ page) × HadState script.layout pages at IsDirty
IsAnswer script pages stop who (commands.Drop page) (answers.Mapped at) =
    (at.page ≡ page) × HadState script.layout pages at IsMapped
IsAnswer script pages stop who (commands.Drop page) (answers.Locked at) =
    (at.page ≡ page) × HadState script.layout pages at IsLockedIn
IsAnswer script pages stop who (commands.Drop page) answer = IsPageAnswer script.layout pages who page entries.Drop answer
IsAnswer script pages stop who (commands.Sync page) answer = IsPageAnswer script.layout pages who page entries.Sync answer
IsAnswer script pages stop who (commands.Out page) (answers.Locked at) =
    (at.page ≡ page) × HadState script.layout pages at IsLockedIn
IsAnswer script pages stop who (commands.Out page) answer = IsPageAnswer script.layout pages who page entries.Out answer
IsAnswer script pages stop who (commands.Fsync file) answers.Done = Unit {0}
IsAnswer script pages stop who (commands.Open file) (answers.Opened lost) = Unit {0}
IsAnswer script pages stop who (commands.Log status addr misc) answers.Done = Unit {0}
IsAnswer script pages stop who (commands.Watch threshold window) answers.Done = Unit {0}
IsAnswer script pages stop who (commands.Fork thread process) answers.Done = Unit {0}
IsAnswer script pages stop who _ _ = ⊥

-- an entry that a line of its command has to name
abbrev pub is_answering : What → Bool
is_answering entries.FaultIn = false
is_answering (entries.Map slot) = false
is_answering (entries.Mce slot line mask) = false
is_answering (entries.Fail situation required seen signals) = false
is_answering _ = true

-- the place of the entry that a line names: its answer's, or that of the result of taking a frame out of use
abbrev pub named_in : CpuLine → Option At
named_in (lines.Event event) = None
named_in (lines.Offlined line) = entry_named (offline_answer line.result)
named_in (lines.Guest line) = None
named_in (lines.Answer seq answer) = entry_named answer

-- among the lines of the entry's processor stands one of its command that names the place
abbrev pub IsNamed : List (List CpuLine) → At → Entry → Type 0
IsNamed cpus at e =
    (line : CpuLine) × (i : ℕ)
    × IsSomeAnd (slice_get cpus e.who.cpu.0) (λ (rows : List CpuLine). slice_get rows i ≡ Some line)
    × (seq_of line ≡ e.who.seq) × (named_in line ≡ Some at)

-- each answer that says what state a page was in names a number of entries in its command's window
abbrev pub AreInWindows : List (List Entry) → List (List CpuLine) → Type 0
AreInWindows pages cpus =
    (cpu : Cpu) (rows : List CpuLine) (i seq : ℕ) (answer : Answer) (at : At) → slice_get cpus cpu.0 ≡ Some rows → slice_get rows i ≡ Some (lines.Answer seq answer)
    → state_named answer ≡ Some at → IsInWindow pages rows (record { cpu = cpu; seq = seq }) at
