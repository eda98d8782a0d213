-- The words and lengths that answers rest on: each stands at a step of its own command.
use Rattle.std.specs.Prelude.{◌≡◌, ◌≢◌, ◌⊎◌, ℕ, ◌+◌, ◌<◌, Bool, true, false, List, Option, None, Some, IsSomeAnd, length, slice_get, take}
use Rattle.hwp_law.specs.hwp_geom.declared.Cpu.{Cpu}
use Rattle.hwp_law.specs.hwp_geom.declared.FileNo.{FileNo}
use Rattle.hwp_law.specs.hwp_geom.declared.Frame.{Frame}
use Rattle.hwp_law.specs.hwp_geom.declared.Layout.{Layout}
use Rattle.hwp_law.specs.hwp_geom.declared.Page.{Page}
use Rattle.hwp_law.specs.hwp_geom.declared.Proc.{Proc}
use Rattle.hwp_law.specs.hwp_geom.declared.VSlot.{VSlot}
use Rattle.hwp_law.specs.hwp_geom.declared.Who.{Who}
use Rattle.hwp_law.specs.hwp_banks.Addresses.{frame_at}
use Rattle.hwp_law.specs.hwp_page.declared.At.{At}
use Rattle.hwp_law.specs.hwp_page.Step.{IsOf}
use Rattle.hwp_plain.specs.hwp_words.Counters.{hardware_of}
use Rattle.hwp_plain.specs.hwp_words.Frames.{count_of, is_handled, is_kernel, is_poisoned, lock_of, owner_of}
use Rattle.hwp_plain.specs.hwp_words.Stops.{stopper_of}
use Rattle.hwp_plain.specs.hwp_core_rule.declared.Log.{Log}
use Rattle.hwp_plain.specs.hwp_core_rule.declared.SharedWord.TheVariants as places
use Rattle.hwp_plain.specs.hwp_core_rule.declared.Rec.{Rec}
use Rattle.hwp_plain.specs.hwp_core_rule.declared.Step.TheVariants as steps
use Rattle.hwp_plain.specs.hwp_core_rule.declared.View.{View}
use Rattle.hwp_plain.specs.hwp_core_rule.Lists.{EachMember}
use Rattle.hwp_plain.specs.hwp_core_rule.Logs.{state_of}
use Rattle.hwp_plain.specs.hwp_core_rule.parts.Places.{IsBare}
use Rattle.hwp_plain.specs.hwp_core_rule.Boards.{Played}
use Rattle.hwp_law.specs.hwp_script_words.declared.Command.{Command}
use Rattle.hwp_law.specs.hwp_script_words.declared.Command.TheVariants as commands
use Rattle.hwp_law.specs.hwp_script_words.declared.Script.{Script}
use Rattle.hwp_law.specs.hwp_report_text.declared.Acted.TheVariants as acts
use Rattle.hwp_law.specs.hwp_report_text.declared.Answer.{Answer}
use Rattle.hwp_law.specs.hwp_report_text.declared.Answer.TheVariants as answers
use Rattle.hwp_law.specs.hwp_report_text.declared.CpuLine.{CpuLine}
use Rattle.hwp_law.specs.hwp_report_text.declared.EventLine.{EventLine}
use Rattle.hwp_law.specs.hwp_report_text.declared.OfflinedLine.{OfflinedLine}
use Rattle.hwp_law.specs.hwp_report_text.declared.Report.{Report}
use Rattle.hwp_law.specs.hwp_report_text.Offlines.{offline_answer}
use Rattle.hwp_law.specs.Commands.{command_at, process_at}
use Rattle.hwp_law.specs.Lines.{answer_of, answered, events_of, offlined_of}
use Rattle.hwp_law.specs.Losses.{numbers_after, tells_number}
use Rattle.hwp_law.specs.Runs.{slot_ended}
use Rattle.hwp_law_served.specs.Turns.{Finds, FindsBad, SawPage, TurnBy}

-- the machine had stopped, or the command stopped it by a step of its own
abbrev pub StopShown : Layout → List Played → Who → Type 0
StopShown layout turns who =
    Finds layout turns who places.Stop (λ (word : ℕ). stopper_of word ≢ 0)
    ⊎ TurnBy layout turns who (λ (made : Rec) (view : View). (made.step ≡ steps.Stop who.cpu) × (made.found ≡ 0))

-- the process has this word
abbrev pub ProcessShown : Layout → List Played → Who → Proc → ℕ → Type 0
ProcessShown layout turns who process word = Finds layout turns who (places.Process process) (λ (found : ℕ). found ≡ word)

-- the process of the command's thread had ended, by a signal in this page's history
abbrev pub GoneShown : Script → List Played → Who → Page → Type 0
GoneShown script turns who page = IsSomeAnd (process_at script who) (λ (process : Proc). ProcessShown script.layout turns who process (page.0 + 1))

-- the frame's poison, or that it has none
abbrev pub PoisonShown : Layout → List Played → Who → Frame → Bool → Type 0
PoisonShown layout turns who frame poisoned = Finds layout turns who (places.Frame frame) (λ (word : ℕ). is_poisoned word ≡ poisoned)

-- these bad lines of the frame
abbrev pub BadShown : Layout → List Played → Who → Frame → ℕ → Type 0
BadShown layout turns who frame mask = Finds layout turns who (places.Bad frame) (λ (word : ℕ). word ≡ mask)

-- a frame word that can be unpoisoned: handled, unlocked, without owner, and counted for that alone
pub record IsRevivable (word : ℕ) : Type 0 where
  pub handled : is_handled word ≡ true
  pub unlocked : lock_of word ≡ 0
  pub unowned : owner_of word ≡ 0
  pub alone : count_of word ≡ 1

-- the frame was in use, with this count
abbrev pub UseShown : Layout → List Played → Who → Frame → ℕ → Type 0
UseShown layout turns who frame count = Finds layout turns who (places.Frame frame) (λ (word : ℕ). (¬ IsRevivable word) × (count_of word ≡ count))

-- a frame word without owner, lock, reference and handled bit: nobody used the frame
pub record IsFree (word : ℕ) : Type 0 where
  pub bare : IsBare word
  pub uncounted : count_of word ≡ 0

-- the command adopted the frame, which was free
abbrev pub AdoptShown : Layout → List Played → Who → Frame → Type 0
AdoptShown layout turns who frame = TurnBy layout turns who (λ (made : Rec) (view : View). (made.step ≡ steps.Adopt frame) × IsFree made.found)

-- the frame was poisoned, and could be unpoisoned; the hardware had reported no failure of memory; and the frame had no bad line
pub record RevivalShown (layout : Layout) (turns : List Played) (who : Who) (frame : Frame) : Type 0 where
  pub revivable : Finds layout turns who (places.Frame frame) (λ (word : ℕ). IsRevivable word × (is_poisoned word ≡ true))
  pub counter : Finds layout turns who places.Counter (λ (word : ℕ). hardware_of word ≡ 0)
  pub bad : BadShown layout turns who frame 0

-- so many entries of the page, whose lock and body the seat had
abbrev pub LengthShown : Layout → List Played → Who → At → Type 0
LengthShown layout turns who at = SawPage layout turns who at.page (λ (log : Log). length log.entries ≡ at.entry)

-- no frame was available, and an access found the page of its translation in none, when its seat had the page's lock and body
pub record NoFrameShown (script : Script) (turns : List Played) (who : Who) (through : Option VSlot) : Type 0 where
  pub available : Finds script.layout turns who places.Available (λ (word : ℕ). word ≡ 0)
  pub out : (slot : VSlot) (page : Page) → through ≡ Some slot → IsOf script.layout page slot → SawPage script.layout turns who page (λ (log : Log). (state_of script.layout log).cached ≡ false)

-- what an answer about a frame rests on
abbrev pub FrameAnswerShown : Layout → List Played → Who → Frame → Answer → Type 0
FrameAnswerShown layout turns who frame answers.Already = PoisonShown layout turns who frame true
FrameAnswerShown layout turns who frame answers.NotPoisoned = PoisonShown layout turns who frame false
FrameAnswerShown layout turns who frame answers.HardwareSeen = Finds layout turns who places.Counter (λ (word : ℕ). 0 < hardware_of word)
FrameAnswerShown layout turns who frame (answers.HasBad mask) = BadShown layout turns who frame mask.0
FrameAnswerShown layout turns who frame (answers.InUse count) = UseShown layout turns who frame count
FrameAnswerShown layout turns who frame answers.Kernel = Finds layout turns who (places.Frame frame) (λ (word : ℕ). is_kernel word ≡ true)
FrameAnswerShown layout turns who frame (answers.Moved other at) = AdoptShown layout turns who other
FrameAnswerShown layout turns who frame _ = Unit {0}

-- what an answer of a command with this one rests on
abbrev pub CommandAnswerShown : Layout → List Played → Who → Command → Answer → Type 0
CommandAnswerShown layout turns who (commands.Inject frame) answer = FrameAnswerShown layout turns who frame answer
CommandAnswerShown layout turns who (commands.Soft frame) answer = FrameAnswerShown layout turns who frame answer
CommandAnswerShown layout turns who (commands.Unpoison frame) answers.Done = RevivalShown layout turns who frame
CommandAnswerShown layout turns who (commands.Unpoison frame) answer = FrameAnswerShown layout turns who frame answer
CommandAnswerShown layout turns who command answer = Unit {0}

-- the words and lengths that an answer rests on were shown to its command, an access through this translation if it is one
abbrev pub AnswerShown : Script → List Played → Who → Option VSlot → Command → Answer → Type 0
AnswerShown script turns who through command answers.Stopped = StopShown script.layout turns who
AnswerShown script turns who through command (answers.Gone page) = GoneShown script turns who page
AnswerShown script turns who through command answers.NoFrame = NoFrameShown script turns who through
AnswerShown script turns who through command (answers.NotResident at) = LengthShown script.layout turns who at
AnswerShown script turns who through command (answers.NotMapped at) = LengthShown script.layout turns who at
AnswerShown script turns who through command (answers.Dirty at) = LengthShown script.layout turns who at
AnswerShown script turns who through command (answers.Mapped at) = LengthShown script.layout turns who at
AnswerShown script turns who through command (answers.Locked at) = LengthShown script.layout turns who at
AnswerShown script turns who through command (answers.BadLines mask at) = LengthShown script.layout turns who at × ((frame : Frame) × FindsBad script.layout turns who at.page frame mask.0)
AnswerShown script turns who through command answer = CommandAnswerShown script.layout turns who command answer

-- every other answer of a thread's command than `gone` and `stopped` found its process going on
abbrev pub GoesOn : Layout → List Played → Who → Proc → Answer → Type 0
GoesOn layout turns who process answers.Stopped = Unit {0}
GoesOn layout turns who process (answers.Gone page) = Unit {0}
GoesOn layout turns who process answer = ProcessShown layout turns who process 0

-- every other answer than `stopped` found the machine running
abbrev pub RunningShown : Layout → List Played → Who → Answer → Type 0
RunningShown layout turns who answers.Stopped = Unit {0}
RunningShown layout turns who answer = Finds layout turns who places.Stop (λ (word : ℕ). stopper_of word ≡ 0)

-- what came of a frame that the command took out of use rests on the same as the answer of a `soft` of the frame
abbrev pub OfflineShown : Script → List Played → Who → OfflinedLine → Type 0
OfflineShown script turns who line =
    AnswerShown script turns who None (commands.Soft line.frame) (offline_answer line.result) × RunningShown script.layout turns who (offline_answer line.result)

-- an event's frame that was poisoned already was seen so
abbrev pub AlreadyShown : Layout → List Played → Who → EventLine → Type 0
AlreadyShown layout turns who line = line.acted ≡ acts.Already → PoisonShown layout turns who (record { 0 = frame_at line.addr }) true

-- a step of the processor's i-th command found the loss word of the file at the number that the handle of the file has after it
abbrev pub NumberShown : Layout → List Played → FileNo → Cpu → List (Command × Answer) → ℕ → Type 0
NumberShown layout turns file cpu pairs i =
    Finds layout turns (record { cpu = cpu; seq = i }) (places.Loss file) (λ (word : ℕ). word ≡ numbers_after file 0 (take (i + 1) pairs))

-- it did, for each answer of the processor that tells the number of a handle
abbrev pub NumbersShown : Layout → List Played → Cpu → List Command → List CpuLine → Type 0
NumbersShown layout turns cpu list rows =
    (file : FileNo) (i : ℕ) (p : Command × Answer) → slice_get {X = Command × Answer} (answered list rows) i ≡ Some p → tells_number file p.0 p.1 ≡ true → NumberShown layout turns file cpu (answered list rows) i

-- each answer, each line of an event and of a frame taken out of use, and each number of a handle rests on what its command was shown; a
-- store that copies a page first ended through the translation of its last access
pub record IsShown (script : Script) (copies : Who → Option VSlot) (report : Report) (turns : List Played) : Type 0 where
  pub answers : (who : Who) (command : Command) (answer : Answer) → command_at script who ≡ Some command → answer_of report who ≡ Some answer → AnswerShown script turns who (slot_ended script copies report who) command answer
  pub going : (who : Who) (process : Proc) (answer : Answer) → process_at script who ≡ Some process → answer_of report who ≡ Some answer → GoesOn script.layout turns who process answer
  pub running : (who : Who) (command : Command) (answer : Answer) → command_at script who ≡ Some command → answer_of report who ≡ Some answer → RunningShown script.layout turns who answer
  pub events : (who : Who) → EachMember (AlreadyShown script.layout turns who) (events_of report who)
  pub offlined : (who : Who) → EachMember (OfflineShown script turns who) (offlined_of report who)
  pub handles : (cpu : Cpu) (list : List Command) (rows : List CpuLine) → slice_get script.lists cpu.0 ≡ Some list → slice_get report.cpus cpu.0 ≡ Some rows → NumbersShown script.layout turns cpu list rows
