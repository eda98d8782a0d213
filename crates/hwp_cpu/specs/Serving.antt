-- What a processor keeps while it runs its commands.
use Rattle.std.specs.Prelude.{◌≡◌, ℕ, ◌+◌, ◌<◌, ◌≤◌, ◌⊎◌, ◌≢◌, true, false, List, [], ◌++◌, Option, Some, None, IsSome, length, map, filter_map, option_map, slice_get, take}
use Rattle.std.specs.Arc.{arc_value}
use Rattle.std.specs.List.{list_any}
use Rattle.hwp_cpu_row.specs.hwp_geom.declared.Cpu.{Cpu}
use Rattle.hwp_cpu_row.specs.hwp_geom.declared.FileNo.{FileNo}
use Rattle.hwp_cpu_row.specs.hwp_geom.declared.Frame.{Frame}
use Rattle.hwp_cpu_row.specs.hwp_geom.declared.Layout.{Layout}
use Rattle.hwp_cpu_row.specs.hwp_geom.declared.Thread.{Thread}
use Rattle.hwp_cpu_row.specs.hwp_geom.declared.VSlot.{VSlot}
use Rattle.hwp_cpu_row.specs.hwp_geom.declared.Who.{Who}
use Rattle.hwp_cpu_row.specs.hwp_geom.Pairs.{Pairs}
use Rattle.hwp_cpu_row.specs.hwp_script_words.declared.Command.{Command}
use Rattle.hwp_cpu_row.specs.hwp_report_text.declared.Answer.{Answer}
use Rattle.hwp_cpu_row.specs.hwp_report_text.declared.Answer.TheVariants as answers
use Rattle.hwp_cpu_row.specs.hwp_page.declared.At.{At}
use Rattle.hwp_cpu_row.specs.hwp_core_rule.declared.Made.{Made}
use Rattle.hwp_cpu_row.specs.hwp_core_rule.declared.Mark.{Mark}
use Rattle.hwp_cpu_row.specs.hwp_core_rule.declared.Setting.{Setting}
use Rattle.hwp_cpu_row.specs.hwp_core_rule.declared.Spoiled.{Spoiled}
use Rattle.hwp_cpu_row.specs.hwp_core_rule.declared.View.{View}
use Rattle.hwp_cpu_row.specs.hwp_core_rule.Lists.{EachMember}
use Rattle.hwp_cpu_row.specs.hwp_core_rule.Views.{no_debts}
use Rattle.hwp_cpu_row.specs.hwp_core_rule.Hands.{hand_of, empty}
use Rattle.hwp_cpu_row.specs.hwp_core_rule.Known.{HasMadeNone}
use Rattle.hwp_cpu_row.specs.hwp_core_rule.Turns.{Member}
use Rattle.hwp_cpu_row.specs.hwp_claim_frame.Done.{Marking, marking_of}
use Rattle.hwp_cpu_row.specs.declared.Local.{Local}
use Rattle.hwp_cpu_row.specs.declared.Row.{Row}
use Rattle.hwp_cpu_row.specs.declared.Watching.{Watching}
use Rattle.hwp_cpu_row.specs.hwp_banks.Banks.{Banks, empty_banks}
use Rattle.hwp_cpu_row.specs.hwp_law.Cows.{Cow, acting, copied_from}
use Rattle.hwp_cpu_row.specs.hwp_law.Settings.{settings}
use Rattle.hwp_cpu_row.specs.declared.Offlining.{Offlining}
use Rattle.hwp_cpu_row.specs.Acts.{AreInTime, acts, told_notes}
use Rattle.hwp_cpu_row.specs.CowLists.{AreCowsOf, KnowsCows}
use Rattle.hwp_cpu_row.specs.GuestLists as lists
use Rattle.hwp_cpu_row.specs.GuestLists.{AreGuestsOf, States}
use Rattle.hwp_cpu_row.specs.hwp_law.GuestRule.{denied}
use Rattle.hwp_cpu_row.specs.Locals.{IsWatching, collects}
use Rattle.hwp_cpu_row.specs.hwp_cec.Ages.{Note}
use Rattle.hwp_cpu_row.specs.hwp_law.Commands.{is_watch}
use Rattle.hwp_cpu_row.specs.hwp_law.Watched.{Watched, due, told}
use Rattle.hwp_cpu_command.specs.hwp_cpu_access.declared.Instruction.{Instruction}
use Rattle.hwp_cpu_command.specs.hwp_cpu_access.declared.instruction.Pause.{Pause}
use Rattle.hwp_cpu_command.specs.hwp_cpu_access.Fits.{IsResting}
use Rattle.hwp_cpu_command.specs.hwp_cpu_access.Instructions as instructions
use Rattle.hwp_cpu_command.specs.hwp_cpu_access.declared.Copying.{Copying}
use Rattle.hwp_cpu_command.specs.hwp_cpu_access.Copyings as copyings
use Rattle.hwp_cpu_command.specs.hwp_cpu_access.CopyFits as copying_fits
use Rattle.hwp_cpu_command.specs.hwp_soft.declared.Soft.{Soft}
use Rattle.hwp_cpu_command.specs.hwp_soft.Done as soft_done
use Rattle.hwp_cpu_command.specs.hwp_soft.Offline as offline
use Rattle.hwp_cpu_command.specs.declared.job.Job.{Job}
use Rattle.hwp_cpu_command.specs.declared.job.Job.TheVariants as kinds
use Rattle.hwp_cpu_command.specs.Done.{HasCounted, can_fail, failed_now, marked_beyond}
use Rattle.hwp_cpu_command.specs.FileHandles.{HasHandle}
use Rattle.hwp_cpu_command.specs.Jobs as jobs
use Rattle.hwp_cpu_command.specs.Jobs.{banks_before, told_of}
use Rattle.hwp_cpu_command.specs.Runs.{Runs}
use Rattle.hwp_cpu_command.specs.Settings.{AreCounted, policies_in, policies_now}
use Rattle.hwp_cpu_command.specs.Stays as stays
use Rattle.hwp_cpu_command.specs.Stays.{EndsAtOnce, HasGivenUp, HasSpoiled, IsHalted}
use Rattle.hwp_cpu.specs.declared.course.Course.{Course}
use Rattle.hwp_cpu.specs.Courses as courses
use Rattle.hwp_cpu.specs.Courses.{is_abandoned, part}
use Rattle.hwp_cpu.specs.Beside.{ArePriorWith, CanCollect, DoesSo, IsOwnServed}
use Rattle.hwp_law_served.specs.Causes.{HasOnlyMet}
use Rattle.hwp_law_served.specs.Accounts.{IsNote, act_marking, failures, markings, policies_set}
use Rattle.hwp_law_served.specs.Guests.{KnowsGuests}
use Rattle.hwp_law_served.specs.Handles.{KnowsNumbers, answers_by, number_at}
use Rattle.hwp_law_served.specs.Offlinings.{KnowsDue, left_among, left_beside, left_by, watched_at}
use Rattle.hwp_law_served.specs.Owed.{OwesOwn}
use Rattle.hwp_law_served.specs.Rows.{notes_from, at_number}
use Rattle.hwp_law_served.specs.Served.{AreRowsActed, CanStop, IsOffliningServed, IsOneOf, IsOwnSpoil, IsOwnStop, SawRunning, StaysStopped, HasStopped}
use Rattle.hwp_cpu.specs.declared.processor.Processor.{Processor}
use Rattle.hwp_cpu.specs.Processors.{IsReady, Next, Shows, aborts, bare, claims, class, cost, plan, put, who}

-- what the processor's view lists of marks and policies is of its first n commands
pub record IsListed (view : View) (cpu : Cpu) (n : ℕ) : Type 0 where
  pub marked : EachMember (λ (m : Mark). IsOneOf cpu n m.stamp.who) view.marks
  pub set : EachMember (λ (s : Setting). IsOneOf cpu n s.stamp.who) view.settings

-- ---- what a command has marked so far

-- while a frame is taken out of use beside it
abbrev pub marked_beside : Option Soft → List Marking
marked_beside None = []
marked_beside (Some s) = soft_done.marked_at s.frame s.at

-- in all: by what it told and by the frames that were taken out of use, in the order of time, and beyond that
abbrev pub marked_so_far : Course → List Marking
marked_so_far c = filter_map act_marking (acts (told_of c.own) c.due.offlined) ++ (marked_beyond c.own ++ marked_beside c.beside)

-- what the view lists of the command that runs is what that has done so far
pub record HasAccount (view : View) (who : Who) (c : Course) : Type 0 where
  pub marked : markings who view ≡ marked_so_far c
  pub failed : can_fail c.own ≡ true → failures who view ≡ failed_now c.own
  pub set : policies_set who view ≡ policies_now c.own
  pub counted : HasCounted (part c) view
  pub losses : OwesOwn who view

-- the marks of commands that are answered are noted; the others are those of the command that runs
pub record AreNoted (view : View) (cpu : Cpu) (rows : List Row) (c : Course) : Type 0 where
  pub earlier : List Mark
  pub last : List Mark
  pub all : view.marks ≡ earlier ++ last
  pub noted : Pairs IsNote (notes_from cpu 0 rows) earlier
  pub before : EachMember (λ (m : Mark). IsOneOf cpu (length rows) m.stamp.who) earlier
  pub own : EachMember (λ (m : Mark). m.stamp.who ≡ at_number cpu (length rows)) last
  pub marked : map marking_of last ≡ marked_so_far c

-- each file has a handle, with the number that the rows so far give it
pub record AreNumbered (layout : Layout) (list : List Command) (rows : List Row) (handles : List ℕ) : Type 0 where
  pub many : length handles ≡ layout.files
  pub each : (file : FileNo) → file.0 < layout.files → slice_get handles file.0 ≡ Some (number_at file list rows (length rows))

-- the processor remembers what the answers so far froze and switched
pub record Remembers (layout : Layout) (list : List Command) (rows : List Row) (cows : List Cow) : Type 0 where
  pub are : AreCowsOf layout cows
  pub known : KnowsCows layout (answers_by list rows) cows

-- what holds of the rows so far, which lead from empty banks to these, and from handles at 0 to these: each is right for the command that
-- was acted on, and after a `stopped` all are, on a machine that has stopped; each number that they tell was shown; and the frames that
-- were taken out of use beside the commands are those that were due
pub record Serves (layout : Layout) (view : View) (cpu : Cpu) (list : List Command) (rows : List Row) (banks : Banks) (handles : List ℕ) (cows : List Cow) : Type 0 where
  pub rows_are : AreRowsActed layout [] view cpu 0 empty_banks list rows banks
  pub remembers : Remembers layout list rows cows
  pub stays : StaysStopped rows
  pub halted : HasStopped rows → IsHalted view
  pub numbers : KnowsNumbers layout view cpu list rows
  pub handles_are : AreNumbered layout list rows handles
  pub due : KnowsDue layout list rows

-- ---- the command that runs

-- it has stopped the machine, as it can, and no command before it was answered `stopped`
pub record HasStoppedIt (layout : Layout) (command : Command) (rows : List Row) (j : Job) (who : Who) : Type 0 where
  pub has : stays.HasStopped j
  pub can : CanStop layout command (told_of j)
  pub who_is : jobs.who j ≡ who
  pub first : HasStopped rows → ⊥

-- the frames that it has given to the collector so far
abbrev pub noted_by : Layout → Course → List Frame
noted_by layout c = told_notes layout (take c.noted (told_of c.own))

-- what the collector was told before the command and by it
abbrev pub noting : List Frame → Option Watched → Option Watched
noting frames watched = option_map (told (map Note frames)) watched

-- the collector has what the processor's commands noted, and the frames that are due are those that the command's notes made due; those
-- of them that were taken out of use are the first, and what came of each is right
pub record KeepsWatch (layout : Layout) (view : View) (who : Who) (list : List Command) (watched : Option Watched) (c : Course) : Type 0 where
  pub few : c.noted ≤ length (told_of c.own)
  pub frames_are : c.frames ≡ layout.frames
  pub watching : IsWatching layout.frames (noting (noted_by layout c) watched) c.watching
  pub room : list_any is_watch list ≡ true → IsSome c.watching
  pub due : c.due.frames ≡ due watched (noted_by layout c)
  pub frames : map (λ (o : Offlining). o.frame) c.due.offlined ≡ take (length c.due.offlined) c.due.frames
  pub offlined : EachMember (IsOffliningServed layout view who) c.due.offlined
  pub behind : AreInTime 0 (length (told_of c.own)) c.due.offlined

-- an access or a copy that goes on has told the collector all, where its processor collects; of another task the collector gets nothing
-- while that goes on
abbrev pub HasToldAll : Option Watching → Job → ℕ → Type 0
HasToldAll watching (kinds.Instruction i) noted = collects watching ≡ true → noted ≡ length i.lines.told
HasToldAll watching (kinds.Copying y) noted = collects watching ≡ true → noted ≡ length y.instruction.lines.told
HasToldAll watching j noted = noted ≡ 0

-- where pages left frames that were taken out of use beside it
abbrev pub left_so_far : List Made → View → Job → List At
left_so_far base view (kinds.Copying y) = left_by y.store.who view
left_so_far base view j = left_among base

-- its own task goes on, behind entries that may stand before its answer: those of frames that were taken out of use are those that the
-- course tells, and no frame is left to be taken out of use
pub record OwnGoesOn (layout : Layout) (view : View) (command : Command) (copies : Option VSlot) (c : Course) : Type 0 where
  pub base : List Made
  pub fits : jobs.FitsFrom base layout view c.own
  pub prior : ArePriorWith layout command copies base
  pub left : left_so_far base view c.own ≡ left_beside c.due.offlined
  pub all : length c.due.offlined ≡ length c.due.frames
  pub told : HasToldAll c.watching c.own c.noted

-- its own task pauses behind a machine check, and all entries so far may stand before its answer
pub record IsPaused (layout : Layout) (view : View) (who : Who) (command : Command) (j : Job) : Type 0 where
  pub instruction : Instruction
  pub is : j ≡ kinds.Instruction instruction
  pub pause : Pause
  pub paused : instructions.pause instruction ≡ Some pause
  pub rests : IsResting layout view instruction pause
  pub met : HasOnlyMet layout view who command

-- a copy pauses behind a machine check of one of its accesses
pub record HasCopyPaused (layout : Layout) (view : View) (j : Job) : Type 0 where
  pub copying : Copying
  pub is : j ≡ kinds.Copying copying
  pub pause : Pause
  pub paused : copyings.pause copying ≡ Some pause
  pub rests : copying_fits.IsResting [] layout view copying pause

abbrev pub Pauses : Layout → View → Who → Command → Job → Type 0
Pauses layout view who command j = IsPaused layout view who command j ⊎ HasCopyPaused layout view j

-- its own task has its answer, and that has its cause; frames may be due behind it
pub record HasAnswered (layout : Layout) (view : View) (cpu : Cpu) (list : List Command) (rows : List Row) (local : Local) (command : Command) (j : Job) : Type 0 where
  pub answer : Answer
  pub answered : jobs.answer j ≡ Some answer
  pub collects : CanCollect command
  pub some : told_of j ≢ []
  pub served : IsOwnServed layout (answers_by list rows) None view (at_number cpu (length rows)) command j answer local.banks
  pub does : DoesSo layout (answers_by list rows) command j answer

abbrev pub Rests : Layout → View → Cpu → List Command → List Row → Local → Command → Job → Type 0
Rests layout view cpu list rows local command j = Pauses layout view (at_number cpu (length rows)) command j ⊎ HasAnswered layout view cpu list rows local command j

-- the next frame is taken out of use, behind these entries, while its own task rests and has told the collector all
pub record RunsBeside (layout : Layout) (view : View) (cpu : Cpu) (list : List Command) (rows : List Row) (local : Local) (command : Command) (c : Course) (s : Soft) : Type 0 where
  pub base : List Made
  pub fits : offline.FitsFrom base layout view s
  pub who_is : s.who ≡ at_number cpu (length rows)
  pub left : left_among base ≡ left_beside c.due.offlined
  pub next : slice_get c.due.frames (length c.due.offlined) ≡ Some s.frame
  pub all : c.noted ≡ length (told_of c.own)
  pub paid : is_abandoned s.at ≡ false → view.owed.losses ≡ []
  pub rests : Rests layout view cpu list rows local command c.own

abbrev pub GoesOn : Layout → View → Cpu → List Command → List Row → Local → Command → Option VSlot → Course → Option Soft → Type 0
GoesOn layout view cpu list rows local command copies c None = OwnGoesOn layout view command copies c
GoesOn layout view cpu list rows local command copies c (Some s) = RunsBeside layout view cpu list rows local command c s

-- the command that is acted on, and the translation that it copies from, are those of the script's command that comes next
pub record IsActedOn (layout : Layout) (list : List Command) (rows : List Row) (command : Command) (copies : Option VSlot) : Type 0 where
  pub own : Command
  pub there : slice_get list (length rows) ≡ Some own
  pub acts : command ≡ acting layout (answers_by list rows) own
  pub copies_are : copies ≡ copied_from layout (answers_by list rows) own

-- what is so of the command after those that are answered, whether its own task goes on or rests: it knows what those left; it has yet
-- to look whether the machine has stopped, or is answered `stopped`, or saw the machine running
pub record IsUnderWay (layout : Layout) (view : View) (cpu : Cpu) (list : List Command) (rows : List Row) (local : Local) (command : Command) (copies : Option VSlot) (c : Course) : Type 0 where
  pub serves : Serves layout view cpu list rows (banks_before c.own local.banks) local.handles local.cows
  pub next : IsActedOn layout list rows command copies
  pub runs : Runs layout (at_number cpu (length rows)) command copies c.own
  pub handle : HasHandle local.handles c.own
  pub policies : AreCounted (λ (thread : Thread). settings layout thread (answers_by list rows)) view c.own
  pub stopped : HasStopped rows → EndsAtOnce c.own
  pub looked : EndsAtOnce c.own ⊎ SawRunning view (at_number cpu (length rows))
  pub stops : EachMember (λ (who : Who). IsOwnStop layout cpu list rows who ⊎ HasStoppedIt layout command rows c.own who) view.stops
  pub listed : IsListed view cpu (length rows + 1)
  pub account : HasAccount view (at_number cpu (length rows)) c
  pub noted : AreNoted view cpu rows c
  pub spoiled : EachMember (λ (s : Spoiled). IsOwnSpoil cpu list rows s ⊎ HasSpoiled c.own s) view.spoiled
  pub collected : KeepsWatch layout view (at_number cpu (length rows)) list (watched_at layout list rows (length rows)) c

-- the command runs
pub record IsRunning (layout : Layout) (view : View) (cpu : Cpu) (list : List Command) (rows : List Row) (local : Local) (c : Course) : Type 0 where
  pub command : Command
  pub copies : Option VSlot
  pub way : IsUnderWay layout view cpu list rows local command copies c
  pub on : GoesOn layout view cpu list rows local command copies c c.beside

-- memory ran out for the frames that were due: the command's own task gives up, and it is never answered
pub record GivesUp (layout : Layout) (view : View) (cpu : Cpu) (list : List Command) (rows : List Row) (c : Course) : Type 0 where
  pub command : Command
  pub copies : Option VSlot
  pub next : IsActedOn layout list rows command copies
  pub runs : Runs layout (at_number cpu (length rows)) command copies c.own
  pub up : HasGivenUp c.own
  pub none : c.beside ≡ None

-- all commands are answered, none past them was begun, and nothing is held or owed
pub record IsDone (layout : Layout) (view : View) (cpu : Cpu) (list : List Command) (rows : List Row) (local : Local) : Type 0 where
  pub serves : Serves layout view cpu list rows local.banks local.handles local.cows
  pub all : length rows ≡ length list
  pub made : (k : ℕ) → length list ≤ k → HasMadeNone view (at_number cpu k)
  pub hand_is : hand_of view ≡ empty
  pub owed : view.owed ≡ no_debts
  pub stops : EachMember (IsOwnStop layout cpu list rows) view.stops
  pub listed : IsListed view cpu (length list)
  pub noted : Pairs IsNote (notes_from cpu 0 rows) view.marks
  pub spoiled : EachMember (IsOwnSpoil cpu list rows) view.spoiled
  pub policies : (thread : Thread) → policies_in thread view ≡ settings layout thread (answers_by list rows)

abbrev pub FitsAt : Layout → View → Cpu → List Command → List Row → Local → Option Course → Type 0
FitsAt layout view cpu list rows local (Some c) = courses.Fits layout view c × (IsRunning layout view cpu list rows local c ⊎ GivesUp layout view cpu list rows c)
FitsAt layout view cpu list rows local None = IsDone layout view cpu list rows local

-- the command that runs is denied where the guest of the script's command doesn't admit that, and as it says
abbrev pub IsAsked : Layout → List (Command × Answer) → Option Command → Option Course → Type 0
IsAsked layout earlier (Some own) (Some c) = jobs.denial_of c.own ≡ denied layout earlier own
IsAsked layout earlier None (Some c) = ⊥
IsAsked layout earlier own None = Unit {0}

-- the processor remembers of each guest what the answers so far made of it, its rows say of guests what they have to, and the command that runs
-- is denied if it has to be
pub record KeepsGuests (layout : Layout) (view : View) (cpu : Cpu) (list : List Command) (rows : List Row) (guests : States) (x : Option Course) : Type 0 where
  pub are : AreGuestsOf layout guests
  pub known : lists.KnowsGuests layout (answers_by list rows) guests
  pub rows_are : KnowsGuests layout view cpu list rows
  pub asked : IsAsked layout (answers_by list rows) (slice_get list (length rows)) x

-- the processor is of the machine, and its commands are answered or run
pub record Fits (layout : Layout) (view : View) (p : Processor) : Type 0 where
  pub ready : IsReady p
  pub layout_is : arc_value p.layout ≡ layout
  pub at : FitsAt layout view p.cpu p.commands p.rows.items p.local p.course
  pub guests : KeepsGuests layout view p.cpu p.commands p.rows.items p.local.guests p.course

-- the task, as the laws of tasks read it
abbrev pub task : Member Processor
task = record {
  who = who;
  plan = plan;
  put = put;
  bare = bare;
  shows = Shows;
  next = Next;
  fits = Fits;
  class = class;
  cost = cost;
  aborts = aborts;
  claims = claims;
}
