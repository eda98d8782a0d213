-- A command with the frames that are taken out of use beside it. In all that it plans, shows and comes to it is its own task, or the frame
-- that is taken out of use while that rests.
use Rattle.std.specs.Prelude.{◌≡◌, ◌⊎◌, ℕ, ◌+◌, ◌-◌, ◌*◌, ◌^◌, ◌<◌, ◌≤◌, ◌==◌, ◌&&◌, nat_lt, Bool, true, false, cond, List, [], Option, Some, None, drop, is_some, length}
use Rattle.hwp_cpu_row.specs.hwp_geom.declared.Frame.{Frame}
use Rattle.hwp_cpu_row.specs.hwp_geom.declared.Layout.{Layout}
use Rattle.hwp_cpu_row.specs.hwp_geom.declared.VSlot.{VSlot}
use Rattle.hwp_cpu_row.specs.hwp_geom.declared.Who.{Who}
use Rattle.hwp_cpu_row.specs.hwp_script_words.declared.Command.{Command}
use Rattle.hwp_cpu_row.specs.hwp_report_text.declared.Answer.{Answer}
use Rattle.hwp_cpu_row.specs.hwp_report_text.declared.OfflineResult.{OfflineResult}
use Rattle.hwp_cpu_row.specs.hwp_report_text.declared.OfflineResult.TheVariants as results
use Rattle.hwp_cpu_row.specs.hwp_page.History.{BodyValue}
use Rattle.hwp_cpu_row.specs.hwp_core_rule.declared.Made.{Made}
use Rattle.hwp_cpu_row.specs.hwp_core_rule.declared.Step.{Step}
use Rattle.hwp_cpu_row.specs.hwp_core_rule.declared.View.{View}
use Rattle.hwp_cpu_row.specs.hwp_core_rule.Lists.{EachMember}
use Rattle.hwp_cpu_row.specs.hwp_core_rule.Words.{Words}
use Rattle.hwp_cpu_row.specs.hwp_core_rule.declared.Turn.{Turn}
use Rattle.hwp_cpu_row.specs.hwp_core_rule.declared.Turn.TheVariants as turns
use Rattle.hwp_cpu_row.specs.hwp_core_rule.Calls.{IsOnTurn}
use Rattle.hwp_cpu_row.specs.hwp_core_rule.Hands.{empty, hand_of}
use Rattle.hwp_cpu_row.specs.hwp_core_rule.Ranks.{failure_weight, stale_weight}
use Rattle.hwp_cpu_row.specs.hwp_core_rule.Turns.{Member}
use Rattle.hwp_cpu_row.specs.hwp_law.Notes.{is_for_pages}
use Rattle.hwp_cpu_row.specs.hwp_law.hwp_cec.Ages.{CecEvent}
use Rattle.hwp_cpu_row.specs.hwp_law.hwp_cec.Counters.{StandsFor}
use Rattle.hwp_cpu_row.specs.hwp_claim.declared.EventOutcome.{EventOutcome}
use Rattle.hwp_cpu_row.specs.declared.Local.{Local}
use Rattle.hwp_cpu_row.specs.declared.Offlining.{Offlining}
use Rattle.hwp_cpu_row.specs.declared.Row.{Row}
use Rattle.hwp_cpu_row.specs.declared.Watching.{Watching}
use Rattle.hwp_cpu_row.specs.Locals.{collects}
use Rattle.hwp_cpu_command.specs.declared.Job.{Job}
use Rattle.hwp_cpu_command.specs.declared.job.Job.TheVariants as kinds
use Rattle.hwp_cpu_command.specs.Begins.{BeginsWith}
use Rattle.hwp_cpu_command.specs.Done.{failed_now}
use Rattle.hwp_cpu_command.specs.FileHandles as handles
use Rattle.hwp_cpu_command.specs.Jobs as jobs
use Rattle.hwp_cpu_command.specs.hwp_cpu_access.declared.instruction.InstructionAt.{InstructionAt}
use Rattle.hwp_cpu_command.specs.hwp_cpu_access.declared.instruction.InstructionAt.TheVariants as instruction_at
use Rattle.hwp_cpu_command.specs.hwp_cpu_access.declared.instruction.Pause.{Pause}
use Rattle.hwp_cpu_command.specs.hwp_cpu_access.Costs.{anew_after_wait}
use Rattle.hwp_cpu_command.specs.hwp_cpu_access.Fits.{IsResting}
use Rattle.hwp_cpu_command.specs.hwp_cpu_access.Instructions as instructions
use Rattle.hwp_cpu_command.specs.hwp_cpu_access.declared.copying.CopyingAt.{CopyingAt}
use Rattle.hwp_cpu_command.specs.hwp_cpu_access.declared.copying.CopyingAt.TheVariants as copying_at
use Rattle.hwp_cpu_command.specs.hwp_cpu_access.Copyings as copyings
use Rattle.hwp_cpu_command.specs.hwp_cpu_access.CopyCosts as copying_costs
use Rattle.hwp_cpu_command.specs.hwp_cpu_access.CopyFits as copying_fits
use Rattle.hwp_cpu_command.specs.hwp_scrub.declared.raise.RaiseAt.{RaiseAt}
use Rattle.hwp_cpu_command.specs.hwp_scrub.declared.raise.RaiseAt.TheVariants as raise_at
use Rattle.hwp_cpu_command.specs.hwp_scrub.declared.scrub.ScrubAt.{ScrubAt}
use Rattle.hwp_cpu_command.specs.hwp_scrub.declared.scrub.ScrubAt.TheVariants as scrub_at
use Rattle.hwp_cpu_command.specs.hwp_soft.declared.Soft.{Soft}
use Rattle.hwp_cpu_command.specs.hwp_soft.declared.SoftAnswer.{SoftAnswer}
use Rattle.hwp_cpu_command.specs.hwp_soft.declared.SoftAnswer.TheVariants as answers
use Rattle.hwp_cpu_command.specs.hwp_soft.declared.soft.SoftAt.{SoftAt}
use Rattle.hwp_cpu_command.specs.hwp_soft.declared.soft.SoftAt.TheVariants as soft_at
use Rattle.hwp_cpu_command.specs.hwp_soft.Offline as offline
use Rattle.hwp_cpu_command.specs.hwp_soft.Softs as softs
use Rattle.hwp_cpu_row.specs.hwp_claim.hwp_guest.declared.Admit.{Admit}
use Rattle.hwp_cpu.specs.declared.course.Course.{Course}
use Rattle.hwp_cpu_row.specs.Dues.{Covers, DueValue, HasTaken, next_due, no_due, with_offlining}

-- ---- its beginning and its end

-- no frame is due yet
abbrev pub begin : Job → Option Watching → ℕ → Course
begin own watching frames = record { own = own; beside = None; watching = watching; noted = 0; due = no_due; frames = frames }

-- its own task begins as the command does that copies from this translation, if any, and that its guest admits so or doesn't, of a processor
-- that carries this, and the collector is the processor's
pub record BeginsCourse (layout : Layout) (who : Who) (command : Command) (copies : Option VSlot) (admit : Admit) (local : Local) (c : Course) : Type 0 where
  pub begins : BeginsWith layout who command copies admit local.banks (collects local.watching) c.own
  pub handle : handles.HasHandle local.handles c.own
  pub is : c ≡ begin c.own local.watching layout.frames

-- what the processor keeps while the command runs, and what it carries on after it
abbrev pub local_left : Course → Local → Local
local_left c local = record (handles.local_left c.own local) { watching = None }

abbrev pub local_after : Course → Answer → Local → Local
local_after c answer local = handles.local_after c.own answer (record local { watching = c.watching })

abbrev pub row_of : Course → Answer → Row
row_of c answer = jobs.row_of c.own answer c.due.offlined

-- none while a frame is taken out of use beside it
abbrev pub answer_of : Option Soft → Job → Option Answer
answer_of (Some soft) own = None
answer_of None own = jobs.answer own

abbrev pub answer : Course → Option Answer
answer c = answer_of c.beside c.own

-- ---- the part that goes on

abbrev pub part_of : Option Soft → Job → Job
part_of (Some soft) own = kinds.Soft soft
part_of None own = own

abbrev pub part : Course → Job
part c = part_of c.beside c.own

abbrev pub bare_of : Course → Option Soft → Course
bare_of c (Some soft) = record c { beside = Some (softs.bare soft) }
bare_of c None = record c { own = jobs.bare c.own; beside = None }

abbrev pub bare : Course → Course
bare c = bare_of c c.beside

-- ---- what came of a frame

-- a frame that is due isn't the kernel's
abbrev pub offline_result : SoftAnswer → OfflineResult
offline_result answers.Stopped = results.Stopped
offline_result answers.Kernel = results.Stopped
offline_result answers.Already = results.Already
offline_result (answers.HasBad mask) = results.HasBad mask
offline_result answers.NoFrame = results.NoFrame
offline_result (answers.TakenFree cycle) = results.TakenFree
offline_result (answers.Moved to place cycle) = results.Moved to place

abbrev pub offlining : Job → Frame → SoftAnswer → Offlining
offlining own frame answer = record { frame = frame; result = offline_result answer; change = jobs.offlined_by frame answer; told = length (jobs.told_of own) }

abbrev pub with_result : Course → Frame → SoftAnswer → Course
with_result c frame answer = record c { due = with_offlining c.due (offlining c.own frame answer) }

-- ---- a rest of its own task

-- an access and a copy at a pause, any other command with its answer
abbrev pub rests : Job → Bool
rests (kinds.Instruction i) = is_some (instructions.pause i)
rests (kinds.Copying c) = is_some (copyings.pause c)
rests j = is_some (jobs.answer j)

-- what an access told without a pause notes nothing, and the collector passes it over
abbrev pub passed : Job → ℕ → ℕ
passed (kinds.Instruction i) noted = length i.lines.told
passed (kinds.Copying c) noted = length c.instruction.lines.told
passed j noted = noted

-- the frame that comes next is taken out of use, or the command's own task goes on
abbrev pub going_on : Course → Option Frame → Course
going_on c (Some frame) = record c { beside = Some (softs.begin (jobs.who c.own) frame) }
going_on c None = record c { own = jobs.resume c.own; beside = None }

abbrev pub turn_on : Course → Option Frame → Turn
turn_on c (Some frame) = turns.Moved
turn_on c None = cond (is_some (jobs.answer (jobs.resume c.own))) turns.Answered turns.Moved

abbrev pub IsGoingOn : Course → Course → Turn → Type 0
IsGoingOn c after turn = (after ≡ going_on c (next_due c.due)) × (turn ≡ turn_on c (next_due c.due))

-- the events that it told of since the collector got some last
abbrev pub told_since : Course → List EventOutcome
told_since c = drop c.noted (jobs.told_of c.own)

-- there are some, of a machine of so many frames as it began with
abbrev pub has_more : Layout → Course → Bool
has_more layout c = nat_lt c.noted (length (jobs.told_of c.own)) && (layout.frames == c.frames)

-- the collector took what they note, and the frames that are due by them come last
abbrev pub AfterCollecting : Layout → Course → Course → Type 0
AfterCollecting layout c after =
    (w : Option Watching) × (d : DueValue) × HasTaken layout (told_since c) c.watching c.due w d
    × (after ≡ record c { watching = w; noted = length (jobs.told_of c.own); due = d })

-- or there was no room, and the command gives up
abbrev pub HasRefused : Course → Course → Turn → Type 0
HasRefused c after turn = (after ≡ record c { own = jobs.give_up c.own }) × (turn ≡ turns.Moved)

abbrev pub AfterRestBy : Layout → Course → Bool → Course → Turn → Type 0
AfterRestBy layout c false after turn = IsGoingOn c after turn
AfterRestBy layout c true after turn = HasRefused c after turn ⊎ ((k : Course) × AfterCollecting layout c k × IsGoingOn k after turn)

abbrev pub AfterRest : Layout → Course → Course → Turn → Type 0
AfterRest layout c after turn = AfterRestBy layout c (has_more layout c) after turn

-- ---- a turn

-- of its own task, until that has its answer where its processor collects
abbrev pub AfterOwnBy : Layout → Course → Bool → Turn → Course → Turn → Type 0
AfterOwnBy layout c false t after turn = (after ≡ record c { noted = passed c.own c.noted }) × (turn ≡ t)
AfterOwnBy layout c true t after turn = (u : Turn) × AfterRest layout c after u × (turn ≡ cond (jobs.pauses c.own) t u)

abbrev pub AfterOwnIf : Layout → Course → Bool → Turn → Course → Turn → Type 0
AfterOwnIf layout c false t after turn = (after ≡ c) × (turn ≡ t)
AfterOwnIf layout c true t after turn = AfterOwnBy layout c (rests c.own) t after turn

abbrev pub AfterOwn : Layout → Course → Turn → Course → Turn → Type 0
AfterOwn layout c t after turn = AfterOwnIf layout c (collects c.watching) t after turn

-- of the frame that is taken out of use, until that is done
abbrev pub AfterSoft : Course → Soft → Option SoftAnswer → Turn → Course → Turn → Type 0
AfterSoft c s None t after turn = (after ≡ c) × (turn ≡ t)
AfterSoft c s (Some answer) t after turn = IsGoingOn (with_result c s.frame answer) after turn

abbrev pub NextOf : Layout → Course → Option Soft → ℕ → Option BodyValue → Course → Turn → Type 0
NextOf layout c None found got after turn = (k : Job) × (t : Turn) × jobs.Next layout c.own found got k t × AfterOwn layout (record c { own = k }) t after turn
NextOf layout c (Some soft) found got after turn = (s : Soft) × (t : Turn) × softs.Follows layout soft found got s t × AfterSoft (record c { beside = Some s }) s (softs.answer s) t after turn

abbrev pub Next : Layout → Course → ℕ → Option BodyValue → Course → Turn → Type 0
Next layout c found got after turn = NextOf layout c c.beside found got after turn

abbrev pub ShowsOf : Course → Option Soft → ℕ → Option BodyValue → Type 0
ShowsOf c None found got = jobs.Shows c.own found got × Covers c.frames c.watching
ShowsOf c (Some soft) found got = softs.Shows soft found got × (0 < c.due.spare)

abbrev pub Shows : Course → ℕ → Option BodyValue → Type 0
Shows c found got = ShowsOf c c.beside found got

-- ---- why it ends

-- more than all turns in which a frame is taken out of use
abbrev pub soft_weight : ℕ
soft_weight = 3 * stale_weight

-- no command that tells of many events tells of more
abbrev pub due_room : ℕ
due_room = 2 ^ 16

-- such a command pays for all frames that may be due behind it
abbrev pub flat : Job → ℕ
flat (kinds.Raise r) = soft_weight * due_room
flat (kinds.Scrub s) = soft_weight * due_room
flat _ = 0

-- its next step gives it up
abbrev pub gives_up_access : InstructionAt → Bool
gives_up_access instruction_at.GiveUp = true
gives_up_access _ = false

abbrev pub gives_up_raise : RaiseAt → Bool
gives_up_raise raise_at.GiveUp = true
gives_up_raise _ = false

abbrev pub gives_up_scrub : ScrubAt → Bool
gives_up_scrub scrub_at.GiveUp = true
gives_up_scrub _ = false

abbrev pub gives_up_copy : InstructionAt → CopyingAt → Bool
gives_up_copy x copying_at.Access = gives_up_access x
gives_up_copy x _ = false

abbrev pub gives_up : Job → Bool
gives_up (kinds.Instruction i) = gives_up_access i.at
gives_up (kinds.Copying c) = gives_up_copy c.instruction.at c.at
gives_up (kinds.Raise r) = gives_up_raise r.at
gives_up (kinds.Scrub s) = gives_up_scrub s.at
gives_up _ = false

-- its own task goes on, or is over
abbrev pub own_cost : Job → Option Step → Words → ℕ
own_cost j None words = 0
own_cost j (Some step) words = cond (gives_up j) 2 (jobs.cost j words + flat j + 3)

-- behind a pause an access may begin anew, and in a copy the accesses behind it are still to come
abbrev pub cost_behind : Job → ℕ
cost_behind (kinds.Instruction i) = anew_after_wait
cost_behind (kinds.Copying c) = failure_weight * copying_costs.behind c.cow.at + anew_after_wait
cost_behind _ = 0

abbrev pub behind_cost : ℕ → Job → ℕ
behind_cost more j = cond (jobs.pauses j) (cost_behind j + more) 0

-- each frame that comes next costs more than all its turns, and the one that is taken out of use its own; then its own task goes on
abbrev pub cost_of : Course → Option Soft → Words → ℕ
cost_of c None words = own_cost c.own (jobs.plan c.own) words
cost_of c (Some soft) words = softs.cost soft words + soft_weight * (length c.due.frames - (length c.due.offlined + 1)) + behind_cost 4 c.own + 1

abbrev pub cost : Course → Words → ℕ
cost c words = cost_of c c.beside words

-- ---- what is held and known

-- the collector is for the machine's frames, and where it collects it stands for what it was told
abbrev pub IsOfMachine : Layout → Option Watching → Type 0
IsOfMachine layout None = Unit {0}
IsOfMachine layout (Some w) = (length w.collector.counts ≡ layout.frames) × (w.on ≡ true → (events : List CecEvent) × StandsFor events w.collector)

-- the collector has got or passed over all that an access told that goes on, if memory hasn't run out for that
abbrev pub HasPassed : Job → ℕ → Type 0
HasPassed (kinds.Instruction i) noted = (i.collects ≡ true) × (gives_up_access i.at ≡ false → noted ≡ length i.lines.told)
HasPassed (kinds.Copying c) noted = (c.instruction.collects ≡ true) × (gives_up_copy c.instruction.at c.at ≡ false → noted ≡ length c.instruction.lines.told)
HasPassed _ noted = Unit {0}

-- its own task goes on, behind whatever entries the command made, and no frame is due
pub record IsGoing (layout : Layout) (view : View) (c : Course) : Type 0 where
  pub fits : jobs.Fits layout view c.own
  pub none_due : length c.due.frames ≡ length c.due.offlined
  pub passed : collects c.watching ≡ true → HasPassed c.own c.noted

-- all is done: nothing is held, and a command of which memory can fail owes no loss
pub record IsDone (view : View) (c : Course) : Type 0 where
  pub on_turn : IsOnTurn view (jobs.who c.own)
  pub hand_is : hand_of view ≡ empty
  pub paid : (view.owed.losses ≡ []) ⊎ (failed_now c.own ≡ [])
  pub idle : jobs.claims c.own ≡ None

-- its own task rests: it has its answer, or it pauses
abbrev pub IsAtPause : Layout → View → Job → Type 0
IsAtPause layout view (kinds.Instruction i) = (p : Pause) × IsResting layout view i p
IsAtPause layout view (kinds.Copying c) = (p : Pause) × (base : List Made) × copying_fits.IsResting base layout view c p
IsAtPause layout view _ = ⊥

abbrev pub RestsNow : Layout → View → Job → Type 0
RestsNow layout view j = ((is_some (jobs.answer j) ≡ true) × (jobs.claims j ≡ None)) ⊎ (IsAtPause layout view j × (view.owed.losses ≡ []))

-- memory ran out while the frame was taken out of use: the command is never answered
abbrev pub is_abandoned : SoftAt → Bool
is_abandoned (soft_at.GiveUp g) = true
is_abandoned _ = false

-- what is so of the command's own task meanwhile
pub record IsWaiting (layout : Layout) (view : View) (c : Course) : Type 0 where
  pub rests : RestsNow layout view c.own
  pub paid : view.owed.losses ≡ []

-- a frame that is due is taken out of use, as a part of the same command
pub record IsTakingOut (layout : Layout) (view : View) (c : Course) (s : Soft) : Type 0 where
  pub soft : offline.Fits layout view s
  pub own : s.who ≡ jobs.who c.own
  pub next : next_due c.due ≡ Some s.frame
  pub own_waits : is_abandoned s.at ≡ false → IsWaiting layout view c
  pub noted : c.noted ≡ length (jobs.told_of c.own)

abbrev pub FitsOwn : Layout → View → Course → Option Answer → Type 0
FitsOwn layout view c None = IsGoing layout view c
FitsOwn layout view c (Some answer) = IsDone view c

abbrev pub FitsOf : Layout → View → Course → Option Soft → Type 0
FitsOf layout view c None = FitsOwn layout view c (jobs.answer c.own)
FitsOf layout view c (Some soft) = IsTakingOut layout view c soft

pub record Fits (layout : Layout) (view : View) (c : Course) : Type 0 where
  pub frames_are : c.frames ≡ layout.frames
  pub collector : IsOfMachine layout c.watching
  pub noted : c.noted ≤ length (jobs.told_of c.own)
  pub behind : length c.due.offlined ≤ length c.due.frames
  pub for_pages : EachMember (λ (f : Frame). is_for_pages layout f ≡ true) c.due.frames
  pub few : length c.due.frames ≤ length c.due.offlined + due_room
  pub room : length c.due.frames ≤ length c.due.offlined + c.due.spare
  pub at : FitsOf layout view c c.beside

-- the task, as the laws of tasks read it
abbrev pub task : Member Course
task = record {
  who = λ c. jobs.who c.own;
  plan = λ c. jobs.plan (part c);
  put = λ c. jobs.put (part c);
  bare = bare;
  shows = Shows;
  next = Next;
  fits = Fits;
  class = λ c. jobs.class (part c);
  cost = cost;
  aborts = λ c. jobs.aborts (part c);
  claims = λ c. jobs.claims (part c);
}
