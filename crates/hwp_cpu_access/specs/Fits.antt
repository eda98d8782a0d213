-- What is held and known while an instruction accesses a line, and acts on the machine checks that it meets.
use Rattle.std.specs.Prelude.{◌≡◌, ◌⊎◌, ℕ, ◌+◌, ◌<◌, ◌≤◌, true, false, List, [], ◌++◌, Some, None, filter, length}
use Rattle.std.specs.Int.{from_bool}
use Rattle.hwp_fault.specs.hwp_geom.declared.Frame.{Frame}
use Rattle.hwp_fault.specs.hwp_geom.declared.Layout.{Layout}
use Rattle.hwp_fault.specs.hwp_geom.declared.Who.{Who}
use Rattle.hwp_fault.specs.hwp_geom.Layout.{IsSound}
use Rattle.hwp_claim.specs.hwp_banks.declared.Origin.{Origin}
use Rattle.hwp_claim.specs.hwp_banks.declared.Origin.TheVariants as origins
use Rattle.hwp_claim.specs.hwp_banks.Events.{bank_count}
use Rattle.hwp_fault.specs.hwp_page.declared.At.{At}
use Rattle.hwp_fault.specs.hwp_core_rule.declared.Made.{Made}
use Rattle.hwp_fault.specs.hwp_core_rule.declared.SharedWord.TheVariants as places
use Rattle.hwp_fault.specs.hwp_core_rule.declared.View.{View}
use Rattle.hwp_fault.specs.hwp_core_rule.Calls.{IsOnTurn}
use Rattle.hwp_fault.specs.hwp_core_rule.Hands.{hand_of, empty}
use Rattle.hwp_fault.specs.hwp_core_rule.Known.{HasOnlyBeside, Precedes, Saw, deeds}
use Rattle.hwp_fault.specs.hwp_core_rule.Turns.{Member}
use Rattle.hwp_fault.specs.declared.Access.{Access}
use Rattle.hwp_fault.specs.declared.AccessAnswer.{AccessAnswer}
use Rattle.hwp_fault.specs.declared.AccessAnswer.TheVariants as access_answers
use Rattle.hwp_fault.specs.declared.Request.{Request}
use Rattle.hwp_fault.specs.Accesses as accesses
use Rattle.hwp_fault.specs.Adds.{has_checked}
use Rattle.hwp_claim.specs.hwp_claim_frame.Claims.{IsStopped}
use Rattle.hwp_claim.specs.hwp_banks.Banks.{Banks, empty_banks}
use Rattle.hwp_claim.specs.hwp_law.Commands.{is_check}
use Rattle.hwp_claim.specs.declared.Handler.{Handler}
use Rattle.hwp_claim.specs.declared.EventOutcome.{EventOutcome}
use Rattle.hwp_claim.specs.Events.{held_in}
use Rattle.hwp_claim.specs.Fits as handler_fits
use Rattle.hwp_claim.specs.Fits.{events_of}
use Rattle.hwp_claim.specs.Handlers as handlers
use Rattle.hwp_claim.specs.Told.{first_signal, halts}
use Rattle.hwp_claim.specs.Checks.{Check, left_by, lines_of, restarting, with_own}
use Rattle.hwp_cpu_access.specs.Checks.{AreChecks, SawBad}
use Rattle.hwp_cpu_access.specs.Instructions.{Follows, Shows, bare, plan, put}
use Rattle.hwp_cpu_access.specs.Costs.{aborts, claims, class, cost}
use Rattle.hwp_cpu_access.specs.declared.instruction.Instruction.{Instruction}
use Rattle.hwp_cpu_access.specs.declared.instruction.InstructionAnswer.{InstructionAnswer}
use Rattle.hwp_cpu_access.specs.declared.instruction.InstructionAnswer.TheVariants as answers
use Rattle.hwp_cpu_access.specs.declared.instruction.InstructionAt.{InstructionAt}
use Rattle.hwp_cpu_access.specs.declared.instruction.InstructionAt.TheVariants as at
use Rattle.hwp_cpu_access.specs.declared.instruction.Pause.{Pause}
use Rattle.hwp_cpu_access.specs.declared.instruction.Pause.TheVariants as pauses

-- beside these entries the command made only such as may stand before the one that answers it
abbrev pub HasOnlyBefore : List Made → View → Request → Type 0
HasOnlyBefore base view a = HasOnlyBeside base (Precedes a.page a.slot a.line) view a.who

-- a step of the command showed that the thread's process hasn't ended
abbrev pub IsGoing : View → Request → Type 0
IsGoing view a = Saw view a.who (places.Process a.process) 0

-- the machine checks among entries, and those of the command, by the entries that it made
abbrev pub checks_in : List Made → ℕ
checks_in made = length (filter (λ (m : Made). is_check m.entry.what) made)

abbrev pub checks_made : Who → View → ℕ
checks_made who view = checks_in (deeds who view)

-- the lines tell of no event that stopped the machine, and of no failure that signalled the thread
pub record LetsGoOn (told : List EventOutcome) : Type 0 where
  pub halts_none : halts told ≡ false
  pub signals_none : first_signal told ≡ None

-- ---- how it ends

-- by the answer of its access
pub record IsOwnEnd (base : List Made) (layout : Layout) (view : View) (a : Request) (told : List EventOutcome) (answer : AccessAnswer) : Type 0 where
  pub answered : accesses.Answered base layout view a answer
  pub lets : LetsGoOn told

-- by the first failure that signalled the thread
pub record IsSignalled (base : List Made) (view : View) (a : Request) (told : List EventOutcome) (place : At) : Type 0 where
  pub first : first_signal told ≡ Some place
  pub halts_none : halts told ≡ false
  pub going : IsGoing view a
  pub only : HasOnlyBefore base view a

-- because one of its events stopped the machine
pub record IsHalted (base : List Made) (view : View) (a : Request) (told : List EventOutcome) : Type 0 where
  pub halted : halts told ≡ true
  pub stopped : IsStopped view a.who
  pub only : HasOnlyBefore base view a

abbrev pub IsEnd : List Made → Layout → View → Request → List EventOutcome → InstructionAnswer → Type 0
IsEnd base layout view a told (answers.Value word place) = IsOwnEnd base layout view a told (access_answers.Value word place)
IsEnd base layout view a told (answers.Stored place) = IsOwnEnd base layout view a told (access_answers.Stored place)
IsEnd base layout view a told (answers.Sigbus place) = IsOwnEnd base layout view a told (access_answers.Sigbus place) ⊎ IsSignalled base view a told place
IsEnd base layout view a told answers.NoFrame = IsOwnEnd base layout view a told access_answers.NoFrame
IsEnd base layout view a told (answers.Gone page) = IsOwnEnd base layout view a told (access_answers.Gone page)
IsEnd base layout view a told answers.Stopped = IsOwnEnd base layout view a told access_answers.Stopped ⊎ IsHalted base view a told

-- ---- what is held

-- the access goes on, perhaps after machine checks
pub record IsAccessing (base : List Made) (layout : Layout) (view : View) (i : Instruction) (checks : List Check) (a : Access) : Type 0 where
  pub access : accesses.FitsFrom base layout view a
  pub own : a.request ≡ i.request
  pub unanswered : accesses.answer a ≡ None
  pub paid : view.owed.losses ≡ []
  pub lets : LetsGoOn i.lines.told
  pub made : checks_made i.request.who view ≡ length checks + from_bool (has_checked a.at)

-- the machine check of a line that was bad in the frame, after others
pub record HasHandler (base : List Made) (layout : Layout) (view : View) (i : Instruction) (checks : List Check) (frame : Frame) (h : Handler) : Type 0 where
  pub handler : handler_fits.Fits layout view h
  pub own : h.who ≡ i.request.who
  pub thread_is : h.thread ≡ Some i.request.thread
  pub going : IsGoing view i.request
  pub bad : SawBad layout view i.request frame
  pub events : events_of h.events ≡ held_in (restarting i.mode) (with_own i.origin frame i.request.line (left_by i.before.value checks))
  pub room : bank_count ≤ i.lines.spare
  pub lets : LetsGoOn i.lines.told
  pub only : HasOnlyBefore base view i.request
  pub made : checks_made i.request.who view ≡ length checks + 1

pub record IsHandling (base : List Made) (layout : Layout) (view : View) (i : Instruction) (checks : List Check) (frame : Frame) (h : Handler) : Type 0 where
  pub has : HasHandler base layout view i checks frame h
  pub unanswered : handlers.answer h ≡ None

-- the end of the frame's failure is awaited
pub record IsWaiting (base : List Made) (layout : Layout) (view : View) (i : Instruction) (checks : List Check) (frame : Frame) : Type 0 where
  pub hand_is : hand_of view ≡ empty
  pub paid : view.owed.losses ≡ []
  pub lets : LetsGoOn i.lines.told
  pub only : HasOnlyBefore base view i.request
  pub made : checks_made i.request.who view ≡ length checks
  pub within : frame.0 < layout.frames
  pub empty_are : i.banks ≡ empty_banks

-- a frame that is waited for is one of the layout
abbrev pub CanResume : Layout → Pause → Type 0
CanResume layout (pauses.Wait frame) = frame.0 < layout.frames
CanResume layout pause = Unit {0}

-- the thread was signalled; or the instruction goes on
abbrev pub IsLeft : List Made → Layout → View → Request → List EventOutcome → Pause → Type 0
IsLeft base layout view a told (pauses.Sigbus place) = IsSignalled base view a told place
IsLeft base layout view a told pause = LetsGoOn told × HasOnlyBefore base view a × CanResume layout pause

-- nothing is held, this is left behind the pause, and the processor collects
pub record IsPaused (base : List Made) (layout : Layout) (view : View) (i : Instruction) (checks : List Check) (pause : Pause) : Type 0 where
  pub hand_is : hand_of view ≡ empty
  pub paid : view.owed.losses ≡ []
  pub made : checks_made i.request.who view ≡ length checks
  pub left : IsLeft base layout view i.request i.lines.told pause
  pub collects : i.collects ≡ true
  pub empty_are : i.banks ≡ empty_banks

-- nothing is held any more, and the answer has its cause
pub record IsAnswered (base : List Made) (layout : Layout) (view : View) (i : Instruction) (checks : List Check) (answer : InstructionAnswer) : Type 0 where
  pub hand_is : hand_of view ≡ empty
  pub paid : view.owed.losses ≡ []
  pub made : checks_made i.request.who view ≡ length checks
  pub ended : IsEnd base layout view i.request i.lines.told answer

abbrev pub FitsAt : List Made → Layout → View → Instruction → List Check → InstructionAt → Type 0
FitsAt base layout view i checks (at.Access a) = IsAccessing base layout view i checks a
FitsAt base layout view i checks (at.Handle frame h) = IsHandling base layout view i checks frame h
FitsAt base layout view i checks (at.LoadFrame frame) = IsWaiting base layout view i checks frame
FitsAt base layout view i checks (at.LoadStop frame) = IsWaiting base layout view i checks frame
FitsAt base layout view i checks at.GiveUp = hand_of view ≡ empty
FitsAt base layout view i checks (at.Paused pause) = IsPaused base layout view i checks pause
FitsAt base layout view i checks (at.Over None) = hand_of view ≡ empty
FitsAt base layout view i checks (at.Over (Some answer)) = IsAnswered base layout view i checks answer

-- an access of data, or of an instruction
abbrev pub IsOfAccess : Origin → Type 0
IsOfAccess origins.Access = Unit {0}
IsOfAccess origins.Fetch = Unit {0}
IsOfAccess origin = ⊥

-- what the banks hold: during a machine check nothing
abbrev pub banks_at : Banks → List Check → InstructionAt → Banks
banks_at before checks (at.Handle frame h) = empty_banks
banks_at before checks x = left_by before checks

-- all machine checks so far, the lines that tell of them, and what they left in the banks; beside these entries the command made only
-- such as the instruction makes on its way. The command may be one of many accesses: then it had these machine checks earlier, by accesses
-- before this one, whose entries are among those
pub record FitsBehind (base : List Made) (earlier : List Check) (layout : Layout) (view : View) (i : Instruction) : Type 0 where
  pub on_turn : IsOnTurn view i.request.who
  pub sound : IsSound layout
  pub names : accesses.IsDeclared layout i.request
  pub origin : IsOfAccess i.origin
  pub three : length i.before.value ≡ bank_count
  pub checks : List Check
  pub checked : AreChecks layout view i.request i.origin i.mode (left_by i.before.value earlier) checks
  pub told_is : i.lines.told ≡ lines_of (earlier ++ checks)
  pub banks_are : i.banks ≡ banks_at i.before.value (earlier ++ checks) i.at
  pub at : FitsAt base layout view i (earlier ++ checks) i.at

-- it is the only access of its command
abbrev pub FitsFrom : List Made → Layout → View → Instruction → Type 0
FitsFrom base layout view i = FitsBehind base [] layout view i

-- the thread was signalled, by this entry first
pub record IsSigned (view : View) (a : Request) (told : List EventOutcome) (place : At) : Type 0 where
  pub first : first_signal told ≡ Some place
  pub halts_none : halts told ≡ false
  pub going : IsGoing view a

-- what is left behind a pause, whatever entries the command made
abbrev pub IsLeftAt : Layout → View → Request → List EventOutcome → Pause → Type 0
IsLeftAt layout view a told (pauses.Sigbus place) = IsSigned view a told place
IsLeftAt layout view a told pause = LetsGoOn told × CanResume layout pause

-- what stays of an instruction at its pause while another task of its command goes on: what is held isn't said, nor which entries were
-- made, but how many of them are of machine checks; the command had some earlier, by accesses before this one
pub record IsRestingBehind (earlier : List Check) (layout : Layout) (view : View) (i : Instruction) (pause : Pause) : Type 0 where
  pub sound : IsSound layout
  pub names : accesses.IsDeclared layout i.request
  pub origin : IsOfAccess i.origin
  pub three : length i.before.value ≡ bank_count
  pub checks : List Check
  pub checked : AreChecks layout view i.request i.origin i.mode (left_by i.before.value earlier) checks
  pub told_is : i.lines.told ≡ lines_of (earlier ++ checks)
  pub banks_are : i.banks ≡ left_by i.before.value (earlier ++ checks)
  pub at_is : i.at ≡ at.Paused pause
  pub made : checks_made i.request.who view ≡ length (earlier ++ checks)
  pub left : IsLeftAt layout view i.request i.lines.told pause
  pub collects : i.collects ≡ true
  pub empty_are : i.banks ≡ empty_banks

-- where it is the only access of its command
abbrev pub IsResting : Layout → View → Instruction → Pause → Type 0
IsResting layout view i pause = IsRestingBehind [] layout view i pause

-- whatever entries and machine checks those are
abbrev pub Fits : Layout → View → Instruction → Type 0
Fits layout view i = (base : List Made) × (earlier : List Check) × FitsBehind base earlier layout view i

-- the task, as the laws of tasks read it
abbrev pub task : Member Instruction
task = record {
  who = λ i. i.request.who;
  plan = plan;
  put = put;
  bare = bare;
  shows = Shows;
  next = Follows;
  fits = Fits;
  class = class;
  cost = cost;
  aborts = aborts;
  claims = claims;
}
