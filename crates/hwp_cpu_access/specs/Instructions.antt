-- An instruction that accesses a line, with the machine checks that it meets: the task's states, its steps and what they come to.
use Rattle.std.specs.Prelude.{◌≡◌, ◌⊎◌, ℕ, ◌≤◌, ◌&&◌, ◌||◌, Bool, not, cond, Option, Some, None}
use Rattle.std.specs.declared.alloc.Global.{Global}
use Rattle.hwp_fault.specs.hwp_geom.declared.Frame.{Frame}
use Rattle.hwp_fault.specs.hwp_geom.declared.Layout.{Layout}
use Rattle.hwp_fault.specs.hwp_geom.declared.Mode.{Mode}
use Rattle.hwp_claim.specs.hwp_banks.declared.Origin.{Origin}
use Rattle.hwp_claim.specs.hwp_banks.Events.{bank_count}
use Rattle.hwp_fault.specs.hwp_page.declared.At.{At}
use Rattle.hwp_fault.specs.hwp_page.History.{BodyValue}
use Rattle.hwp_fault.specs.hwp_words.Frames.{is_handled, is_kernel, is_poisoned}
use Rattle.hwp_fault.specs.hwp_words.Stops.{has_no_memory}
use Rattle.hwp_fault.specs.hwp_core_rule.declared.SharedWord.TheVariants as places
use Rattle.hwp_fault.specs.hwp_core_rule.declared.Step.{Step}
use Rattle.hwp_fault.specs.hwp_core_rule.declared.Step.TheVariants as steps
use Rattle.hwp_fault.specs.hwp_core_rule.declared.Turn.{Turn}
use Rattle.hwp_fault.specs.hwp_core_rule.declared.Turn.TheVariants.{Moved, NoMemory, Waits}
use Rattle.hwp_fault.specs.declared.Access.{Access}
use Rattle.hwp_fault.specs.declared.AccessAnswer.{AccessAnswer}
use Rattle.hwp_fault.specs.declared.AccessAnswer.TheVariants as access_answers
use Rattle.hwp_fault.specs.declared.Request.{Request}
use Rattle.hwp_fault.specs.Accesses as accesses
use Rattle.hwp_claim.specs.hwp_banks.Banks.{Banks, empty_banks}
use Rattle.hwp_claim.specs.declared.Handler.{Handler}
use Rattle.hwp_claim.specs.Handlers as handlers
use Rattle.hwp_claim.specs.Lines.{no_lines, with_lines}
use Rattle.hwp_claim.specs.Told.{first_signal, has_kept, was_poisoned}
use Rattle.hwp_claim.specs.Checks.{restarting, with_own}
use Rattle.hwp_cpu_access.specs.declared.instruction.Instruction.{Instruction}
use Rattle.hwp_cpu_access.specs.declared.instruction.InstructionAnswer.{InstructionAnswer}
use Rattle.hwp_cpu_access.specs.declared.instruction.InstructionAnswer.TheVariants as answers
use Rattle.hwp_cpu_access.specs.declared.instruction.InstructionAt.{InstructionAt}
use Rattle.hwp_cpu_access.specs.declared.instruction.InstructionAt.TheVariants as at
use Rattle.hwp_cpu_access.specs.declared.instruction.Pause.{Pause}
use Rattle.hwp_cpu_access.specs.declared.instruction.Pause.TheVariants as pauses

-- the access at its beginning
abbrev pub first : Request → InstructionAt
first request = at.Access (accesses.begin request)

-- whether its processor collects corrected errors is told at its beginning
abbrev pub begin : Global → Request → Origin → Mode → Banks → Bool → Instruction
begin alloc request origin mode banks collects = record {
  alloc = alloc;
  request = request;
  origin = origin;
  mode = mode;
  collects = collects;
  before = record { marker = record {}; value = banks };
  banks = banks;
  lines = no_lines;
  at = first request;
}

-- another access of the same command begins, with what the banks hold by then, and behind what was told so far
abbrev pub again_with : Instruction → Request → Instruction
again_with i request = record i { request = request; at = first request }

-- ---- the step that comes

abbrev pub plan_at : InstructionAt → Option Step
plan_at (at.Access a) = accesses.plan a
plan_at (at.Handle frame h) = handlers.plan h
plan_at (at.LoadFrame frame) = Some (steps.Load (places.Frame frame))
plan_at (at.LoadStop frame) = Some (steps.Load places.Stop)
plan_at at.GiveUp = Some steps.GiveUp
plan_at (at.Paused pause) = None
plan_at (at.Over answer) = None

abbrev pub plan : Instruction → Option Step
plan i = plan_at i.at

abbrev pub put_at : InstructionAt → Option BodyValue
put_at (at.Access a) = accesses.put a
put_at (at.Handle frame h) = handlers.put h
put_at _ = None

abbrev pub put : Instruction → Option BodyValue
put i = put_at i.at

abbrev pub bare_at : InstructionAt → InstructionAt
bare_at (at.Access a) = at.Access (accesses.bare a)
bare_at (at.Handle frame h) = at.Handle frame (handlers.bare h)
bare_at x = x

abbrev pub bare : Instruction → Instruction
bare i = record i { at = bare_at i.at }

abbrev pub answer_at : InstructionAt → Option InstructionAnswer
answer_at (at.Over answer) = answer
answer_at _ = None

abbrev pub answer : Instruction → Option InstructionAnswer
answer i = answer_at i.at

abbrev pub pause_at : InstructionAt → Option Pause
pause_at (at.Paused pause) = Some pause
pause_at _ = None

abbrev pub pause : Instruction → Option Pause
pause i = pause_at i.at

-- ---- what follows

abbrev pub over : InstructionAnswer → InstructionAt
over answer = at.Over (Some answer)

-- the instruction is made again
abbrev pub restarted : Instruction → InstructionAt
restarted i = at.Access (accesses.again i.request)

-- what is left of an instruction behind a machine check that didn't stop the machine: the first failure that signalled the thread
-- answers it; where the frame was poisoned already, the end of that failure is awaited
abbrev pub left_to_do : Option At → Frame → Bool → Pause
left_to_do (Some place) frame poisoned = pauses.Sigbus place
left_to_do None frame poisoned = cond poisoned (pauses.Wait frame) pauses.Again

-- the instruction goes on with it, perhaps behind a pause
abbrev pub resumed : Request → Pause → InstructionAt
resumed request (pauses.Sigbus place) = at.Over (Some (answers.Sigbus place))
resumed request (pauses.Wait frame) = at.LoadFrame frame
resumed request pauses.Again = at.Access (accesses.again request)

abbrev pub going_on : Request → Bool → Pause → InstructionAt
going_on request kept pause = cond kept (at.Paused pause) (resumed request pause)

-- behind its pause; one that doesn't pause stays as it is
abbrev pub resume_by : Instruction → Option Pause → Instruction
resume_by i None = i
resume_by i (Some pause) = record i { at = resumed i.request pause }

abbrev pub resume : Instruction → Instruction
resume i = resume_by i (pause i)

-- its next step gives up the command
abbrev pub give_up : Instruction → Instruction
give_up i = record i { at = at.GiveUp }

-- where its processor collects and the machine check kept an event, the instruction pauses
abbrev pub after_check : Instruction → Frame → Handler → InstructionAt
after_check i frame h = going_on i.request (has_kept h.events.told && i.collects) (left_to_do (first_signal h.events.told) frame (was_poisoned frame h.events.told))

abbrev pub over_at : Instruction → Frame → Handler → Bool → InstructionAt
over_at i frame h stopped = cond stopped (over answers.Stopped) (after_check i frame h)

-- the same by what the machine check told
abbrev pub over_with : Request → Bool → Bool → Pause → InstructionAt
over_with request stopped kept pause = cond stopped (over answers.Stopped) (going_on request kept pause)

abbrev pub after_handler_by : Instruction → Frame → Handler → Option Bool → Instruction
after_handler_by i frame h None = record i { at = at.Handle frame h }
after_handler_by i frame h (Some stopped) =
    record i { lines = with_lines i.lines h.events.told; at = over_at i frame h stopped }

-- the machine check goes on, or is over
abbrev pub after_handler : Instruction → Frame → Handler → Instruction
after_handler i frame h = after_handler_by i frame h (handlers.answer h)

-- the machine check of a line that is bad in the frame: its own event is logged
abbrev pub handler_of : Layout → Instruction → Frame → Handler
handler_of layout i frame = handlers.begin layout i.alloc i.request.who (Some i.request.thread) (restarting i.mode) (with_own i.origin frame i.request.line i.banks)

-- there is room for the lines of the machine check, and it leaves the banks empty
abbrev pub emptied : Instruction → ℕ → Instruction
emptied i spare = record i { banks = empty_banks; lines = record i.lines { spare = spare } }

-- the machine check begins; or, where room for its lines was refused, the command is given up
abbrev pub BeginsCheck : Layout → Instruction → Frame → Instruction → Type 0
BeginsCheck layout i frame after =
    (after ≡ record i { at = at.GiveUp }) ⊎ ((spare : ℕ) × (bank_count ≤ spare) × (after ≡ after_handler (emptied i spare) frame (handler_of layout i frame)))

abbrev pub answered : Instruction → InstructionAnswer → Instruction
answered i answer = record i { at = over answer }

abbrev pub AfterAccessBy : Layout → Instruction → Access → Option AccessAnswer → Instruction → Type 0
AfterAccessBy layout i a None after = after ≡ record i { at = at.Access a }
AfterAccessBy layout i a (Some (access_answers.Checked frame place)) after = BeginsCheck layout i frame after
AfterAccessBy layout i a (Some (access_answers.Value word place)) after = after ≡ answered i (answers.Value word place)
AfterAccessBy layout i a (Some (access_answers.Stored place)) after = after ≡ answered i (answers.Stored place)
AfterAccessBy layout i a (Some (access_answers.Sigbus place)) after = after ≡ answered i (answers.Sigbus place)
AfterAccessBy layout i a (Some access_answers.NoFrame) after = after ≡ answered i answers.NoFrame
AfterAccessBy layout i a (Some (access_answers.Gone page)) after = after ≡ answered i (answers.Gone page)
AfterAccessBy layout i a (Some access_answers.Stopped) after = after ≡ answered i answers.Stopped

-- the access goes on, or has its answer
abbrev pub AfterAccess : Layout → Instruction → Access → Instruction → Type 0
AfterAccess layout i a after = AfterAccessBy layout i a (accesses.answer a) after

-- the failure of the frame with this word is under way
abbrev pub is_pending : ℕ → Bool
is_pending word = is_poisoned word && not (is_handled word || is_kernel word)

abbrev pub after_load : Instruction → Frame → ℕ → Instruction
after_load i frame found = record i { at = cond (is_pending found) (at.LoadStop frame) (restarted i) }

abbrev pub turn_of_load : ℕ → Turn
turn_of_load found = cond (is_pending found) (Waits found) Moved

-- a processor that has given up ends the wait
abbrev pub after_stop : Instruction → Frame → ℕ → Instruction
after_stop i frame found = record i { at = cond (has_no_memory found) (at.Over None) (at.LoadFrame frame) }

abbrev pub turn_of_stop : ℕ → Turn
turn_of_stop found = cond (has_no_memory found) NoMemory Moved

-- ---- each step

pub record AccessStepped (layout : Layout) (i : Instruction) (a : Access) (found : ℕ) (got : Option BodyValue) (after : Instruction) (turn : Turn) : Type 0 where
  pub access : Access
  pub follows : accesses.Next layout a found got access turn
  pub next_is : AfterAccess layout i access after

pub record HandlerStepped (layout : Layout) (i : Instruction) (frame : Frame) (h : Handler) (found : ℕ) (got : Option BodyValue) (after : Instruction) (turn : Turn) : Type 0 where
  pub handler : Handler
  pub follows : handlers.Follows layout h found got handler turn
  pub next_is : after ≡ after_handler i frame handler

abbrev pub FollowsAt : Layout → Instruction → InstructionAt → ℕ → Option BodyValue → Instruction → Turn → Type 0
FollowsAt layout i (at.Access a) found got after turn = AccessStepped layout i a found got after turn
FollowsAt layout i (at.Handle frame h) found got after turn = HandlerStepped layout i frame h found got after turn
FollowsAt layout i (at.LoadFrame frame) found got after turn = (after ≡ after_load i frame found) × (turn ≡ turn_of_load found)
FollowsAt layout i (at.LoadStop frame) found got after turn = (after ≡ after_stop i frame found) × (turn ≡ turn_of_stop found)
FollowsAt layout i at.GiveUp found got after turn = (after ≡ record i { at = at.Over None }) × (turn ≡ NoMemory)
FollowsAt layout i (at.Paused pause) found got after turn = (after ≡ i) × (turn ≡ Moved)
FollowsAt layout i (at.Over answer) found got after turn = (after ≡ i) × (turn ≡ Moved)

abbrev pub Follows : Layout → Instruction → ℕ → Option BodyValue → Instruction → Turn → Type 0
Follows layout i found got after turn = FollowsAt layout i i.at found got after turn

abbrev pub ShowsAt : ℕ → InstructionAt → ℕ → Option BodyValue → Type 0
ShowsAt spare (at.Access a) found got = accesses.Shows a found got
ShowsAt spare (at.Handle frame h) found got = handlers.ShowsWithin spare h found got
ShowsAt spare _ found got = Unit {0}

abbrev pub Shows : Instruction → ℕ → Option BodyValue → Type 0
Shows i found got = ShowsAt i.lines.spare i.at found got
