-- A frame poisoned and taken from those that use it, or could: the task's states, its steps and what they come to.
use Rattle.std.specs.Prelude.{◌≡◌, ◌⊎◌, ℕ, ◌+◌, ◌*◌, ◌<◌, ◌==◌, ◌&&◌, ◌||◌, Bool, true, false, cond, min, List, [], ◌∷◌, ◌++◌, Option, Some, None, is_none, filter, slice_get}
use Rattle.std.specs.List.{sum_by}
use Rattle.std.specs.Int.{from_bool}
use Rattle.hwp_core.specs.hwp_geom.declared.Frame.{Frame}
use Rattle.hwp_core.specs.hwp_geom.declared.Layout.{Layout}
use Rattle.hwp_core.specs.hwp_geom.declared.Page.{Page}
use Rattle.hwp_core.specs.hwp_geom.declared.Who.{Who}
use Rattle.hwp_core.specs.hwp_page.History.{BodyValue}
use Rattle.hwp_core.specs.hwp_page.Losses.{is_loss}
use Rattle.hwp_core.specs.hwp_words.Frames.{count_of, cycle_of, is_handled, is_kernel, is_poisoned}
use Rattle.hwp_core.specs.hwp_words.Stops.{is_stopped}
use Rattle.hwp_core.specs.hwp_core_rule.declared.Made.{Made}
use Rattle.hwp_core.specs.hwp_core_rule.declared.Mark.{Mark}
use Rattle.hwp_core.specs.hwp_core_rule.declared.MarkKind.TheVariants as mark_kinds
use Rattle.hwp_core.specs.hwp_core_rule.declared.SharedWord.TheVariants as places
use Rattle.hwp_core.specs.hwp_core_rule.declared.Step.{Step}
use Rattle.hwp_core.specs.hwp_core_rule.declared.Step.TheVariants as steps
use Rattle.hwp_core.specs.hwp_core_rule.declared.View.{View}
use Rattle.hwp_core.specs.hwp_core_rule.Asks.{OwesCount}
use Rattle.hwp_core.specs.hwp_core_rule.Lists.{SomeMember}
use Rattle.hwp_core.specs.hwp_core_rule.Words.{Words}
use Rattle.hwp_core.specs.hwp_core_rule.parts.Counter.{is_poisoning}
use Rattle.hwp_core.specs.hwp_core_rule.declared.Turn.{Turn}
use Rattle.hwp_core.specs.hwp_core_rule.declared.Turn.TheVariants.{Moved, Changed, NoMemory}
use Rattle.hwp_core.specs.hwp_core_rule.Calls.{IsOnTurn}
use Rattle.hwp_core.specs.hwp_core_rule.Hands.{hand_of, empty}
use Rattle.hwp_core.specs.hwp_core_rule.Known.{Saw, SawStop}
use Rattle.hwp_core.specs.hwp_core_rule.Ranks.{stale_weight}
use Rattle.hwp_core.specs.hwp_core_rule.Turns.{Member}
use Rattle.hwp_core.specs.declared.unlock.Unlock.{Unlock}
use Rattle.hwp_core.specs.Unlocks as unlocks
use Rattle.hwp_core.specs.Unlocks.{empty_frame}
use Rattle.hwp_claim_frame.specs.declared.claim.Claim.{Claim}
use Rattle.hwp_claim_frame.specs.declared.claim.ClaimAt.{ClaimAt}
use Rattle.hwp_claim_frame.specs.declared.claim.ClaimAt.TheVariants as at
use Rattle.hwp_claim_frame.specs.declared.claim.ClaimAnswer.{ClaimAnswer}
use Rattle.hwp_claim_frame.specs.declared.claim.ClaimAnswer.TheVariants as answers
use Rattle.hwp_claim_frame.specs.declared.grab.Grab.{Grab}
use Rattle.hwp_claim_frame.specs.declared.grab.GrabAnswer.{GrabAnswer}
use Rattle.hwp_claim_frame.specs.declared.grab.GrabAnswer.TheVariants as grab_answers
use Rattle.hwp_claim_frame.specs.declared.meet.Meet.{Meet}
use Rattle.hwp_claim_frame.specs.declared.meet.MeetAt.{MeetAt}
use Rattle.hwp_claim_frame.specs.declared.meet.MeetAt.TheVariants as meet_at
use Rattle.hwp_claim_frame.specs.declared.meet.MeetAnswer.{MeetAnswer}
use Rattle.hwp_claim_frame.specs.declared.meet.MeetAnswer.TheVariants as meet_answers
use Rattle.hwp_claim_frame.specs.Grabs as grabs
use Rattle.hwp_claim_frame.specs.Meets as meets
use Rattle.hwp_claim_frame.specs.Meets.{is_ended}

-- a machine that doesn't recover is stopped
abbrev pub start : Bool → ClaimAt
start recovery = cond recovery at.Poison at.Stop

abbrev pub begin : Who → Frame → Bool → Bool → Claim
begin who frame hardware recovery = record { who = who; frame = frame; hardware = hardware; at = start recovery }

abbrev pub plan_at : Who → Frame → Bool → ClaimAt → Option Step
plan_at who frame hardware at.Stop = Some (steps.Stop who.cpu)
plan_at who frame hardware at.Poison = Some (steps.Poison frame hardware)
plan_at who frame hardware (at.Count cycle) = Some (steps.CountPoison hardware)
plan_at who frame hardware (at.Look cycle) = Some (steps.Load (places.Frame frame))
plan_at who frame hardware (at.Grab cycle g) = grabs.plan g
plan_at who frame hardware (at.Meet cycle m) = meets.plan m
plan_at who frame hardware (at.Unlock cycle u) = unlocks.plan u
plan_at who frame hardware (at.Retire cycle) = Some (steps.Retire frame)
plan_at who frame hardware at.GaveUp = None
plan_at who frame hardware at.Stopped = None
plan_at who frame hardware at.Already = None
plan_at who frame hardware (at.Free cycle) = None
plan_at who frame hardware (at.Kernel cycle) = None
plan_at who frame hardware (at.Owned cycle page body) = None

abbrev pub plan : Claim → Option Step
plan c = plan_at c.who c.frame c.hardware c.at

abbrev pub put_at : ClaimAt → Option BodyValue
put_at (at.Meet cycle m) = meets.put m
put_at (at.Unlock cycle u) = unlocks.put u
put_at _ = None

abbrev pub put : Claim → Option BodyValue
put c = put_at c.at

abbrev pub bare_at : ClaimAt → ClaimAt
bare_at (at.Meet cycle m) = at.Meet cycle (meets.bare m)
bare_at (at.Unlock cycle u) = at.Unlock cycle (unlocks.bare u)
bare_at at.Stop = at.Stop
bare_at at.Poison = at.Poison
bare_at (at.Count cycle) = at.Count cycle
bare_at (at.Look cycle) = at.Look cycle
bare_at (at.Grab cycle g) = at.Grab cycle g
bare_at (at.Retire cycle) = at.Retire cycle
bare_at at.GaveUp = at.GaveUp
bare_at at.Stopped = at.Stopped
bare_at at.Already = at.Already
bare_at (at.Free cycle) = at.Free cycle
bare_at (at.Kernel cycle) = at.Kernel cycle
bare_at (at.Owned cycle page body) = at.Owned cycle page body

abbrev pub bare : Claim → Claim
bare c = record c { at = bare_at c.at }

-- the stop word that the command's own stop met: another may have given up because memory ran out
abbrev pub stopped : ℕ → ClaimAt
stopped found = cond (found == 0) at.Stopped (cond (is_stopped found) at.Stopped at.GaveUp)

abbrev pub poisoned : ℕ → ClaimAt
poisoned found = cond (is_poisoned found) at.Already (at.Count (cycle_of found))

-- the frame is out of use, or another's failure
abbrev pub is_done : ℕ → ℕ → Bool
is_done cycle word = is_ended cycle word || is_handled word

-- what is to be done about the word of the poisoned frame
abbrev pub looked : Who → Frame → ℕ → ℕ → ClaimAt
looked who frame cycle word =
    cond (is_kernel word) (at.Kernel cycle) (cond (is_done cycle word) (at.Free cycle) (cond (count_of word == 0) (at.Grab cycle (grabs.begin who frame)) (at.Meet cycle (meets.begin who frame (Some cycle) word))))

-- the frame that was grabbed
abbrev pub grabbed : Who → Frame → ℕ → ℕ → ClaimAt
grabbed who frame cycle word = cond (is_ended cycle word) (at.Unlock cycle (unlocks.begin who frame None)) (at.Retire cycle)

abbrev pub after_grab_by : Who → Frame → ℕ → Grab → Option GrabAnswer → ClaimAt
after_grab_by who frame cycle g None = at.Grab cycle g
after_grab_by who frame cycle g (Some grab_answers.LookAgain) = at.Look cycle
after_grab_by who frame cycle g (Some (grab_answers.Grabbed word)) = grabbed who frame cycle word

abbrev pub after_grab : Who → Frame → ℕ → Grab → ClaimAt
after_grab who frame cycle g = after_grab_by who frame cycle g (grabs.answer g)

abbrev pub owned_by : ℕ → Meet → Page → MeetAt → ClaimAt
owned_by cycle m page (meet_at.Owned own body) = at.Owned cycle page body
owned_by cycle m page _ = at.Meet cycle m

abbrev pub after_meet_by : ℕ → Meet → Option MeetAnswer → ClaimAt
after_meet_by cycle m None = at.Meet cycle m
after_meet_by cycle m (Some meet_answers.LookAgain) = at.Look cycle
after_meet_by cycle m (Some meet_answers.Ended) = at.Free cycle
after_meet_by cycle m (Some meet_answers.Free) = at.Retire cycle
after_meet_by cycle m (Some (meet_answers.Owned page)) = owned_by cycle m page m.at

abbrev pub after_meet : ℕ → Meet → ClaimAt
after_meet cycle m = after_meet_by cycle m (meets.answer m)

abbrev pub after_unlock : ℕ → Unlock → ClaimAt
after_unlock cycle u = cond (is_none (unlocks.plan u)) (at.Free cycle) (at.Unlock cycle u)

abbrev pub next_at : Who → Frame → ClaimAt → ℕ → Option BodyValue → ClaimAt
next_at who frame at.Stop found got = stopped found
next_at who frame at.Poison found got = poisoned found
next_at who frame (at.Count cycle) found got = at.Look cycle
next_at who frame (at.Look cycle) found got = looked who frame cycle found
next_at who frame (at.Grab cycle g) found got = after_grab who frame cycle (grabs.next g found)
next_at who frame (at.Meet cycle m) found got = after_meet cycle (meets.next m found got)
next_at who frame (at.Unlock cycle u) found got = after_unlock cycle (unlocks.next u found)
next_at who frame (at.Retire cycle) found got = at.Free cycle
next_at who frame at.GaveUp found got = at.GaveUp
next_at who frame at.Stopped found got = at.Stopped
next_at who frame at.Already found got = at.Already
next_at who frame (at.Free cycle) found got = at.Free cycle
next_at who frame (at.Kernel cycle) found got = at.Kernel cycle
next_at who frame (at.Owned cycle page body) found got = at.Owned cycle page body

abbrev pub next : Claim → ℕ → Option BodyValue → Claim
next c found got = record c { at = next_at c.who c.frame c.at found got }

abbrev pub stop_turn : ℕ → Turn
stop_turn found = cond (found == 0) Moved (cond (is_stopped found) (Changed found) NoMemory)

abbrev pub turn_at : ClaimAt → ℕ → Turn
turn_at at.Stop found = stop_turn found
turn_at (at.Grab cycle g) found = grabs.turn g found
turn_at (at.Meet cycle m) found = meets.turn m found
turn_at _ found = Moved

abbrev pub turn : Claim → ℕ → Turn
turn c found = turn_at c.at found

abbrev pub ShowsAt : ClaimAt → ℕ → Option BodyValue → Type 0
ShowsAt (at.Meet cycle m) found got = meets.Shows m found got
ShowsAt _ found got = Unit {0}

abbrev pub Shows : Claim → ℕ → Option BodyValue → Type 0
Shows c found got = ShowsAt c.at found got

abbrev pub answer_at : ClaimAt → Option ClaimAnswer
answer_at at.Stopped = Some answers.Stopped
answer_at at.Already = Some answers.Already
answer_at (at.Free cycle) = Some (answers.Free cycle)
answer_at (at.Kernel cycle) = Some (answers.Kernel cycle)
answer_at (at.Owned cycle page body) = Some (answers.Owned cycle page)
answer_at _ = None

abbrev pub answer : Claim → Option ClaimAnswer
answer c = answer_at c.at

abbrev pub is_owned_at : ClaimAt → Bool
is_owned_at (at.Owned cycle page body) = true
is_owned_at _ = false

-- the page is held with its frame
abbrev pub is_owned : Claim → Bool
is_owned c = is_owned_at c.at

abbrev pub IsBodyAt : ClaimAt → BodyValue → Type 0
IsBodyAt (at.Owned cycle page body) result = result ≡ body
IsBodyAt _ result = ⊥

abbrev pub IsBody : Claim → BodyValue → Type 0
IsBody c result = IsBodyAt c.at result

-- ---- what the command has done

abbrev pub is_own : Who → Mark → Bool
is_own who m = (m.stamp.who.cpu.0 == who.cpu.0) && (m.stamp.who.seq == who.seq)

-- the marks of the command
abbrev pub marks_by : Who → View → List Mark
marks_by who view = filter (is_own who) view.marks

-- the command marked no frame
abbrev pub HasMarkedNone : View → Who → Type 0
HasMarkedNone view who = marks_by who view ≡ []

-- the seat poisoned more frames than losses that it made
abbrev pub CanLoseOne : View → Type 0
CanLoseOne view = sum_by (λ (m : Made). from_bool (is_loss m.entry.what)) view.made < sum_by (λ (m : Mark). from_bool (is_poisoning m.kind)) view.marks

-- the command poisoned this frame, in this cycle of it, and none after it
pub record HasMarked (view : View) (who : Who) (frame : Frame) (hardware : Bool) (cycle : ℕ) : Type 0 where
  pub before : List Mark
  pub mark : Mark
  pub marks : marks_by who view ≡ before ++ mark ∷ []
  pub frame_is : mark.frame ≡ frame
  pub cycle_is : mark.cycle ≡ cycle
  pub kind_is : mark.kind ≡ mark_kinds.Poisoned hardware

-- and no loss that it may make is one too many
pub record HasPoisoned (view : View) (who : Who) (frame : Frame) (hardware : Bool) (cycle : ℕ) : Type 0 where
  pub marked : HasMarked view who frame hardware cycle
  pub spare : CanLoseOne view

-- the machine has stopped, or the command has stopped it
abbrev pub IsStopped : View → Who → Type 0
IsStopped view who = SawStop view who ⊎ SomeMember (λ (w : Who). w ≡ who) view.stops

-- a step of the command showed that the frame was poisoned
pub record SawPoison (view : View) (who : Who) (frame : Frame) : Type 0 where
  pub word : ℕ
  pub poisoned : is_poisoned word ≡ true
  pub saw : Saw view who (places.Frame frame) word

-- ---- what is held

pub record IsGrabbing (layout : Layout) (view : View) (who : Who) (frame : Frame) (g : Grab) : Type 0 where
  pub grab : grabs.Fits layout view g
  pub own : g.who ≡ who
  pub frame_is : g.frame ≡ frame
  pub under_way : is_none (grabs.plan g) ≡ false

pub record IsMeeting (layout : Layout) (view : View) (who : Who) (frame : Frame) (cycle : ℕ) (m : Meet) : Type 0 where
  pub meet : meets.Fits layout view m
  pub own : m.who ≡ who
  pub frame_is : m.frame ≡ frame
  pub cycle_is : m.cycle ≡ Some cycle
  pub under_way : is_none (meets.plan m) ≡ false

pub record IsUnlocking (layout : Layout) (view : View) (who : Who) (u : Unlock) : Type 0 where
  pub unlock : unlocks.Fits layout view u
  pub own : u.who ≡ who
  pub given : unlocks.put u ≡ None
  pub under_way : is_none (unlocks.plan u) ≡ false

-- the frame is poisoned by the command and isn't the kernel's
pub record IsUsers (layout : Layout) (view : View) (who : Who) (frame : Frame) (hardware : Bool) (cycle : ℕ) : Type 0 where
  pub poisoned : HasPoisoned view who frame hardware cycle
  pub users : slice_get layout.kernel frame.0 ≡ Some false

abbrev pub FitsAt : Layout → View → Who → Frame → Bool → ClaimAt → Type 0
FitsAt layout view who frame hardware at.Stop = hand_of view ≡ empty
FitsAt layout view who frame hardware at.Poison = hand_of view ≡ empty
FitsAt layout view who frame hardware (at.Count cycle) = (hand_of view ≡ empty) × HasPoisoned view who frame hardware cycle × OwesCount view hardware
FitsAt layout view who frame hardware (at.Look cycle) = (hand_of view ≡ empty) × HasPoisoned view who frame hardware cycle
FitsAt layout view who frame hardware (at.Grab cycle g) = IsGrabbing layout view who frame g × IsUsers layout view who frame hardware cycle
FitsAt layout view who frame hardware (at.Meet cycle m) = IsMeeting layout view who frame cycle m × IsUsers layout view who frame hardware cycle
FitsAt layout view who frame hardware (at.Unlock cycle u) = IsUnlocking layout view who u × IsUsers layout view who frame hardware cycle
FitsAt layout view who frame hardware (at.Retire cycle) = (hand_of view ≡ empty_frame frame false true) × IsUsers layout view who frame hardware cycle
FitsAt layout view who frame hardware at.GaveUp = hand_of view ≡ empty
FitsAt layout view who frame hardware at.Stopped = (hand_of view ≡ empty) × IsStopped view who
FitsAt layout view who frame hardware at.Already = (hand_of view ≡ empty) × SawPoison view who frame
FitsAt layout view who frame hardware (at.Free cycle) = (hand_of view ≡ empty) × IsUsers layout view who frame hardware cycle
FitsAt layout view who frame hardware (at.Kernel cycle) = (hand_of view ≡ empty) × HasPoisoned view who frame hardware cycle × (slice_get layout.kernel frame.0 ≡ Some true)
FitsAt layout view who frame hardware (at.Owned cycle page body) = meets.HoldsMet layout view who page frame (Some cycle) body × IsUsers layout view who frame hardware cycle

-- the processor holds nothing at first, and then what the task took; no loss is owed. The command may have made entries, and have
-- poisoned other frames, before
pub record Fits (layout : Layout) (view : View) (c : Claim) : Type 0 where
  pub on_turn : IsOnTurn view c.who
  pub frame : c.frame.0 < layout.frames
  pub paid : view.owed.losses ≡ []
  pub at : FitsAt layout view c.who c.frame c.hardware c.at

-- ---- the rank

-- the failure that isn't ended is at most of class 3
abbrev pub pressing : ℕ → ℕ
pressing class = min class 3

abbrev pub class_at : ClaimAt → ℕ
class_at (at.Count cycle) = 3
class_at (at.Look cycle) = 3
class_at (at.Grab cycle g) = pressing (grabs.class g)
class_at (at.Meet cycle m) = pressing (meets.class m)
class_at (at.Unlock cycle u) = pressing (unlocks.class u)
class_at (at.Retire cycle) = 1
class_at (at.Owned cycle page body) = 1
class_at _ = 4

abbrev pub class : Claim → ℕ
class c = class_at c.at

-- the parts of a meeting that give back, once the failure has ended
abbrev pub has_ended_at : MeetAt → Bool
has_ended_at (meet_at.Unlock body ended) = ended
has_ended_at (meet_at.UnlockFrame page shelf body ended) = ended
has_ended_at (meet_at.UnlockPage page shelf ended) = ended
has_ended_at (meet_at.Release r ended) = ended
has_ended_at (meet_at.Back ended) = ended
has_ended_at _ = false

-- the failure is the task's from its poison on, as long as no word shows that others ended it
abbrev pub claims_at : Frame → ClaimAt → Option (Frame × ℕ)
claims_at frame (at.Count cycle) = Some (frame, cycle)
claims_at frame (at.Look cycle) = Some (frame, cycle)
claims_at frame (at.Grab cycle g) = Some (frame, cycle)
claims_at frame (at.Meet cycle m) = cond (has_ended_at m.at) None (Some (frame, cycle))
claims_at frame (at.Retire cycle) = Some (frame, cycle)
claims_at frame (at.Owned cycle page body) = Some (frame, cycle)
claims_at frame _ = None

abbrev pub claims : Claim → Option (Frame × ℕ)
claims c = claims_at c.frame c.at

abbrev pub aborts_at : ClaimAt → Bool
aborts_at (at.Grab cycle g) = grabs.aborts g
aborts_at _ = false

abbrev pub aborts : Claim → Bool
aborts c = aborts_at c.at

-- the turns that are left, where no word changes: `rest` are those once the page is held
abbrev pub cost_with : ℕ → ClaimAt → Words → ℕ
cost_with rest at.Stop words = 1
cost_with rest at.Poison words = 1
cost_with rest (at.Count cycle) words = rest + 12
cost_with rest (at.Look cycle) words = rest + 11
cost_with rest (at.Grab cycle g) words = grabs.cost_with 5 (rest + 11) g.frame g.at words
cost_with rest (at.Meet cycle m) words = meets.cost_with (rest + 2) (rest + 11) m.frame m.at words
cost_with rest (at.Unlock cycle u) words = unlocks.cost u words
cost_with rest (at.Retire cycle) words = 1
cost_with rest (at.Owned cycle page body) words = rest
cost_with rest _ words = 0

abbrev pub cost : Claim → Words → ℕ
cost c words = cost_with 0 c.at words

-- over what follows once the page is held, it is no more than this
abbrev pub claim_most : ℕ
claim_most = 2 * stale_weight + 20

-- the task, as the laws of tasks read it
abbrev pub task : Member Claim
task = record {
  who = λ c. c.who;
  plan = plan;
  put = put;
  bare = bare;
  shows = Shows;
  next = λ layout c found got after result. (after ≡ next c found got) × (result ≡ turn c found);
  fits = Fits;
  class = class;
  cost = cost;
  aborts = aborts;
  claims = claims;
}
