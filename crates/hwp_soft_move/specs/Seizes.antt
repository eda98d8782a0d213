-- A good frame taken from those that use it, or could: the task's states, its steps and what they come to.
use Rattle.std.specs.Prelude.{◌≡◌, ℕ, ◌+◌, ◌*◌, ◌<◌, ◌==◌, Bool, true, false, cond, Option, Some, None, is_none, slice_get}
use Rattle.hwp_claim_frame.specs.hwp_geom.declared.Frame.{Frame}
use Rattle.hwp_claim_frame.specs.hwp_geom.declared.Layout.{Layout}
use Rattle.hwp_claim_frame.specs.hwp_geom.declared.Page.{Page}
use Rattle.hwp_claim_frame.specs.hwp_geom.declared.Who.{Who}
use Rattle.hwp_claim_frame.specs.hwp_page.History.{BodyValue}
use Rattle.hwp_claim_frame.specs.hwp_words.Frames.{count_of, is_kernel, is_poisoned}
use Rattle.hwp_claim_frame.specs.hwp_core_rule.declared.SharedWord.TheVariants as places
use Rattle.hwp_claim_frame.specs.hwp_core_rule.declared.Step.{Step}
use Rattle.hwp_claim_frame.specs.hwp_core_rule.declared.Step.TheVariants as steps
use Rattle.hwp_claim_frame.specs.hwp_core_rule.declared.View.{View}
use Rattle.hwp_claim_frame.specs.hwp_core_rule.Words.{Words}
use Rattle.hwp_claim_frame.specs.hwp_core_rule.declared.Turn.{Turn}
use Rattle.hwp_claim_frame.specs.hwp_core_rule.declared.Turn.TheVariants.{Moved}
use Rattle.hwp_claim_frame.specs.hwp_core_rule.Calls.{IsOnTurn}
use Rattle.hwp_claim_frame.specs.hwp_core_rule.Hands.{hand_of, empty}
use Rattle.hwp_claim_frame.specs.hwp_core_rule.Known.{Saw}
use Rattle.hwp_claim_frame.specs.hwp_core_rule.Turns.{Member}
use Rattle.hwp_claim_frame.specs.declared.grab.Grab.{Grab}
use Rattle.hwp_claim_frame.specs.declared.grab.GrabAnswer.{GrabAnswer}
use Rattle.hwp_claim_frame.specs.declared.grab.GrabAnswer.TheVariants as grab_answers
use Rattle.hwp_claim_frame.specs.declared.meet.Meet.{Meet}
use Rattle.hwp_claim_frame.specs.declared.meet.MeetAt.{MeetAt}
use Rattle.hwp_claim_frame.specs.declared.meet.MeetAt.TheVariants as meet_at
use Rattle.hwp_claim_frame.specs.declared.meet.MeetAnswer.{MeetAnswer}
use Rattle.hwp_claim_frame.specs.declared.meet.MeetAnswer.TheVariants as meet_answers
use Rattle.hwp_claim_frame.specs.Claims.{IsGrabbing, SawPoison, has_ended_at}
use Rattle.hwp_claim_frame.specs.Grabs as grabs
use Rattle.hwp_claim_frame.specs.Meets as meets
use Rattle.hwp_claim_frame.specs.Meets.{HoldsFree, HoldsMet}
use Rattle.hwp_claim_frame.specs.hwp_core_rule.Ranks.{stale_weight}
use Rattle.hwp_soft_move.specs.declared.seize.Seize.{Seize}
use Rattle.hwp_soft_move.specs.declared.seize.SeizeAt.{SeizeAt}
use Rattle.hwp_soft_move.specs.declared.seize.SeizeAt.TheVariants as at
use Rattle.hwp_soft_move.specs.declared.seize.SeizeAnswer.{SeizeAnswer}
use Rattle.hwp_soft_move.specs.declared.seize.SeizeAnswer.TheVariants as answers

abbrev pub begin : Who → Frame → Seize
begin who frame = record { who = who; frame = frame; at = at.Look }

abbrev pub plan_at : Frame → SeizeAt → Option Step
plan_at frame at.Look = Some (steps.Load (places.Frame frame))
plan_at frame (at.Grab g) = grabs.plan g
plan_at frame (at.Meet m) = meets.plan m
plan_at frame at.Kernel = None
plan_at frame at.Already = None
plan_at frame at.Grabbed = None
plan_at frame at.Free = None
plan_at frame (at.Owned page body) = None

abbrev pub plan : Seize → Option Step
plan s = plan_at s.frame s.at

abbrev pub put_at : SeizeAt → Option BodyValue
put_at (at.Meet m) = meets.put m
put_at _ = None

abbrev pub put : Seize → Option BodyValue
put s = put_at s.at

abbrev pub bare_at : SeizeAt → SeizeAt
bare_at (at.Meet m) = at.Meet (meets.bare m)
bare_at at.Look = at.Look
bare_at (at.Grab g) = at.Grab g
bare_at at.Kernel = at.Kernel
bare_at at.Already = at.Already
bare_at at.Grabbed = at.Grabbed
bare_at at.Free = at.Free
bare_at (at.Owned page body) = at.Owned page body

abbrev pub bare : Seize → Seize
bare s = record s { at = bare_at s.at }

-- what is to be done about the frame's word
abbrev pub looked : Who → Frame → ℕ → SeizeAt
looked who frame word = cond (is_kernel word) at.Kernel (cond (is_poisoned word) at.Already (cond (count_of word == 0) (at.Grab (grabs.begin who frame)) (at.Meet (meets.begin who frame None word))))

abbrev pub after_grab_by : Grab → Option GrabAnswer → SeizeAt
after_grab_by g None = at.Grab g
after_grab_by g (Some grab_answers.LookAgain) = at.Look
after_grab_by g (Some (grab_answers.Grabbed word)) = at.Grabbed

abbrev pub after_grab : Grab → SeizeAt
after_grab g = after_grab_by g (grabs.answer g)

abbrev pub owned_by : Meet → Page → MeetAt → SeizeAt
owned_by m page (meet_at.Owned own body) = at.Owned page body
owned_by m page _ = at.Meet m

abbrev pub after_meet_by : Meet → Option MeetAnswer → SeizeAt
after_meet_by m None = at.Meet m
after_meet_by m (Some meet_answers.LookAgain) = at.Look
after_meet_by m (Some meet_answers.Ended) = at.Look
after_meet_by m (Some meet_answers.Free) = at.Free
after_meet_by m (Some (meet_answers.Owned page)) = owned_by m page m.at

abbrev pub after_meet : Meet → SeizeAt
after_meet m = after_meet_by m (meets.answer m)

abbrev pub next_at : Who → Frame → SeizeAt → ℕ → Option BodyValue → SeizeAt
next_at who frame at.Look found got = looked who frame found
next_at who frame (at.Grab g) found got = after_grab (grabs.next g found)
next_at who frame (at.Meet m) found got = after_meet (meets.next m found got)
next_at who frame at.Kernel found got = at.Kernel
next_at who frame at.Already found got = at.Already
next_at who frame at.Grabbed found got = at.Grabbed
next_at who frame at.Free found got = at.Free
next_at who frame (at.Owned page body) found got = at.Owned page body

abbrev pub next : Seize → ℕ → Option BodyValue → Seize
next s found got = record s { at = next_at s.who s.frame s.at found got }

abbrev pub turn_at : SeizeAt → ℕ → Turn
turn_at (at.Grab g) found = grabs.turn g found
turn_at (at.Meet m) found = meets.turn m found
turn_at _ found = Moved

abbrev pub turn : Seize → ℕ → Turn
turn s found = turn_at s.at found

abbrev pub ShowsAt : SeizeAt → ℕ → Option BodyValue → Type 0
ShowsAt (at.Meet m) found got = meets.Shows m found got
ShowsAt _ found got = Unit {0}

abbrev pub Shows : Seize → ℕ → Option BodyValue → Type 0
Shows s found got = ShowsAt s.at found got

abbrev pub answer_at : SeizeAt → Option SeizeAnswer
answer_at at.Kernel = Some answers.Kernel
answer_at at.Already = Some answers.Already
answer_at at.Grabbed = Some answers.Grabbed
answer_at at.Free = Some answers.Free
answer_at (at.Owned page body) = Some (answers.Owned page)
answer_at _ = None

abbrev pub answer : Seize → Option SeizeAnswer
answer s = answer_at s.at

abbrev pub is_owned_at : SeizeAt → Bool
is_owned_at (at.Owned page body) = true
is_owned_at _ = false

-- the page is held with its frame
abbrev pub is_owned : Seize → Bool
is_owned s = is_owned_at s.at

abbrev pub IsBodyAt : SeizeAt → BodyValue → Type 0
IsBodyAt (at.Owned page body) result = result ≡ body
IsBodyAt _ result = ⊥

abbrev pub IsBody : Seize → BodyValue → Type 0
IsBody s result = IsBodyAt s.at result

-- ---- what is held and known

-- the frame is being met, for no failure
pub record IsMeeting (layout : Layout) (view : View) (who : Who) (frame : Frame) (m : Meet) : Type 0 where
  pub meet : meets.Fits layout view m
  pub own : m.who ≡ who
  pub frame_is : m.frame ≡ frame
  pub cycle_is : m.cycle ≡ None
  pub lasts : has_ended_at m.at ≡ false
  pub under_way : is_none (meets.plan m) ≡ false

-- the frame isn't the kernel's
abbrev pub IsUsers : Layout → Frame → Type 0
IsUsers layout frame = slice_get layout.kernel frame.0 ≡ Some false

-- a step of the command showed that the frame is the kernel's
pub record SawKernel (layout : Layout) (view : View) (who : Who) (frame : Frame) : Type 0 where
  pub word : ℕ
  pub kernel : is_kernel word ≡ true
  pub saw : Saw view who (places.Frame frame) word
  pub declared : slice_get layout.kernel frame.0 ≡ Some true

abbrev pub FitsAt : Layout → View → Who → Frame → SeizeAt → Type 0
FitsAt layout view who frame at.Look = hand_of view ≡ empty
FitsAt layout view who frame (at.Grab g) = IsGrabbing layout view who frame g × IsUsers layout frame
FitsAt layout view who frame (at.Meet m) = IsMeeting layout view who frame m × IsUsers layout frame
FitsAt layout view who frame at.Kernel = (hand_of view ≡ empty) × SawKernel layout view who frame
FitsAt layout view who frame at.Already = (hand_of view ≡ empty) × SawPoison view who frame × IsUsers layout frame
FitsAt layout view who frame at.Grabbed = HoldsFree view frame None × IsUsers layout frame
FitsAt layout view who frame at.Free = HoldsFree view frame None × IsUsers layout frame
FitsAt layout view who frame (at.Owned page body) = HoldsMet layout view who page frame None body × IsUsers layout frame

-- the processor holds nothing at first, and then what the task took
pub record Fits (layout : Layout) (view : View) (s : Seize) : Type 0 where
  pub on_turn : IsOnTurn view s.who
  pub frame : s.frame.0 < layout.frames
  pub at : FitsAt layout view s.who s.frame s.at

-- ---- the rank

abbrev pub class_at : SeizeAt → ℕ
class_at at.Look = 4
class_at (at.Grab g) = grabs.class g
class_at (at.Meet m) = meets.class m
class_at at.Kernel = 4
class_at at.Already = 4
class_at at.Grabbed = 1
class_at at.Free = 1
class_at (at.Owned page body) = 1

abbrev pub class : Seize → ℕ
class s = class_at s.at

abbrev pub aborts_at : SeizeAt → Bool
aborts_at (at.Grab g) = grabs.aborts g
aborts_at _ = false

abbrev pub aborts : Seize → Bool
aborts s = aborts_at s.at

-- the turns that are left, where no word changes: `rest` are those once the frame is seized
abbrev pub cost_with : ℕ → SeizeAt → Words → ℕ
cost_with rest at.Look words = rest + 9
cost_with rest (at.Grab g) words = grabs.cost_with rest (rest + 9) g.frame g.at words
cost_with rest (at.Meet m) words = meets.cost_with rest (rest + 9) m.frame m.at words
cost_with rest at.Kernel words = 0
cost_with rest at.Already words = 0
cost_with rest _ words = rest

abbrev pub cost : Seize → Words → ℕ
cost s words = cost_with 0 s.at words

-- over what follows, it is no more than this
abbrev pub seize_most : ℕ
seize_most = 2 * stale_weight + 13

-- the task, as the laws of tasks read it
abbrev pub task : Member Seize
task = record {
  who = λ s. s.who;
  plan = plan;
  put = put;
  bare = bare;
  shows = Shows;
  next = λ layout s found got after result. (after ≡ next s found got) × (result ≡ turn s found);
  fits = Fits;
  class = class;
  cost = cost;
  aborts = aborts;
  claims = λ s. None;
}
