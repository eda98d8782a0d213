-- A memory failure that a command brings about: the task's states, its steps and what they come to.
use Rattle.std.specs.Prelude.{◌≡◌, ℕ, ◌<◌, Bool, true, false, cond, List, [], ◌∷◌, Option, Some, None, map, slice_get}
use Rattle.std.specs.declared.alloc.Global.{Global}
use Rattle.hwp_claim_frame.specs.hwp_geom.declared.Frame.{Frame}
use Rattle.hwp_claim_frame.specs.hwp_geom.declared.Layout.{Layout}
use Rattle.hwp_claim_frame.specs.hwp_geom.declared.Who.{Who}
use Rattle.hwp_claim_frame.specs.hwp_geom.Layout.{IsSound}
use Rattle.hwp_claim_frame.specs.hwp_kill.declared.Seen.{Seen}
use Rattle.hwp_claim_frame.specs.hwp_kill.declared.Signal.{Signal}
use Rattle.hwp_claim_frame.specs.hwp_page.declared.At.{At}
use Rattle.hwp_claim_frame.specs.hwp_page.declared.What.TheVariants as entries
use Rattle.hwp_claim_frame.specs.hwp_page.History.{BodyValue}
use Rattle.hwp_claim_frame.specs.hwp_words.Stops.{is_stopped}
use Rattle.hwp_claim_frame.specs.hwp_core_rule.declared.Made.{Made}
use Rattle.hwp_claim_frame.specs.hwp_core_rule.declared.Mark.{Mark}
use Rattle.hwp_claim_frame.specs.hwp_core_rule.declared.MarkKind.TheVariants as mark_kinds
use Rattle.hwp_claim_frame.specs.hwp_core_rule.declared.SharedWord.TheVariants as places
use Rattle.hwp_claim_frame.specs.hwp_core_rule.declared.Step.{Step}
use Rattle.hwp_claim_frame.specs.hwp_core_rule.declared.Step.TheVariants as steps
use Rattle.hwp_claim_frame.specs.hwp_core_rule.declared.View.{View}
use Rattle.hwp_claim_frame.specs.hwp_core_rule.Words.{Words}
use Rattle.hwp_claim_frame.specs.hwp_core_rule.declared.Turn.{Turn}
use Rattle.hwp_claim_frame.specs.hwp_core_rule.declared.Turn.TheVariants.{Moved}
use Rattle.hwp_claim_frame.specs.hwp_core_rule.Calls.{IsOnTurn}
use Rattle.hwp_claim_frame.specs.hwp_core_rule.Hands.{hand_of, empty}
use Rattle.hwp_claim_frame.specs.hwp_core_rule.Known.{HasMade, HasMadeNone, deeds}
use Rattle.hwp_claim_frame.specs.hwp_core_rule.Turns.{Member}
use Rattle.hwp_claim_act.specs.declared.abandon.Failed.{Failed}
use Rattle.hwp_claim_act.specs.Abandoned.{IsOfPage, failed_in}
use Rattle.hwp_claim_act.specs.Abandons.{signals_now}
use Rattle.hwp_claim_frame.specs.declared.claim.ClaimAt.{ClaimAt}
use Rattle.hwp_claim_frame.specs.declared.claim.ClaimAt.TheVariants as claim_at
use Rattle.hwp_claim_frame.specs.Claims.{HasMarkedNone, IsStopped, SawPoison, marks_by}
use Rattle.hwp_claim_frame.specs.Done.{marking_of}
use Rattle.hwp_claim.specs.declared.fail.Fail.{Fail}
use Rattle.hwp_claim.specs.declared.fail.FailAt.{FailAt}
use Rattle.hwp_claim.specs.declared.fail.FailAt.TheVariants as fail_at
use Rattle.hwp_claim.specs.declared.fail.FailAnswer.{FailAnswer}
use Rattle.hwp_claim.specs.declared.fail.FailAnswer.TheVariants as answers
use Rattle.hwp_claim.specs.declared.fail.Found.{Found}
use Rattle.hwp_claim.specs.declared.inject.Inject.{Inject}
use Rattle.hwp_claim.specs.declared.inject.InjectAt.{InjectAt}
use Rattle.hwp_claim.specs.declared.inject.InjectAt.TheVariants as at
use Rattle.hwp_claim.specs.Done.{failed_at, marked_at}
use Rattle.hwp_claim.specs.Fails as fails

abbrev pub begin : Global → Who → Frame → Inject
begin alloc who frame = record { alloc = alloc; who = who; frame = frame; at = at.LoadStop }

abbrev pub plan_at : InjectAt → Option Step
plan_at at.LoadStop = Some (steps.Load places.Stop)
plan_at (at.Fail f) = fails.plan f
plan_at at.Stopped = None

abbrev pub plan : Inject → Option Step
plan i = plan_at i.at

abbrev pub put_at : InjectAt → Option BodyValue
put_at (at.Fail f) = fails.put f
put_at _ = None

abbrev pub put : Inject → Option BodyValue
put i = put_at i.at

abbrev pub bare_at : InjectAt → InjectAt
bare_at at.LoadStop = at.LoadStop
bare_at (at.Fail f) = at.Fail (fails.bare f)
bare_at at.Stopped = at.Stopped

abbrev pub bare : Inject → Inject
bare i = record i { at = bare_at i.at }

abbrev pub answer_at : InjectAt → Option FailAnswer
answer_at at.LoadStop = None
answer_at (at.Fail f) = fails.answer f
answer_at at.Stopped = Some answers.Stopped

abbrev pub answer : Inject → Option FailAnswer
answer i = answer_at i.at

-- the failure begins, unless the machine has stopped; no thread needs the page, and no bank reports the failure
abbrev pub loaded : Bool → Global → Who → Frame → ℕ → InjectAt
loaded recovery alloc who frame found = cond (is_stopped found) at.Stopped (at.Fail (fails.begin alloc who frame None false recovery))

-- the failure goes on
pub record FailsOn (f : Fail) (found : ℕ) (got : Option BodyValue) (x : InjectAt) (turn : Turn) : Type 0 where
  pub after : Fail
  pub follows : fails.Follows f found got after turn
  pub next_is : x ≡ at.Fail after

abbrev pub ShowsAt : InjectAt → ℕ → Option BodyValue → Type 0
ShowsAt (at.Fail f) found got = fails.Shows f found got
ShowsAt _ found got = Unit {0}

abbrev pub Shows : Inject → ℕ → Option BodyValue → Type 0
Shows i found got = ShowsAt i.at found got

abbrev pub FollowsAt : Layout → Global → Who → Frame → InjectAt → ℕ → Option BodyValue → InjectAt → Turn → Type 0
FollowsAt layout alloc who frame at.LoadStop found got x turn = (x ≡ loaded layout.recovery alloc who frame found) × (turn ≡ Moved)
FollowsAt layout alloc who frame (at.Fail f) found got x turn = FailsOn f found got x turn
FollowsAt layout alloc who frame at.Stopped found got x turn = (x ≡ at.Stopped) × (turn ≡ Moved)

abbrev pub Follows : Layout → Inject → ℕ → Option BodyValue → Inject → Turn → Type 0
Follows layout i found got after turn = (after ≡ record i { at = after.at }) × FollowsAt layout i.alloc i.who i.frame i.at found got after.at turn

-- ---- what is held, and what the command has done

-- nothing is held or owed, and the command has done nothing
pub record IsAtRest (view : View) (who : Who) : Type 0 where
  pub hand_is : hand_of view ≡ empty
  pub paid : view.owed.losses ≡ []
  pub made : HasMadeNone view who
  pub unmarked : HasMarkedNone view who

-- the failure goes on as one of a machine that recovers: else it stops the machine
abbrev pub recovers_in : ClaimAt → Bool
recovers_in claim_at.Stop = false
recovers_in claim_at.GaveUp = false
recovers_in claim_at.Stopped = false
recovers_in _ = true

abbrev pub recovers_at : FailAt → Bool
recovers_at (fail_at.Claim c) = recovers_in c.at
recovers_at (fail_at.Act cycle a) = true
recovers_at (fail_at.Over answers.Stopped) = false
recovers_at (fail_at.Over answer) = true

-- the command has poisoned no other frame, and made no other entry
pub record IsFailing (layout : Layout) (view : View) (who : Who) (frame : Frame) (f : Fail) : Type 0 where
  pub fail : fails.Fits layout view f
  pub own : f.who ≡ who
  pub frame_is : f.frame ≡ frame
  pub unrequired : f.required ≡ None
  pub software : f.hardware ≡ false
  pub recovery : layout.recovery ≡ recovers_at f.at
  pub marks : map marking_of (marks_by who view) ≡ marked_at frame false f.at
  pub entries : map failed_in (deeds who view) ≡ map (λ (x : Failed). Some x) (failed_at None f.at)

abbrev pub FitsAt : Layout → View → Who → Frame → InjectAt → Type 0
FitsAt layout view who frame at.LoadStop = IsAtRest view who
FitsAt layout view who frame (at.Fail f) = IsFailing layout view who frame f
FitsAt layout view who frame at.Stopped = IsAtRest view who × IsStopped view who

pub record Fits (layout : Layout) (view : View) (i : Inject) : Type 0 where
  pub on_turn : IsOnTurn view i.who
  pub sound : IsSound layout
  pub frame : i.frame.0 < layout.frames
  pub at : FitsAt layout view i.who i.frame i.at

-- ---- what the command has done once it is answered

-- it poisoned this frame alone, in this cycle of it
pub record HasMarkedOne (view : View) (who : Who) (frame : Frame) (cycle : ℕ) : Type 0 where
  pub mark : Mark
  pub marks : marks_by who view ≡ mark ∷ []
  pub frame_is : mark.frame ≡ frame
  pub cycle_is : mark.cycle ≡ cycle
  pub kind_is : mark.kind ≡ mark_kinds.Poisoned false

-- it made this entry alone, of a page that was in the frame
pub record HasMadeOne (view : View) (who : Who) (found : Found) (place : At) : Type 0 where
  pub seen : List Seen
  pub signals : List Signal
  pub made : HasMade (λ (m : Made). ⊥) view who place.page place.entry (entries.Fail found.situation None seen signals)
  pub signalled_is : found.signalled ≡ signals_now signals
  pub paged : IsOfPage found.situation

abbrev pub HasDone : Layout → View → Who → Frame → Found → Option At → Type 0
HasDone layout view who frame found None = HasMadeNone view who × fails.IsPageless layout frame found.situation × (found.signalled ≡ false)
HasDone layout view who frame found (Some place) = HasMadeOne view who found place × (slice_get layout.kernel frame.0 ≡ Some false)

abbrev pub HasEnded : Layout → View → Who → Frame → FailAnswer → Type 0
HasEnded layout view who frame answers.Stopped = HasMadeNone view who × HasMarkedNone view who × IsStopped view who
HasEnded layout view who frame answers.Already = HasMadeNone view who × HasMarkedNone view who × SawPoison view who frame
HasEnded layout view who frame (answers.Done found) = HasMarkedOne view who frame found.cycle × HasDone layout view who frame found found.at

-- ---- the rank

abbrev pub class_at : InjectAt → ℕ
class_at (at.Fail f) = fails.class f
class_at _ = 4

abbrev pub class : Inject → ℕ
class i = class_at i.at

abbrev pub claims_at : InjectAt → Option (Frame × ℕ)
claims_at (at.Fail f) = fails.claims_of f
claims_at _ = None

abbrev pub claims : Inject → Option (Frame × ℕ)
claims i = claims_at i.at

abbrev pub aborts_at : InjectAt → Bool
aborts_at (at.Fail f) = fails.aborts f
aborts_at _ = false

abbrev pub aborts : Inject → Bool
aborts i = aborts_at i.at

-- a failure that begins has one turn until it poisons its frame, or stops the machine
abbrev pub cost_at : InjectAt → Words → ℕ
cost_at at.LoadStop words = 2
cost_at (at.Fail f) words = fails.cost f words
cost_at at.Stopped words = 0

abbrev pub cost : Inject → Words → ℕ
cost i words = cost_at i.at words

-- the task, as the laws of tasks read it
abbrev pub task : Member Inject
task = record {
  who = λ i. i.who;
  plan = plan;
  put = put;
  bare = bare;
  shows = Shows;
  next = Follows;
  fits = Fits;
  class = class;
  cost = cost;
  aborts = aborts;
  claims = claims;
}
