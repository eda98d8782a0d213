-- A memory failure of a frame: the task's states, its steps and what they come to.
use Rattle.std.specs.Prelude.{◌≡◌, ℕ, ◌+◌, ◌<◌, Bool, true, false, cond, [], Option, Some, None, slice_get}
use Rattle.std.specs.declared.alloc.Global.{Global}
use Rattle.hwp_claim_frame.specs.hwp_geom.declared.Frame.{Frame}
use Rattle.hwp_claim_frame.specs.hwp_geom.declared.Layout.{Layout}
use Rattle.hwp_claim_frame.specs.hwp_geom.declared.Page.{Page}
use Rattle.hwp_claim_frame.specs.hwp_geom.declared.Thread.{Thread}
use Rattle.hwp_claim_frame.specs.hwp_geom.declared.Who.{Who}
use Rattle.hwp_claim_frame.specs.hwp_geom.Layout.{IsSound}
use Rattle.hwp_claim_frame.specs.hwp_page.declared.At.{At}
use Rattle.hwp_claim_frame.specs.hwp_page.declared.Situation.{Situation}
use Rattle.hwp_claim_frame.specs.hwp_page.declared.Situation.TheVariants as situations
use Rattle.hwp_claim_frame.specs.hwp_page.History.{BodyValue}
use Rattle.hwp_claim_frame.specs.hwp_core_rule.declared.Step.{Step}
use Rattle.hwp_claim_frame.specs.hwp_core_rule.declared.View.{View}
use Rattle.hwp_claim_frame.specs.hwp_core_rule.Words.{Words}
use Rattle.hwp_claim_frame.specs.hwp_core_rule.declared.Turn.{Turn}
use Rattle.hwp_claim_frame.specs.hwp_core_rule.declared.Turn.TheVariants.{Moved}
use Rattle.hwp_claim_frame.specs.hwp_core_rule.Calls.{IsOnTurn}
use Rattle.hwp_claim_frame.specs.hwp_core_rule.Hands.{hand_of, empty}
use Rattle.hwp_claim_frame.specs.hwp_core_rule.Turns.{Member}
use Rattle.hwp_claim_act.specs.declared.abandon.Failed.{Failed}
use Rattle.hwp_claim_act.specs.declared.abandon.AbandonAt.{AbandonAt}
use Rattle.hwp_claim_act.specs.declared.abandon.AbandonAt.TheVariants as abandon_at
use Rattle.hwp_claim_act.specs.declared.act.Act.{Act}
use Rattle.hwp_claim_act.specs.declared.act.ActAt.{ActAt}
use Rattle.hwp_claim_act.specs.declared.act.ActAt.TheVariants as act_at
use Rattle.hwp_claim_act.specs.Abandoned.{HasFailed}
use Rattle.hwp_claim_act.specs.Acting as acting
use Rattle.hwp_claim_act.specs.Acts as acts
use Rattle.hwp_claim_frame.specs.declared.claim.Claim.{Claim}
use Rattle.hwp_claim_frame.specs.declared.ClaimAnswer.{ClaimAnswer}
use Rattle.hwp_claim_frame.specs.declared.ClaimAnswer.TheVariants as claim_answers
use Rattle.hwp_claim_frame.specs.Claims as claims
use Rattle.hwp_claim_frame.specs.Claims.{HasMarked, IsStopped, SawPoison}
use Rattle.hwp_claim.specs.declared.fail.Fail.{Fail}
use Rattle.hwp_claim.specs.declared.fail.FailAt.{FailAt}
use Rattle.hwp_claim.specs.declared.fail.FailAt.TheVariants as at
use Rattle.hwp_claim.specs.declared.fail.FailAnswer.{FailAnswer}
use Rattle.hwp_claim.specs.declared.fail.FailAnswer.TheVariants as answers
use Rattle.hwp_claim.specs.declared.fail.Found.{Found}

abbrev pub start : Who → Frame → Bool → Bool → FailAt
start who frame hardware recovery = at.Claim (claims.begin who frame hardware recovery)

abbrev pub begin : Global → Who → Frame → Option Thread → Bool → Bool → Fail
begin alloc who frame required hardware recovery = record { alloc = alloc; who = who; frame = frame; required = required; hardware = hardware; at = start who frame hardware recovery }

abbrev pub plan_at : FailAt → Option Step
plan_at (at.Claim c) = claims.plan c
plan_at (at.Act cycle a) = acts.plan a
plan_at (at.Over answer) = None

abbrev pub plan : Fail → Option Step
plan f = plan_at f.at

abbrev pub put_at : FailAt → Option BodyValue
put_at (at.Claim c) = claims.put c
put_at (at.Act cycle a) = acts.put a
put_at (at.Over answer) = None

abbrev pub put : Fail → Option BodyValue
put f = put_at f.at

abbrev pub bare_at : FailAt → FailAt
bare_at (at.Claim c) = at.Claim (claims.bare c)
bare_at (at.Act cycle a) = at.Act cycle (acts.bare a)
bare_at (at.Over answer) = at.Over answer

abbrev pub bare : Fail → Fail
bare f = record f { at = bare_at f.at }

abbrev pub answer_at : FailAt → Option FailAnswer
answer_at (at.Over answer) = Some answer
answer_at _ = None

abbrev pub answer : Fail → Option FailAnswer
answer f = answer_at f.at

-- no page was in the frame
abbrev pub pageless : Situation → ℕ → FailAnswer
pageless situation cycle = answers.Done (record { situation = situation; cycle = cycle; at = None; signalled = false })

abbrev pub after_act_by : ℕ → Act → Option Failed → FailAt
after_act_by cycle a None = at.Act cycle a
after_act_by cycle a (Some failed) = at.Over (answers.Done (record { situation = failed.situation; cycle = cycle; at = Some failed.at; signalled = failed.signalled }))

abbrev pub after_act : ℕ → Act → FailAt
after_act cycle a = after_act_by cycle a (acts.answer a)

-- the page's body, met under the locks, and what is done about it
pub record Acts (who : Who) (frame : Frame) (required : Option Thread) (cycle : ℕ) (page : Page) (c : Claim) (x : FailAt) : Type 0 where
  pub body : BodyValue
  pub body_is : claims.IsBody c body
  pub act : Act
  pub who_is : act.who ≡ who
  pub page_is : act.page ≡ page
  pub frame_is : act.frame ≡ frame
  pub starts : acts.Starts who page frame required body act.at
  pub next_is : x ≡ after_act cycle act

abbrev pub AfterClaimBy : Who → Frame → Option Thread → Claim → Option ClaimAnswer → FailAt → Type 0
AfterClaimBy who frame required c None x = x ≡ at.Claim c
AfterClaimBy who frame required c (Some claim_answers.Stopped) x = x ≡ at.Over answers.Stopped
AfterClaimBy who frame required c (Some claim_answers.Already) x = x ≡ at.Over answers.Already
AfterClaimBy who frame required c (Some (claim_answers.Free cycle)) x = x ≡ at.Over (pageless situations.Free cycle)
AfterClaimBy who frame required c (Some (claim_answers.Kernel cycle)) x = x ≡ at.Over (pageless situations.Kernel cycle)
AfterClaimBy who frame required c (Some (claim_answers.Owned cycle page)) x = Acts who frame required cycle page c x

abbrev pub AfterClaim : Who → Frame → Option Thread → Claim → FailAt → Type 0
AfterClaim who frame required c x = AfterClaimBy who frame required c (claims.answer c) x

-- the page that is met is in its frame
abbrev pub IsCached : Claim → Type 0
IsCached c = (body : BodyValue) → claims.IsBody c body → body.state.cached ≡ true

abbrev pub ShowsAt : FailAt → ℕ → Option BodyValue → Type 0
ShowsAt (at.Claim c) found got = claims.Shows c found got × IsCached (claims.next c found got)
ShowsAt (at.Act cycle a) found got = acts.Shows a found
ShowsAt (at.Over answer) found got = Unit {0}

abbrev pub Shows : Fail → ℕ → Option BodyValue → Type 0
Shows f found got = ShowsAt f.at found got

-- the action goes on
pub record ActsOn (cycle : ℕ) (a : Act) (found : ℕ) (x : FailAt) (turn : Turn) : Type 0 where
  pub after : Act
  pub follows : acts.Follows a found after turn
  pub next_is : x ≡ after_act cycle after

abbrev pub FollowsAt : Who → Frame → Option Thread → FailAt → ℕ → Option BodyValue → FailAt → Turn → Type 0
FollowsAt who frame required (at.Claim c) found got x turn = AfterClaim who frame required (claims.next c found got) x × (turn ≡ claims.turn c found)
FollowsAt who frame required (at.Act cycle a) found got x turn = ActsOn cycle a found x turn
FollowsAt who frame required (at.Over answer) found got x turn = (x ≡ at.Over answer) × (turn ≡ Moved)

abbrev pub Follows : Fail → ℕ → Option BodyValue → Fail → Turn → Type 0
Follows f found got after turn = (after ≡ record f { at = after.at }) × FollowsAt f.who f.frame f.required f.at found got after.at turn

-- ---- what is held, and what the command has done

pub record IsClaiming (layout : Layout) (view : View) (who : Who) (frame : Frame) (hardware : Bool) (c : Claim) : Type 0 where
  pub claim : claims.Fits layout view c
  pub own : c.who ≡ who
  pub frame_is : c.frame ≡ frame
  pub hardware_is : c.hardware ≡ hardware
  pub unanswered : claims.answer c ≡ None

pub record IsActing (layout : Layout) (view : View) (who : Who) (frame : Frame) (required : Option Thread) (hardware : Bool) (cycle : ℕ) (a : Act) : Type 0 where
  pub act : acting.Fits layout view a
  pub own : a.who ≡ who
  pub frame_is : a.frame ≡ frame
  pub required_is : acting.IsFor required a.at
  pub unanswered : acts.answer a ≡ None
  pub marked : HasMarked view who frame hardware cycle
  pub users : slice_get layout.kernel frame.0 ≡ Some false

-- a failure without a page is of a free frame, or of one of the kernel's
abbrev pub IsPageless : Layout → Frame → Situation → Type 0
IsPageless layout frame situations.Free = slice_get layout.kernel frame.0 ≡ Some false
IsPageless layout frame situations.Kernel = slice_get layout.kernel frame.0 ≡ Some true
IsPageless layout frame _ = ⊥

-- it made no entry, or the last one of the command
abbrev pub HasDone : Layout → View → Who → Frame → Option Thread → Found → Option At → Type 0
HasDone layout view who frame required found None = IsPageless layout frame found.situation × (found.signalled ≡ false)
HasDone layout view who frame required found (Some place) = HasFailed view who (record { situation = found.situation; required = required; at = place; signalled = found.signalled }) × (slice_get layout.kernel frame.0 ≡ Some false)

abbrev pub FitsOver : Layout → View → Who → Frame → Option Thread → Bool → FailAnswer → Type 0
FitsOver layout view who frame required hardware answers.Stopped = IsStopped view who
FitsOver layout view who frame required hardware answers.Already = SawPoison view who frame
FitsOver layout view who frame required hardware (answers.Done found) = HasMarked view who frame hardware found.cycle × HasDone layout view who frame required found found.at

abbrev pub FitsAt : Layout → View → Who → Frame → Option Thread → Bool → FailAt → Type 0
FitsAt layout view who frame required hardware (at.Claim c) = IsClaiming layout view who frame hardware c
FitsAt layout view who frame required hardware (at.Act cycle a) = IsActing layout view who frame required hardware cycle a
FitsAt layout view who frame required hardware (at.Over answer) = (hand_of view ≡ empty) × (view.owed.losses ≡ []) × FitsOver layout view who frame required hardware answer

-- what the command has done before is left open: it may have made entries, and have failed other frames
pub record Fits (layout : Layout) (view : View) (f : Fail) : Type 0 where
  pub on_turn : IsOnTurn view f.who
  pub sound : IsSound layout
  pub frame : f.frame.0 < layout.frames
  pub at : FitsAt layout view f.who f.frame f.required f.hardware f.at

-- ---- the rank

-- a failure whose action goes on is at most of class 3
abbrev pub class_at : FailAt → ℕ
class_at (at.Claim c) = claims.class c
class_at (at.Act cycle a) = claims.pressing (acts.class a)
class_at (at.Over answer) = 4

abbrev pub class : Fail → ℕ
class f = class_at f.at

-- the frame is out of use once it is retired
abbrev pub is_retired_at : AbandonAt → Bool
is_retired_at abandon_at.UnlockPage = true
is_retired_at abandon_at.Over = true
is_retired_at _ = false

abbrev pub has_retired_at : ActAt → Bool
has_retired_at (act_at.Abandon a) = is_retired_at a.at
has_retired_at (act_at.Over failed) = true
has_retired_at _ = false

abbrev pub claims_at : Frame → FailAt → Option (Frame × ℕ)
claims_at frame (at.Claim c) = claims.claims c
claims_at frame (at.Act cycle a) = cond (has_retired_at a.at) None (Some (frame, cycle))
claims_at frame (at.Over answer) = None

abbrev pub claims_of : Fail → Option (Frame × ℕ)
claims_of f = claims_at f.frame f.at

abbrev pub aborts_at : FailAt → Bool
aborts_at (at.Claim c) = claims.aborts c
aborts_at _ = false

abbrev pub aborts : Fail → Bool
aborts f = aborts_at f.at

-- the turns once the page is held: its action's
abbrev pub held_most : ℕ
held_most = acts.act_most + 1

abbrev pub cost_at : FailAt → Words → ℕ
cost_at (at.Claim c) words = claims.cost_with held_most c.at words
cost_at (at.Act cycle a) words = acts.cost a words
cost_at (at.Over answer) words = 0

abbrev pub cost : Fail → Words → ℕ
cost f words = cost_at f.at words

-- it is no more than this
abbrev pub fail_most : ℕ
fail_most = held_most + claims.claim_most

-- the task, as the laws of tasks read it
abbrev pub task : Member Fail
task = record {
  who = λ f. f.who;
  plan = plan;
  put = put;
  bare = bare;
  shows = Shows;
  next = λ layout f found got after result. Follows f found got after result;
  fits = Fits;
  class = class;
  cost = cost;
  aborts = aborts;
  claims = claims_of;
}
