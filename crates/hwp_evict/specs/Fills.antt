-- A page put into a free frame: the task's states, its steps and what they come to.
use Rattle.std.specs.Prelude.{◌≡◌, ℕ, ◌+◌, ◌-◌, ◌<◌, ◌==◌, true, false, cond, [], ◌∷◌, ◌++◌, Option, Some, None, is_none, length}
use Rattle.hwp_core.specs.hwp_geom.declared.Frame.{Frame}
use Rattle.hwp_core.specs.hwp_geom.declared.Layout.{Layout}
use Rattle.hwp_core.specs.hwp_geom.declared.Page.{Page}
use Rattle.hwp_core.specs.hwp_geom.declared.Who.{Who}
use Rattle.hwp_core.specs.hwp_page.declared.What.TheVariants.{FaultIn}
use Rattle.hwp_core.specs.hwp_page.History.{BodyValue}
use Rattle.hwp_core.specs.hwp_page.Step.{Allowed, after}
use Rattle.hwp_core.specs.hwp_core_rule.declared.SharedWord.TheVariants as places
use Rattle.hwp_core.specs.hwp_core_rule.declared.Step.{Step}
use Rattle.hwp_core.specs.hwp_core_rule.declared.Step.TheVariants as steps
use Rattle.hwp_core.specs.hwp_core_rule.declared.View.{View}
use Rattle.hwp_core.specs.hwp_core_rule.Logs.{log_of}
use Rattle.hwp_core.specs.hwp_core_rule.Views.{unpoisoned}
use Rattle.hwp_core.specs.hwp_core_rule.Words.{Words}
use Rattle.hwp_core.specs.hwp_core_rule.declared.Turn.{Turn}
use Rattle.hwp_core.specs.hwp_core_rule.declared.Turn.TheVariants.{Moved}
use Rattle.hwp_core.specs.hwp_core_rule.Calls.{IsOnTurn}
use Rattle.hwp_core.specs.hwp_core_rule.Hands.{Hand, hand_of}
use Rattle.hwp_core.specs.hwp_core_rule.Known.{Saw}
use Rattle.hwp_core.specs.hwp_core_rule.Turns.{Member}
use Rattle.hwp_core.specs.declared.refer.Refer.{Refer}
use Rattle.hwp_core.specs.declared.refer.ReferAt.{ReferAt}
use Rattle.hwp_core.specs.declared.refer.ReferAt.TheVariants as refer_at
use Rattle.hwp_core.specs.Holds.{locked, one_ref, IsBodyOf, HoldsPage}
use Rattle.hwp_core.specs.Refers as refers
use Rattle.hwp_core.specs.Releases.{adopted_lock, new_lock}
use Rattle.hwp_core.specs.Unholds.{HoldsAhead}
use Rattle.hwp_evict.specs.declared.fill.Fill.{Fill}
use Rattle.hwp_evict.specs.declared.fill.FillAt.{FillAt}
use Rattle.hwp_evict.specs.declared.fill.FillAt.TheVariants as at
use Rattle.hwp_evict.specs.declared.fill.FillAnswer.{FillAnswer}
use Rattle.hwp_evict.specs.declared.fill.FillAnswer.TheVariants as answers
use Rattle.hwp_evict.specs.declared.take.Take.{Take}
use Rattle.hwp_evict.specs.declared.take.TakeAt.{TakeAt}
use Rattle.hwp_evict.specs.declared.take.TakeAt.TheVariants as take_at
use Rattle.hwp_evict.specs.Takes as takes

abbrev pub begin : Who → Page → BodyValue → Fill
begin who page body = record { who = who; page = page; body = body; at = at.Take (takes.begin who) }

abbrev pub plan_at : Page → FillAt → Option Step
plan_at page (at.Take t) = takes.plan t
plan_at page (at.SetOwner frame) = Some (steps.SetOwner frame page true)
plan_at page (at.Refer r) = refers.plan r
plan_at page (at.SetCache frame) = Some (steps.SetCache page (Some frame))
plan_at page (at.Over frame) = None

abbrev pub plan : Fill → Option Step
plan f = plan_at f.page f.at

-- once the take has its frame, the frame is to be the page's
abbrev pub after_take_at : Take → TakeAt → FillAt
after_take_at t (take_at.Over (Some frame)) = at.SetOwner frame
after_take_at t (take_at.Over None) = at.Over None
after_take_at t _ = at.Take t

abbrev pub after_take : Take → FillAt
after_take t = after_take_at t t.at

-- once the second reference is taken, the cache word is to name the frame
abbrev pub after_refer_at : Refer → ReferAt → FillAt
after_refer_at r refer_at.Over = at.SetCache r.frame
after_refer_at r _ = at.Refer r

abbrev pub after_refer : Refer → FillAt
after_refer r = after_refer_at r r.at

abbrev pub next_at : Layout → Who → FillAt → ℕ → FillAt
next_at layout who (at.Take t) found = after_take (takes.next layout t found)
next_at layout who (at.SetOwner frame) found = at.Refer (refers.begin who frame 1)
next_at layout who (at.Refer r) found = after_refer (refers.next r found)
next_at layout who (at.SetCache frame) found = at.Over (Some frame)
next_at layout who (at.Over frame) found = at.Over frame

-- the body with the entry that its page was brought into a frame
abbrev pub brought : Who → BodyValue → BodyValue
brought who body = record body { state = after body.state FaultIn; log = body.log ++ (record { who = who; what = FaultIn }) ∷ []; spare = body.spare - 1 }

abbrev pub body_next : Who → FillAt → BodyValue → BodyValue
body_next who (at.SetCache frame) body = brought who body
body_next who _ body = body

abbrev pub next : Layout → Fill → ℕ → Fill
next layout f found = record f { body = body_next f.who f.at f.body; at = next_at layout f.who f.at found }

abbrev pub turn_at : FillAt → ℕ → Turn
turn_at (at.Take t) found = takes.turn t found
turn_at (at.Refer r) found = refers.turn r found
turn_at _ found = Moved

abbrev pub turn : Fill → ℕ → Turn
turn f found = turn_at f.at found

-- the body has room for the entry, which its state allows
pub record HasRoomFor (body : BodyValue) : Type 0 where
  pub spare : 0 < body.spare
  pub allowed : Allowed body.layout body.page body.state FaultIn

abbrev pub ShowsAt : BodyValue → FillAt → ℕ → Option BodyValue → Type 0
ShowsAt body (at.Take t) found got = takes.Shows t found got
ShowsAt body (at.SetCache frame) found got = HasRoomFor body
ShowsAt body _ found got = Unit {0}

abbrev pub Shows : Fill → ℕ → Option BodyValue → Type 0
Shows f found got = ShowsAt f.body f.at found got

abbrev pub answer_of : Option Frame → FillAnswer
answer_of None = answers.NoFrame
answer_of (Some frame) = answers.Filled frame

abbrev pub answer_at : FillAt → Option FillAnswer
answer_at (at.Over frame) = Some (answer_of frame)
answer_at _ = None

abbrev pub answer : Fill → Option FillAnswer
answer f = answer_at f.at

-- what a take adds to what is held
abbrev pub with_take : TakeAt → Hand → Hand
with_take (take_at.LoadFree number) h = record h { reserved = 1 }
with_take (take_at.TakeBit frame) h = record h { reserved = 1 }
with_take (take_at.Adopt frame) h = record h { hands = unpoisoned frame ∷ [] }
with_take (take_at.Retire frame) h = record h { locks = adopted_lock frame true ∷ []; refs = one_ref frame }
with_take (take_at.Over (Some frame)) h = record h { locks = new_lock frame ∷ []; refs = one_ref frame }
with_take _ h = h

-- a frame's lock, with this owner, and so many references to it
abbrev pub with_frame : Frame → ℕ → ℕ → Hand → Hand
with_frame frame owner count h =
    record h { locks = record (new_lock frame) { owner = owner } ∷ []; refs = record { frame = frame; count = count } ∷ [] }

-- the page's body, which is in no frame, as it was taken off the shelf, and there is room for the entry
pub record CanBring (layout : Layout) (page : Page) (body : BodyValue) : Type 0 where
  pub body_is : IsBodyOf layout page None body
  pub room : HasRoomFor body

-- the page alone is held, and a frame is being taken for it
pub record IsTaking (layout : Layout) (view : View) (who : Who) (page : Page) (body : BodyValue) (t : Take) : Type 0 where
  pub seen : ℕ
  pub hand_is : hand_of view ≡ with_take t.at (locked layout page (Some (log_of body)) seen)
  pub entry : CanBring layout page body
  pub take : takes.Fits layout view t
  pub own : t.who ≡ who
  pub under_way : is_none (takes.plan t) ≡ false

-- the page, and a frame for it with this owner and so many references, are held
pub record HoldsBoth (layout : Layout) (view : View) (page : Page) (body : BodyValue) (frame : Frame) (owner count : ℕ) : Type 0 where
  pub seen : ℕ
  pub hand_is : hand_of view ≡ with_frame frame owner count (locked layout page (Some (log_of body)) seen)
  pub entry : CanBring layout page body
  pub within : frame.0 < layout.frames

-- and the second reference is being taken
pub record IsReferring (layout : Layout) (view : View) (who : Who) (page : Page) (body : BodyValue) (r : Refer) : Type 0 where
  pub both : HoldsBoth layout view page body r.frame (page.0 + 1) 1
  pub refer : refers.Fits layout view r
  pub own : r.who ≡ who
  pub count : r.count ≡ 1
  pub under_way : is_none (refers.plan r) ≡ false

abbrev pub FitsOver : Layout → View → Who → Page → BodyValue → Option Frame → Type 0
FitsOver layout view who page body None = HoldsPage layout view page None body × Saw view who places.Available 0
FitsOver layout view who page body (Some frame) = HoldsAhead layout who view page (Some frame) 1 (Some body) × (frame.0 < layout.frames)

abbrev pub FitsAt : Layout → View → Who → Page → BodyValue → FillAt → Type 0
FitsAt layout view who page body (at.Take t) = IsTaking layout view who page body t
FitsAt layout view who page body (at.SetOwner frame) = HoldsBoth layout view page body frame 0 1
FitsAt layout view who page body (at.Refer r) = IsReferring layout view who page body r
FitsAt layout view who page body (at.SetCache frame) = HoldsBoth layout view page body frame (page.0 + 1) 2
FitsAt layout view who page body (at.Over frame) = FitsOver layout view who page body frame

-- the page is held, and the frame once it is taken; there is room for the entry until it is appended; where no frame was taken,
-- the command saw that none was available
pub record Fits (layout : Layout) (view : View) (f : Fill) : Type 0 where
  pub on_turn : IsOnTurn view f.who
  pub page : f.page.0 < length layout.pages
  pub at : FitsAt layout view f.who f.page f.body f.at

-- the page's lock is held: at most class 2
abbrev pub with_page : ℕ → ℕ
with_page class = cond (class == 1) 1 2

abbrev pub class_at : FillAt → ℕ
class_at (at.Take t) = with_page (takes.class t)
class_at (at.Over None) = 2
class_at _ = 1

abbrev pub class : Fill → ℕ
class f = class_at f.at

-- the turns that are left, where no word changes
abbrev pub cost_at : FillAt → Words → ℕ
cost_at (at.Take t) words = takes.cost t words + 4
cost_at (at.SetOwner frame) words = 4
cost_at (at.Refer r) words = refers.cost r words + 1
cost_at (at.SetCache frame) words = 1
cost_at (at.Over frame) words = 0

abbrev pub cost : Fill → Words → ℕ
cost f words = cost_at f.at words

-- the task, as the laws of tasks read it
abbrev pub task : Member Fill
task = record {
  who = λ f. f.who;
  plan = plan;
  put = λ f. None;
  bare = λ f. f;
  shows = Shows;
  next = λ layout f found got after result. (after ≡ next layout f found) × (result ≡ turn f found);
  fits = Fits;
  class = class;
  cost = cost;
  aborts = λ f. false;
  claims = λ f. None;
}
