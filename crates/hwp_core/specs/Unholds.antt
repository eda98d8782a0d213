-- A page let go: the task's states, its steps and what they come to.
use Rattle.std.specs.Prelude.{◌≡◌, ℕ, ◌+◌, ◌<◌, min, Bool, true, false, cond, List, [], ◌∷◌, Option, Some, None, is_none, length}
use Rattle.hwp_core_rule.specs.hwp_geom.declared.Frame.{Frame}
use Rattle.hwp_core_rule.specs.hwp_geom.declared.Layout.{Layout}
use Rattle.hwp_core_rule.specs.hwp_geom.declared.Page.{Page}
use Rattle.hwp_core_rule.specs.hwp_geom.declared.Who.{Who}
use Rattle.hwp_core_rule.specs.hwp_page.History.{BodyValue}
use Rattle.hwp_core_rule.specs.declared.InHand.{InHand}
use Rattle.hwp_core_rule.specs.declared.Step.{Step}
use Rattle.hwp_core_rule.specs.declared.Step.TheVariants as steps
use Rattle.hwp_core_rule.specs.declared.View.{View}
use Rattle.hwp_core_rule.specs.declared.Turn.TheVariants.{Moved}
use Rattle.hwp_core_rule.specs.Asks.{CanGoHome}
use Rattle.hwp_core_rule.specs.Logs.{log_of}
use Rattle.hwp_core_rule.specs.Views.{unpoisoned}
use Rattle.hwp_core_rule.specs.Words.{Words}
use Rattle.hwp_core.specs.declared.hold.Hold.{Hold}
use Rattle.hwp_core.specs.declared.release.Release.{Release}
use Rattle.hwp_core.specs.declared.release.ReleaseAt.{ReleaseAt}
use Rattle.hwp_core.specs.declared.release.ReleaseAt.TheVariants as release_at
use Rattle.hwp_core.specs.declared.unhold.Unhold.{Unhold}
use Rattle.hwp_core.specs.declared.unhold.UnholdAt.{UnholdAt}
use Rattle.hwp_core.specs.declared.unhold.UnholdAt.TheVariants as at
use Rattle.hwp_core.specs.declared.unhold.UnholdAnswer.{UnholdAnswer}
use Rattle.hwp_core.specs.declared.unhold.UnholdAnswer.TheVariants as answers
use Rattle.hwp_core_rule.specs.Calls.{IsOnTurn}
use Rattle.hwp_core_rule.specs.Hands.{Hand, hand_of, empty}
use Rattle.hwp_core_rule.specs.Turns.{Member}
use Rattle.hwp_core.specs.Holds as holds
use Rattle.hwp_core.specs.Holds.{page_lock, named, one_ref, refs_to}
use Rattle.hwp_core.specs.Releases as releases

abbrev pub begin_at : Option Frame → ℕ → BodyValue → UnholdAt
begin_at None count body = at.UnlockPage (Some body)
begin_at (Some frame) count body = at.UnlockFrame frame count (Some body)

abbrev pub begin : Who → Page → Option Frame → ℕ → BodyValue → Unhold
begin who page frame count body = record { who = who; page = page; at = begin_at frame count body }

abbrev pub plan_at : Page → UnholdAt → Option Step
plan_at page (at.UnlockFrame frame count body) = Some (steps.UnlockFrame frame)
plan_at page (at.Release r) = releases.plan r
plan_at page (at.UnlockPage body) = Some (steps.UnlockPage page)
plan_at page at.Over = None

abbrev pub plan : Unhold → Option Step
plan u = plan_at u.page u.at

abbrev pub put_at : UnholdAt → Option BodyValue
put_at (at.UnlockFrame frame count body) = body
put_at (at.UnlockPage body) = body
put_at _ = None

abbrev pub put : Unhold → Option BodyValue
put u = put_at u.at

abbrev pub bare_at : UnholdAt → UnholdAt
bare_at (at.UnlockFrame frame count body) = at.UnlockFrame frame count None
bare_at (at.UnlockPage body) = at.UnlockPage None
bare_at (at.Release r) = at.Release r
bare_at at.Over = at.Over

abbrev pub bare : Unhold → Unhold
bare u = record u { at = bare_at u.at }

abbrev pub after_release_at : Release → ReleaseAt → UnholdAt
after_release_at r (release_at.Back word) = at.UnlockPage None
after_release_at r _ = at.Release r

abbrev pub after_release : Release → UnholdAt
after_release r = after_release_at r r.at

abbrev pub next_at : Who → UnholdAt → ℕ → UnholdAt
next_at who (at.UnlockFrame frame count body) found = at.Release (releases.begin who frame count)
next_at who (at.Release r) found = after_release (releases.next r found)
next_at who (at.UnlockPage body) found = at.Over
next_at who at.Over found = at.Over

abbrev pub next : Unhold → ℕ → Unhold
next u found = record u { at = next_at u.who u.at found }

abbrev pub answer : Unhold → Option UnholdAnswer
answer u = cond (is_none (plan u)) (Some answers.Done) None

-- the page is locked with its frame, if it is in one, and so many references to the frame; and its body is in hand
abbrev pub holding : Page → Option Frame → ℕ → List ℕ → InHand → Bool → Bool → Hand
holding page None count trans body handled poisoned = record empty { pages = page_lock page None (Some trans) ∷ []; bodies = body ∷ [] }
holding page (Some frame) count trans body handled poisoned = record empty {
  pages = page_lock page (Some frame) (Some trans) ∷ [];
  bodies = body ∷ [];
  locks = record { frame = frame; owner = page.0 + 1; handled = handled; poisoned = poisoned } ∷ [];
  refs = refs_to frame count;
}

-- and the body, with the entries that it has now, can go home
pub record HoldsAhead (layout : Layout) (who : Who) (view : View) (page : Page) (frame : Option Frame) (count : ℕ) (given : Option BodyValue) : Type 0 where
  pub body : BodyValue
  pub given_is : given ≡ Some body
  pub trans : List ℕ
  pub taken : InHand
  pub handled : Bool
  pub poisoned : Bool
  pub hand_is : hand_of view ≡ holding page frame count trans taken handled poisoned
  pub home : CanGoHome layout who view (log_of body)
  pub page_is : body.page ≡ page
  pub taken_is : taken.log.page ≡ page
  pub layout_is : body.layout ≡ layout

-- what is held while the frame is released
abbrev pub releasing : Page → Frame → ℕ → ReleaseAt → Hand
releasing page frame count release_at.Put = named page frame (refs_to frame count)
releasing page frame count (release_at.Give word) = record (named page frame []) { hands = unpoisoned frame ∷ [] }
releasing page frame count (release_at.Unreserve word) = record (named page frame []) { reserved = 1 }
releasing page frame count (release_at.Adopt word) = record (named page frame []) { hands = record { frame = frame; poisoned = true } ∷ [] }
releasing page frame count (release_at.Retire word) = record (named page frame (one_ref frame)) { locks = releases.poisoned_lock frame ∷ [] }
releasing page frame count (release_at.Back word) = named page frame []

pub record IsReleasing (layout : Layout) (view : View) (who : Who) (page : Page) (r : Release) : Type 0 where
  pub hand_is : hand_of view ≡ releasing page r.frame r.count r.at
  pub release : releases.Fits layout view r
  pub own : r.who ≡ who
  pub under_way : is_none (releases.plan r) ≡ false

-- the page's lock alone; its body is in this frame's slot
pub record IsEmptied (view : View) (page : Page) : Type 0 where
  pub frame : Frame
  pub hand_is : hand_of view ≡ named page frame []

abbrev pub FitsPage : Layout → Who → View → Page → Option BodyValue → Type 0
FitsPage layout who view page None = IsEmptied view page
FitsPage layout who view page (Some body) = HoldsAhead layout who view page None 1 (Some body)

abbrev pub FitsAt : Layout → View → Who → Page → UnholdAt → Type 0
FitsAt layout view who page (at.UnlockFrame frame count body) = HoldsAhead layout who view page (Some frame) count body × ((0 < count) × (frame.0 < layout.frames))
FitsAt layout view who page (at.Release r) = IsReleasing layout view who page r
FitsAt layout view who page (at.UnlockPage body) = FitsPage layout who view page body
FitsAt layout view who page at.Over = hand_of view ≡ empty

pub record Fits (layout : Layout) (view : View) (u : Unhold) : Type 0 where
  pub on_turn : IsOnTurn view u.who
  pub page : u.page.0 < length layout.pages
  pub at : FitsAt layout view u.who u.page u.at

-- wherever the hold fits, the page can be let go so
abbrev pub LetsGo : Hold → Unhold → Type 0
LetsGo h u = (layout : Layout) (view : View) → holds.Fits layout view h → Fits layout view u

-- 1 while the frame is locked, in hand or reserved, and 2 while the page is locked
abbrev pub class_at : UnholdAt → ℕ
class_at (at.UnlockFrame frame count body) = 1
class_at (at.Release r) = min (releases.class r) 2
class_at (at.UnlockPage body) = 2
class_at at.Over = 4

abbrev pub class : Unhold → ℕ
class u = class_at u.at

-- the turns that are left
abbrev pub cost_at : UnholdAt → Words → ℕ
cost_at (at.UnlockFrame frame count body) words = 5
cost_at (at.Release r) words = releases.cost r words + 1
cost_at (at.UnlockPage body) words = 1
cost_at at.Over words = 0

abbrev pub cost : Unhold → Words → ℕ
cost u words = cost_at u.at words

-- the task, as the laws of tasks read it
abbrev pub task : Member Unhold
task = record {
  who = λ u. u.who;
  plan = plan;
  put = put;
  bare = bare;
  shows = λ u found got. Unit {0};
  next = λ layout u found got after result. (after ≡ next u found) × (result ≡ Moved);
  fits = Fits;
  class = class;
  cost = cost;
  aborts = λ u. false;
  claims = λ u. None;
}
