-- A frame let go that is held without its page: the task's states, its steps and what they come to.
use Rattle.std.specs.Prelude.{◌≡◌, ℕ, ◌+◌, ◌<◌, Bool, true, false, [], ◌∷◌, Option, Some, None, is_none}
use Rattle.hwp_core_rule.specs.hwp_geom.declared.Frame.{Frame}
use Rattle.hwp_core_rule.specs.hwp_geom.declared.Layout.{Layout}
use Rattle.hwp_core_rule.specs.hwp_geom.declared.Page.{Page}
use Rattle.hwp_core_rule.specs.hwp_geom.declared.Who.{Who}
use Rattle.hwp_core_rule.specs.hwp_page.History.{BodyValue}
use Rattle.hwp_core_rule.specs.declared.InHand.{InHand}
use Rattle.hwp_core_rule.specs.declared.Step.{Step}
use Rattle.hwp_core_rule.specs.declared.Step.TheVariants as steps
use Rattle.hwp_core_rule.specs.declared.View.{View}
use Rattle.hwp_core_rule.specs.declared.Turn.TheVariants.{Moved}
use Rattle.hwp_core_rule.specs.Asks.{CanGoHome}
use Rattle.hwp_core_rule.specs.Logs.{log_of}
use Rattle.hwp_core_rule.specs.Views.{unpoisoned}
use Rattle.hwp_core_rule.specs.Words.{Words}
use Rattle.hwp_core_rule.specs.Calls.{IsOnTurn}
use Rattle.hwp_core_rule.specs.Hands.{Hand, hand_of, empty}
use Rattle.hwp_core_rule.specs.Turns.{Member}
use Rattle.hwp_core.specs.declared.release.Release.{Release}
use Rattle.hwp_core.specs.declared.release.ReleaseAt.{ReleaseAt}
use Rattle.hwp_core.specs.declared.release.ReleaseAt.TheVariants as release_at
use Rattle.hwp_core.specs.declared.unlock.Unlock.{Unlock}
use Rattle.hwp_core.specs.declared.unlock.UnlockAt.{UnlockAt}
use Rattle.hwp_core.specs.declared.unlock.UnlockAt.TheVariants as at
use Rattle.hwp_core.specs.Holds.{one_ref}
use Rattle.hwp_core.specs.Releases as releases

abbrev pub begin : Who → Frame → Option BodyValue → Unlock
begin who frame body = record { who = who; at = at.UnlockFrame frame body }

abbrev pub plan_at : UnlockAt → Option Step
plan_at (at.UnlockFrame frame body) = Some (steps.UnlockFrame frame)
plan_at (at.Release r) = releases.plan r
plan_at at.Over = None

abbrev pub plan : Unlock → Option Step
plan u = plan_at u.at

abbrev pub put_at : UnlockAt → Option BodyValue
put_at (at.UnlockFrame frame body) = body
put_at _ = None

abbrev pub put : Unlock → Option BodyValue
put u = put_at u.at

abbrev pub bare_at : UnlockAt → UnlockAt
bare_at (at.UnlockFrame frame body) = at.UnlockFrame frame None
bare_at (at.Release r) = at.Release r
bare_at at.Over = at.Over

abbrev pub bare : Unlock → Unlock
bare u = record u { at = bare_at u.at }

abbrev pub after_release_at : Release → ReleaseAt → UnlockAt
after_release_at r (release_at.Back word) = at.Over
after_release_at r _ = at.Release r

abbrev pub after_release : Release → UnlockAt
after_release r = after_release_at r r.at

abbrev pub next_at : Who → UnlockAt → ℕ → UnlockAt
next_at who (at.UnlockFrame frame body) found = at.Release (releases.begin who frame 1)
next_at who (at.Release r) found = after_release (releases.next r found)
next_at who at.Over found = at.Over

abbrev pub next : Unlock → ℕ → Unlock
next u found = record u { at = next_at u.who u.at found }

-- the lock of a frame, one reference to it and a body taken from it
abbrev pub holding : Frame → Page → InHand → Bool → Bool → Hand
holding frame page body handled poisoned = record empty {
  locks = record { frame = frame; owner = page.0 + 1; handled = handled; poisoned = poisoned } ∷ [];
  refs = one_ref frame;
  bodies = body ∷ [];
}

-- the frame is locked, not its page, and the page's body, with the entries that it has now, can go home
pub record HoldsFrame (layout : Layout) (who : Who) (view : View) (frame : Frame) (given : Option BodyValue) : Type 0 where
  pub body : BodyValue
  pub given_is : given ≡ Some body
  pub taken : InHand
  pub handled : Bool
  pub poisoned : Bool
  pub hand_is : hand_of view ≡ holding frame body.page taken handled poisoned
  pub home : CanGoHome layout who view (log_of body)
  pub taken_is : taken.log.page ≡ body.page
  pub layout_is : body.layout ≡ layout
  pub within : frame.0 < layout.frames

-- the lock of a frame that is no page's, and one reference to it
abbrev pub empty_frame : Frame → Bool → Bool → Hand
empty_frame frame handled poisoned = record empty {
  locks = record { frame = frame; owner = 0; handled = handled; poisoned = poisoned } ∷ [];
  refs = one_ref frame;
}

-- the frame is locked, and no body was in it
pub record HoldsEmptyFrame (layout : Layout) (view : View) (frame : Frame) : Type 0 where
  pub handled : Bool
  pub poisoned : Bool
  pub hand_is : hand_of view ≡ empty_frame frame handled poisoned
  pub within : frame.0 < layout.frames

abbrev pub FitsFrame : Layout → View → Who → Frame → Option BodyValue → Type 0
FitsFrame layout view who frame None = HoldsEmptyFrame layout view frame
FitsFrame layout view who frame (Some body) = HoldsFrame layout who view frame (Some body)

-- what is held while the frame is released
abbrev pub releasing : Frame → ReleaseAt → Hand
releasing frame release_at.Put = record empty { refs = one_ref frame }
releasing frame (release_at.Give word) = record empty { hands = unpoisoned frame ∷ [] }
releasing frame (release_at.Unreserve word) = record empty { reserved = 1 }
releasing frame (release_at.Adopt word) = record empty { hands = record { frame = frame; poisoned = true } ∷ [] }
releasing frame (release_at.Retire word) = record empty { refs = one_ref frame; locks = releases.poisoned_lock frame ∷ [] }
releasing frame (release_at.Back word) = empty

pub record IsReleasing (layout : Layout) (view : View) (who : Who) (r : Release) : Type 0 where
  pub hand_is : hand_of view ≡ releasing r.frame r.at
  pub release : releases.Fits layout view r
  pub own : r.who ≡ who
  pub count : r.count ≡ 1
  pub under_way : is_none (releases.plan r) ≡ false

abbrev pub FitsAt : Layout → View → Who → UnlockAt → Type 0
FitsAt layout view who (at.UnlockFrame frame body) = FitsFrame layout view who frame body
FitsAt layout view who (at.Release r) = IsReleasing layout view who r
FitsAt layout view who at.Over = hand_of view ≡ empty

-- the processor holds the frame, and in the end nothing
pub record Fits (layout : Layout) (view : View) (u : Unlock) : Type 0 where
  pub on_turn : IsOnTurn view u.who
  pub at : FitsAt layout view u.who u.at

-- 1 while the frame is locked, in hand or reserved
abbrev pub class_at : UnlockAt → ℕ
class_at (at.UnlockFrame frame body) = 1
class_at (at.Release r) = releases.class r
class_at at.Over = 4

abbrev pub class : Unlock → ℕ
class u = class_at u.at

-- the turns that are left
abbrev pub cost_at : UnlockAt → Words → ℕ
cost_at (at.UnlockFrame frame body) words = 4
cost_at (at.Release r) words = releases.cost r words
cost_at at.Over words = 0

abbrev pub cost : Unlock → Words → ℕ
cost u words = cost_at u.at words

-- the task, as the laws of tasks read it
abbrev pub task : Member Unlock
task = record {
  who = λ u. u.who;
  plan = plan;
  put = put;
  bare = bare;
  shows = λ u found got. Unit {0};
  next = λ layout u found got after result. (after ≡ next u found) × (result ≡ Moved);
  fits = Fits;
  class = class;
  cost = cost;
  aborts = λ u. false;
  claims = λ u. None;
}
