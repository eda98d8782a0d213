-- A page that leaves its frame: the task's states, its steps and what they come to.
use Rattle.std.specs.Prelude.{◌≡◌, ℕ, ◌+◌, ◌-◌, ◌<◌, ◌≤◌, min, Bool, true, false, List, [], ◌∷◌, Option, Some, None, is_none, length, drop}
use Rattle.std.specs.FinSet as set
use Rattle.hwp_core_rule.specs.hwp_geom.declared.Frame.{Frame}
use Rattle.hwp_core_rule.specs.hwp_geom.declared.Layout.{Layout}
use Rattle.hwp_core_rule.specs.hwp_geom.declared.Page.{Page}
use Rattle.hwp_core_rule.specs.hwp_geom.declared.Proc.{Proc}
use Rattle.hwp_core_rule.specs.hwp_geom.declared.Who.{Who}
use Rattle.hwp_core_rule.specs.hwp_geom.Layout.{IsSound}
use Rattle.hwp_core_rule.specs.hwp_page.Endings.{has_ending}
use Rattle.hwp_core_rule.specs.hwp_page.History.{BodyValue}
use Rattle.hwp_core_rule.specs.declared.InHand.{InHand}
use Rattle.hwp_core_rule.specs.declared.Step.{Step}
use Rattle.hwp_core_rule.specs.declared.Step.TheVariants as steps
use Rattle.hwp_core_rule.specs.declared.View.{View}
use Rattle.hwp_core_rule.specs.Asks.{Extends}
use Rattle.hwp_core_rule.specs.Lists.{SomeMember}
use Rattle.hwp_core_rule.specs.Logs.{log_of, state_of}
use Rattle.hwp_core_rule.specs.Views.{unpoisoned}
use Rattle.hwp_core_rule.specs.Words.{Words}
use Rattle.hwp_core_rule.specs.parts.Fits.{FitsWords}
use Rattle.hwp_core_rule.specs.Calls.{IsOnTurn}
use Rattle.hwp_core_rule.specs.Hands.{Hand, hand_of, empty}
use Rattle.hwp_core_rule.specs.Turns.{Member}
use Rattle.hwp_core_rule.specs.declared.Turn.TheVariants.{Moved}
use Rattle.hwp_core.specs.declared.release.Release.{Release}
use Rattle.hwp_core.specs.declared.release.ReleaseAt.{ReleaseAt}
use Rattle.hwp_core.specs.declared.release.ReleaseAt.TheVariants as release_at
use Rattle.hwp_core.specs.Holds.{page_lock, one_ref}
use Rattle.hwp_core.specs.Releases as releases
use Rattle.hwp_core.specs.declared.vacate.Vacate.{Vacate}
use Rattle.hwp_core.specs.declared.vacate.VacateAt.{VacateAt}
use Rattle.hwp_core.specs.declared.vacate.VacateAt.TheVariants as at

abbrev pub begin : Who → Page → Frame → ℕ → BodyValue → Vacate
begin who page frame count body = record { who = who; page = page; frame = frame; count = count; body = Some body; at = at.SetCache }

abbrev pub plan_at : Page → Frame → VacateAt → Option Step
plan_at page frame at.SetCache = Some (steps.SetCache page None)
plan_at page frame at.SetOwner = Some (steps.SetOwner frame page false)
plan_at page frame at.UnlockFrame = Some (steps.UnlockFrame frame)
plan_at page frame (at.Release r) = releases.plan r
plan_at page frame at.UnlockPage = Some (steps.UnlockPage page)
plan_at page frame at.Over = None

abbrev pub plan : Vacate → Option Step
plan v = plan_at v.page v.frame v.at

abbrev pub put_at : Option BodyValue → VacateAt → Option BodyValue
put_at body at.UnlockPage = body
put_at body _ = None

abbrev pub put : Vacate → Option BodyValue
put v = put_at v.body v.at

-- the body that is left once it has gone home
abbrev pub left_at : Option BodyValue → VacateAt → Option BodyValue
left_at body at.UnlockPage = None
left_at body _ = body

abbrev pub bare : Vacate → Vacate
bare v = record v { body = left_at v.body v.at }

abbrev pub after_release_at : Release → ReleaseAt → VacateAt
after_release_at r (release_at.Back word) = at.UnlockPage
after_release_at r _ = at.Release r

abbrev pub after_release : Release → VacateAt
after_release r = after_release_at r r.at

abbrev pub next_at : Who → Frame → ℕ → VacateAt → ℕ → VacateAt
next_at who frame count at.SetCache found = at.SetOwner
next_at who frame count at.SetOwner found = at.UnlockFrame
next_at who frame count at.UnlockFrame found = at.Release (releases.begin who frame count)
next_at who frame count (at.Release r) found = after_release (releases.next r found)
next_at who frame count at.UnlockPage found = at.Over
next_at who frame count at.Over found = at.Over

abbrev pub next : Vacate → ℕ → Vacate
next v found = record v { at = next_at v.who v.frame v.count v.at found }

-- the page's lock and its body, where the page is in this frame or in none
abbrev pub page_held : Page → Option Frame → List ℕ → InHand → Hand
page_held page frame trans taken = record empty { pages = page_lock page frame (Some trans) ∷ []; bodies = taken ∷ [] }

-- and a frame's lock, with this owner, and so many references to it
abbrev pub with_frame : Frame → ℕ → Bool → Bool → ℕ → Hand → Hand
with_frame frame owner handled poisoned count h =
    record h { locks = record { frame = frame; owner = owner; handled = handled; poisoned = poisoned } ∷ []; refs = record { frame = frame; count = count } ∷ [] }

-- what is held beside it while a frame is released
abbrev pub releasing : Frame → ℕ → ReleaseAt → Hand → Hand
releasing frame count release_at.Put h = record h { refs = record { frame = frame; count = count } ∷ [] }
releasing frame count (release_at.Give word) h = record h { hands = unpoisoned frame ∷ [] }
releasing frame count (release_at.Unreserve word) h = record h { reserved = 1 }
releasing frame count (release_at.Adopt word) h = record h { hands = record { frame = frame; poisoned = true } ∷ [] }
releasing frame count (release_at.Retire word) h = record h { refs = one_ref frame; locks = releases.poisoned_lock frame ∷ [] }
releasing frame count (release_at.Back word) h = h

-- the body, with the entries that it has now, can go onto its page's shelf: the page's words, which are these, fit it there
pub record GoesToShelf (layout : Layout) (who : Who) (view : View) (page : Page) (given : Option BodyValue) (trans : List ℕ) (taken : InHand) : Type 0 where
  pub body : BodyValue
  pub given_is : given ≡ Some body
  pub page_is : body.page ≡ page
  pub taken_is : taken.log.page ≡ page
  pub layout_is : body.layout ≡ layout
  pub from : taken.from ≤ length view.sights
  pub extends : Extends layout who view.sights taken (log_of body)
  pub killed : (process : Proc) → has_ending layout process (drop taken.since body.log) ≡ true → SomeMember (λ (p : Proc). p ≡ process) taken.killed
  pub fits : FitsWords layout (log_of body) 0 trans
  pub unmapped : (state_of layout (log_of body)).maps ≡ set.empty

-- what is held in each state
abbrev pub hand_at : Page → Frame → ℕ → VacateAt → List ℕ → InHand → Bool → Bool → Hand
hand_at page frame count at.SetCache trans taken handled poisoned = with_frame frame (page.0 + 1) handled poisoned (count - 1) (page_held page (Some frame) trans taken)
hand_at page frame count at.SetOwner trans taken handled poisoned = with_frame frame (page.0 + 1) handled poisoned count (page_held page None trans taken)
hand_at page frame count at.UnlockFrame trans taken handled poisoned = with_frame frame 0 handled poisoned count (page_held page None trans taken)
hand_at page frame count (at.Release r) trans taken handled poisoned = releasing r.frame r.count r.at (page_held page None trans taken)
hand_at page frame count at.UnlockPage trans taken handled poisoned = page_held page None trans taken
hand_at page frame count at.Over trans taken handled poisoned = empty

-- the page is held, and its body is on its way to the shelf
pub record IsLeaving (layout : Layout) (view : View) (v : Vacate) : Type 0 where
  pub trans : List ℕ
  pub taken : InHand
  pub handled : Bool
  pub poisoned : Bool
  pub hand_is : hand_of view ≡ hand_at v.page v.frame v.count v.at trans taken handled poisoned
  pub goes : GoesToShelf layout v.who view v.page v.body trans taken

pub record IsReleasing (layout : Layout) (view : View) (v : Vacate) (r : Release) : Type 0 where
  pub leaving : IsLeaving layout view v
  pub release : releases.Fits layout view r
  pub own : r.who ≡ v.who
  pub under_way : is_none (releases.plan r) ≡ false

abbrev pub FitsAt : Layout → View → Vacate → VacateAt → Type 0
FitsAt layout view v (at.Release r) = IsReleasing layout view v r
FitsAt layout view v at.Over = hand_of view ≡ empty
FitsAt layout view v _ = IsLeaving layout view v

-- the processor holds the page with its frame, and in the end nothing; a name more of the frame has room for its reference
pub record Fits (layout : Layout) (view : View) (v : Vacate) : Type 0 where
  pub on_turn : IsOnTurn view v.who
  pub sound : IsSound layout
  pub page : v.page.0 < length layout.pages
  pub frame : v.frame.0 < layout.frames
  pub some : 2 ≤ v.count
  pub room : v.count ≤ length layout.trans + 2
  pub at : FitsAt layout view v v.at

-- 1 while the frame is locked, in hand or reserved, and 2 while the page is locked
abbrev pub class_at : VacateAt → ℕ
class_at (at.Release r) = min (releases.class r) 2
class_at at.UnlockPage = 2
class_at at.Over = 4
class_at _ = 1

abbrev pub class : Vacate → ℕ
class v = class_at v.at

-- the turns that are left
abbrev pub cost_at : VacateAt → Words → ℕ
cost_at at.SetCache words = 7
cost_at at.SetOwner words = 6
cost_at at.UnlockFrame words = 5
cost_at (at.Release r) words = releases.cost r words + 1
cost_at at.UnlockPage words = 1
cost_at at.Over words = 0

abbrev pub cost : Vacate → Words → ℕ
cost v words = cost_at v.at words

-- the task, as the laws of tasks read it
abbrev pub task : Member Vacate
task = record {
  who = λ v. v.who;
  plan = plan;
  put = put;
  bare = bare;
  shows = λ v found got. Unit {0};
  next = λ layout v found got after result. (after ≡ next v found) × (result ≡ Moved);
  fits = Fits;
  class = class;
  cost = cost;
  aborts = λ v. false;
  claims = λ v. None;
}
