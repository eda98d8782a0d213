-- A page held: the task's states, its steps and what they come to.
use Rattle.std.specs.Prelude.{◌≡◌, ℕ, ◌+◌, ◌<◌, ◌==◌, Bool, true, false, not, cond, List, [], ◌∷◌, Option, Some, None, is_some, is_none, length}
use Rattle.hwp_core_rule.specs.hwp_geom.declared.Frame.{Frame}
use Rattle.hwp_core_rule.specs.hwp_geom.declared.Layout.{Layout}
use Rattle.hwp_core_rule.specs.hwp_geom.declared.Page.{Page}
use Rattle.hwp_core_rule.specs.hwp_geom.declared.Who.{Who}
use Rattle.hwp_core_rule.specs.hwp_page.History.{BodyValue, IsReplay}
use Rattle.hwp_core_rule.specs.hwp_words.Names.{frame_name}
use Rattle.hwp_core_rule.specs.hwp_words.Frames.{is_locked}
use Rattle.hwp_core_rule.specs.declared.Log.{Log}
use Rattle.hwp_core_rule.specs.declared.PageLock.{PageLock}
use Rattle.hwp_core_rule.specs.declared.SharedWord.TheVariants as places
use Rattle.hwp_core_rule.specs.declared.Ref.{Ref}
use Rattle.hwp_core_rule.specs.declared.Step.{Step}
use Rattle.hwp_core_rule.specs.declared.Step.TheVariants as steps
use Rattle.hwp_core_rule.specs.declared.View.{View}
use Rattle.hwp_core_rule.specs.Logs.{log_of, state_of, fitting}
use Rattle.hwp_core_rule.specs.Views.{frame_in}
use Rattle.hwp_core_rule.specs.Words.{Words}
use Rattle.hwp_core_rule.specs.declared.Turn.{Turn}
use Rattle.hwp_core_rule.specs.declared.Turn.TheVariants.{Moved, Waits}
use Rattle.hwp_core_rule.specs.Known.{SawLog}
use Rattle.hwp_core.specs.declared.hold.Hold.{Hold}
use Rattle.hwp_core.specs.declared.hold.HoldAt.{HoldAt}
use Rattle.hwp_core.specs.declared.hold.HoldAt.TheVariants as at
use Rattle.hwp_core.specs.declared.pin.Pin.{Pin}
use Rattle.hwp_core.specs.declared.pin.PinAt.{PinAt}
use Rattle.hwp_core.specs.declared.pin.PinAt.TheVariants as pin_at
use Rattle.hwp_core_rule.specs.Calls.{IsOnTurn, logs}
use Rattle.hwp_core_rule.specs.Hands.{Hand, hand_of, empty, body_in}
use Rattle.hwp_core_rule.specs.Turns.{Member}
use Rattle.hwp_core.specs.Pins as pins

-- the lock's word says that it was free
abbrev pub is_free : ℕ → Bool
is_free word = not (is_locked word)

abbrev pub begin : Who → Page → Hold
begin who page = record { who = who; page = page; at = at.LockPage }

abbrev pub plan_at : Page → HoldAt → Option Step
plan_at page at.LockPage = Some (steps.LockPage page)
plan_at page (at.LoadCache body) = Some (steps.Load (places.Cache page))
plan_at page (at.Pin p) = pins.plan p
plan_at page (at.LockFrame frame) = Some (steps.LockFrame frame)
plan_at page (at.Held frame body) = None

abbrev pub plan : Hold → Option Step
plan h = plan_at h.page h.at

-- what follows a cache word that names a frame, or none
abbrev pub named_at : Who → Option BodyValue → Option Frame → HoldAt
named_at who body (Some frame) = at.Pin (pins.begin who frame)
named_at who None None = at.LoadCache None
named_at who (Some body) None = at.Held None body

-- once the pin has its reference, the frame's lock is next
abbrev pub pinned_at : Pin → PinAt → HoldAt
pinned_at p (pin_at.Held word) = at.LockFrame p.frame
pinned_at p _ = at.Pin p

abbrev pub pinned : Pin → HoldAt
pinned p = pinned_at p p.at

-- the frame is locked, and this was in its slot
abbrev pub locked_at : Frame → Option BodyValue → HoldAt
locked_at frame None = at.LockFrame frame
locked_at frame (Some body) = at.Held (Some frame) body

abbrev pub next_at : Who → HoldAt → ℕ → Option BodyValue → HoldAt
next_at who at.LockPage found got = cond (is_free found) (at.LoadCache got) at.LockPage
next_at who (at.LoadCache body) found got = named_at who body (frame_in found)
next_at who (at.Pin p) found got = pinned (pins.next p found)
next_at who (at.LockFrame frame) found got = cond (is_free found) (locked_at frame got) (at.LockFrame frame)
next_at who (at.Held frame body) found got = at.Held frame body

abbrev pub next : Hold → ℕ → Option BodyValue → Hold
next h found got = record h { at = next_at h.who h.at found got }

-- the body is there where it is asked for
abbrev pub ShowsAt : HoldAt → ℕ → Option BodyValue → Type 0
ShowsAt (at.LoadCache body) found got = frame_in found ≡ None → is_some body ≡ true
ShowsAt (at.LockFrame frame) found got = is_free found ≡ true → is_some got ≡ true
ShowsAt _ found got = Unit {0}

abbrev pub Shows : Hold → ℕ → Option BodyValue → Type 0
Shows h found got = ShowsAt h.at found got

abbrev pub turn_at : HoldAt → ℕ → Turn
turn_at at.LockPage found = cond (is_free found) Moved (Waits found)
turn_at (at.LoadCache body) found = Moved
turn_at (at.Pin p) found = pins.turn p found
turn_at (at.LockFrame frame) found = cond (is_free found) Moved (Waits found)
turn_at (at.Held frame body) found = Moved

abbrev pub turn : Hold → ℕ → Turn
turn h found = turn_at h.at found

abbrev pub answer_at : HoldAt → Option (Option Frame)
answer_at (at.Held frame body) = Some frame
answer_at _ = None

abbrev pub answer : Hold → Option (Option Frame)
answer h = answer_at h.at

abbrev pub IsBodyAt : HoldAt → BodyValue → Type 0
IsBodyAt (at.Held frame body) result = result ≡ body
IsBodyAt _ result = ⊥

abbrev pub IsBody : Hold → BodyValue → Type 0
IsBody h result = IsBodyAt h.at result

-- the page's lock, where the page is in this frame or in none
abbrev pub page_lock : Page → Option Frame → Option (List ℕ) → PageLock
page_lock page frame trans = record { page = page; resident = is_some frame; cache = Some (frame_name frame); trans = trans }

abbrev pub words_of : Layout → Option Frame → Log → Option (List ℕ)
words_of layout frame log = Some (fitting layout log.page (state_of layout log) (frame_name frame))

-- so many references to the frame, or one, and no other
abbrev pub refs_to : Frame → ℕ → List Ref
refs_to frame count = record { frame = frame; count = count } ∷ []

abbrev pub one_ref : Frame → List Ref
one_ref frame = refs_to frame 1

-- the page alone is locked; what was on its shelf is in hand
abbrev pub locked : Layout → Page → Option Log → ℕ → Hand
locked layout page None seen = record empty { pages = record { page = page; resident = true; cache = None; trans = None } ∷ [] }
locked layout page (Some log) seen = record empty { pages = page_lock page None (words_of layout None log) ∷ []; bodies = body_in None log seen ∷ [] }

-- the page is locked, and its lock lists that it is in the frame
abbrev pub named : Page → Frame → List Ref → Hand
named page frame refs = record empty { pages = page_lock page (Some frame) None ∷ []; refs = refs }

-- the page is locked with its frame, and its body is in hand as it was taken
abbrev pub held : Layout → Page → Option Frame → Log → ℕ → Bool → Bool → Hand
held layout page None log seen handled poisoned = locked layout page (Some log) seen
held layout page (Some frame) log seen handled poisoned = record empty {
  pages = page_lock page (Some frame) (words_of layout (Some frame) log) ∷ [];
  bodies = body_in (Some frame) log seen ∷ [];
  locks = record { frame = frame; owner = page.0 + 1; handled = handled; poisoned = poisoned } ∷ [];
  refs = one_ref frame;
}

-- the page's body, which fits that the page is in this frame or in none
pub record IsBodyOf (layout : Layout) (page : Page) (frame : Option Frame) (body : BodyValue) : Type 0 where
  pub page_is : body.page ≡ page
  pub layout_is : body.layout ≡ layout
  pub cached : not (frame_name frame == 0) ≡ (state_of layout (log_of body)).cached
  pub replay : IsReplay layout page body.log body.state

-- the page is locked, and what was on its shelf is the task's
pub record IsLocked (layout : Layout) (view : View) (page : Page) (body : Option BodyValue) : Type 0 where
  pub seen : ℕ
  pub hand_is : hand_of view ≡ locked layout page (logs body) seen
  pub body_is : (b : BodyValue) → body ≡ Some b → IsBodyOf layout page None b

-- the page is locked, and a reference to its frame is on its way
pub record IsPinning (layout : Layout) (view : View) (who : Who) (page : Page) (p : Pin) : Type 0 where
  pub hand_is : hand_of view ≡ named page p.frame []
  pub pin : pins.Fits layout view p
  pub own : p.who ≡ who
  pub under_way : is_none (pins.plan p) ≡ false

-- the page is held: locked, with the frame that it is in, and its body in hand as it was taken
pub record HoldsPage (layout : Layout) (view : View) (page : Page) (frame : Option Frame) (body : BodyValue) : Type 0 where
  pub seen : ℕ
  pub handled : Bool
  pub poisoned : Bool
  pub hand_is : hand_of view ≡ held layout page frame (log_of body) seen handled poisoned
  pub within : (f : Frame) → frame ≡ Some f → f.0 < layout.frames
  pub body_is : IsBodyOf layout page frame body

-- the command saw the history of the body that is the task's
abbrev pub SawBody : View → Who → Option BodyValue → Type 0
SawBody view who None = Unit {0}
SawBody view who (Some body) = SawLog view who (log_of body)

abbrev pub FitsAt : Layout → View → Who → Page → HoldAt → Type 0
FitsAt layout view who page at.LockPage = hand_of view ≡ empty
FitsAt layout view who page (at.LoadCache body) = IsLocked layout view page body × SawBody view who body
FitsAt layout view who page (at.Pin p) = IsPinning layout view who page p
FitsAt layout view who page (at.LockFrame frame) = (hand_of view ≡ named page frame (one_ref frame)) × (frame.0 < layout.frames)
FitsAt layout view who page (at.Held frame body) = HoldsPage layout view page frame body × SawLog view who (log_of body)

-- the processor holds nothing at first, and then what the task took; the command saw the history of the body that it has
pub record Fits (layout : Layout) (view : View) (h : Hold) : Type 0 where
  pub on_turn : IsOnTurn view h.who
  pub page : h.page.0 < length layout.pages
  pub at : FitsAt layout view h.who h.page h.at

-- 2 while the page is locked, and 1 while its frame is
abbrev pub class_at : HoldAt → ℕ
class_at at.LockPage = 4
class_at (at.Held (Some frame) body) = 1
class_at _ = 2

abbrev pub class : Hold → ℕ
class h = class_at h.at

-- the turns that are left
abbrev pub cost_at : HoldAt → Words → ℕ
cost_at at.LockPage words = 5
cost_at (at.LoadCache body) words = 4
cost_at (at.Pin p) words = pins.cost p words + 1
cost_at (at.LockFrame frame) words = 1
cost_at (at.Held frame body) words = 0

abbrev pub cost : Hold → Words → ℕ
cost h words = cost_at h.at words

-- the task, as the laws of tasks read it
abbrev pub task : Member Hold
task = record {
  who = λ h. h.who;
  plan = plan;
  put = λ h. None;
  bare = λ h. h;
  shows = Shows;
  next = λ layout h found got after result. (after ≡ next h found got) × (result ≡ turn h found);
  fits = Fits;
  class = class;
  cost = cost;
  aborts = λ h. false;
  claims = λ h. None;
}
