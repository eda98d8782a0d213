-- A translation brought into use: the task's states, its steps and what they come to.
use Rattle.std.specs.Prelude.{◌≡◌, ◌⊎◌, ℕ, ◌+◌, ◌-◌, ◌<◌, Bool, true, false, List, [], ◌∷◌, ◌++◌, Option, Some, None, is_none, length, drop, slice_get}
use Rattle.hwp_page.specs.hwp_geom.declared.Frame.{Frame}
use Rattle.hwp_page.specs.hwp_geom.declared.Layout.{Layout}
use Rattle.hwp_page.specs.hwp_geom.declared.Page.{Page}
use Rattle.hwp_page.specs.hwp_geom.declared.VSlot.{VSlot}
use Rattle.hwp_page.specs.hwp_geom.declared.Who.{Who}
use Rattle.hwp_page.specs.declared.Entry.{Entry}
use Rattle.hwp_page.specs.declared.What.TheVariants.{FaultIn, Map}
use Rattle.hwp_page.specs.History.{BodyValue, Leads}
use Rattle.hwp_page.specs.Step.{Allowed, after}
use Rattle.hwp_core.specs.hwp_words.declared.Pte.TheVariants as ptes
use Rattle.hwp_core.specs.hwp_words.Names.{frame_name}
use Rattle.hwp_core.specs.hwp_core_rule.declared.Log.{Log}
use Rattle.hwp_core.specs.hwp_core_rule.declared.Step.{Step}
use Rattle.hwp_core.specs.hwp_core_rule.declared.Step.TheVariants as steps
use Rattle.hwp_core.specs.hwp_core_rule.declared.View.{View}
use Rattle.hwp_core.specs.hwp_core_rule.Lists.{EachMember}
use Rattle.hwp_core.specs.hwp_core_rule.Logs.{log_of, state_of}
use Rattle.hwp_core.specs.hwp_core_rule.Words.{Words}
use Rattle.hwp_core.specs.hwp_core_rule.parts.Fits.{FitsWords}
use Rattle.hwp_core.specs.hwp_core_rule.declared.Turn.{Turn}
use Rattle.hwp_core.specs.hwp_core_rule.declared.Turn.TheVariants.{Moved}
use Rattle.hwp_core.specs.hwp_core_rule.Calls.{IsOnTurn}
use Rattle.hwp_core.specs.hwp_core_rule.Hands.{hand_of, body_in}
use Rattle.hwp_core.specs.hwp_core_rule.Turns.{Member}
use Rattle.hwp_core.specs.declared.Refer.{Refer}
use Rattle.hwp_core.specs.declared.refer.ReferAt.{ReferAt}
use Rattle.hwp_core.specs.declared.refer.ReferAt.TheVariants as refer_at
use Rattle.hwp_core.specs.Refers as refers
use Rattle.hwp_core.specs.Unholds.{holding}
use Rattle.hwp_fault.specs.declared.map_in.MapIn.{MapIn}
use Rattle.hwp_fault.specs.declared.map_in.MapInAt.{MapInAt}
use Rattle.hwp_fault.specs.declared.map_in.MapInAt.TheVariants as at

abbrev pub begin : Who → Page → VSlot → Frame → BodyValue → MapIn
begin who page slot frame body = record { who = who; page = page; slot = slot; frame = frame; body = body; at = at.Refer (refers.begin who frame 1) }

abbrev pub plan_at : VSlot → Frame → MapInAt → Option Step
plan_at slot frame (at.Refer r) = refers.plan r
plan_at slot frame at.SetPte = Some (steps.SetPte slot (ptes.At frame))
plan_at slot frame at.Over = None

abbrev pub plan : MapIn → Option Step
plan m = plan_at m.slot m.frame m.at

abbrev pub is_over_at : MapInAt → Bool
is_over_at at.Over = true
is_over_at _ = false

abbrev pub is_over : MapIn → Bool
is_over m = is_over_at m.at

-- once the second reference is taken, the translation is to lead to the frame
abbrev pub after_refer_at : Refer → ReferAt → MapInAt
after_refer_at r refer_at.Over = at.SetPte
after_refer_at r _ = at.Refer r

abbrev pub after_refer : Refer → MapInAt
after_refer r = after_refer_at r r.at

abbrev pub next_at : MapInAt → ℕ → MapInAt
next_at (at.Refer r) found = after_refer (refers.next r found)
next_at at.SetPte found = at.Over
next_at at.Over found = at.Over

-- the body with the entry that the translation came into use
abbrev pub mapped : Who → VSlot → BodyValue → BodyValue
mapped who slot body = record body { state = after body.state (Map slot); log = body.log ++ (record { who = who; what = Map slot }) ∷ []; spare = body.spare - 1 }

abbrev pub body_next : Who → VSlot → MapInAt → BodyValue → BodyValue
body_next who slot at.SetPte body = mapped who slot body
body_next who slot _ body = body

abbrev pub next : MapIn → ℕ → MapIn
next m found = record m { body = body_next m.who m.slot m.at m.body; at = next_at m.at found }

abbrev pub turn_at : MapInAt → ℕ → Turn
turn_at (at.Refer r) found = refers.turn r found
turn_at _ found = Moved

abbrev pub turn : MapIn → ℕ → Turn
turn m found = turn_at m.at found

-- the body has room for the entry, which its state allows
pub record HasRoomFor (slot : VSlot) (body : BodyValue) : Type 0 where
  pub spare : 0 < body.spare
  pub allowed : Allowed body.layout body.page body.state (Map slot)

abbrev pub ShowsAt : VSlot → BodyValue → MapInAt → Type 0
ShowsAt slot body at.SetPte = HasRoomFor slot body
ShowsAt slot body _ = Unit {0}

abbrev pub Shows : MapIn → Type 0
Shows m = ShowsAt m.slot m.body m.at

-- the entry brings the page in, or the translation into use
abbrev pub IsBringing : VSlot → Entry → Type 0
IsBringing slot e = (e.what ≡ FaultIn) ⊎ (e.what ≡ Map slot)

-- the entries of a history past those of one before
abbrev pub added : Log → Log → List Entry
added was now = drop (length was.entries) now.entries

-- the history goes on from one before with entries of this command that the states allow, and that bring the page in, or the
-- translation into use
pub record BringsOn (layout : Layout) (who : Who) (slot : VSlot) (was now : Log) : Type 0 where
  pub page_is : now.page ≡ was.page
  pub longer : now.entries ≡ was.entries ++ added was now
  pub leads : Leads layout now.page (state_of layout was) (added was now) (state_of layout now)
  pub own : EachMember (λ (e : Entry). e.who ≡ who) (added was now)
  pub only : EachMember (IsBringing slot) (added was now)

-- the page is held with the frame that it is in, and so many references to it; its body, taken from a frame or from the shelf,
-- can go home with the entries that it has now
pub record HoldsWithFrame (layout : Layout) (view : View) (who : Who) (page : Page) (slot : VSlot) (frame : Frame) (count : ℕ) (body : BodyValue) : Type 0 where
  pub from : Option Frame
  pub was : Log
  pub seen : ℕ
  pub trans : List ℕ
  pub handled : Bool
  pub poisoned : Bool
  pub hand_is : hand_of view ≡ holding page (Some frame) count trans (body_in from was seen) handled poisoned
  pub brings : BringsOn layout who slot was (log_of body)
  pub words : FitsWords layout (log_of body) (frame_name (Some frame)) trans
  pub page_is : body.page ≡ page
  pub layout_is : body.layout ≡ layout
  pub within : frame.0 < layout.frames

-- and the translation, which isn't in use, can come into use
pub record CanMapIn (layout : Layout) (view : View) (who : Who) (page : Page) (slot : VSlot) (frame : Frame) (count : ℕ) (body : BodyValue) : Type 0 where
  pub held : HoldsWithFrame layout view who page slot frame count body
  pub state_is : state_of layout (log_of body) ≡ body.state
  pub room : HasRoomFor slot body

-- the second reference is being taken
pub record IsReferring (layout : Layout) (view : View) (who : Who) (page : Page) (slot : VSlot) (frame : Frame) (body : BodyValue) (r : Refer) : Type 0 where
  pub ready : CanMapIn layout view who page slot frame 1 body
  pub refer : refers.Fits layout view r
  pub own : r.who ≡ who
  pub of : r.frame ≡ frame
  pub count : r.count ≡ 1
  pub under_way : is_none (refers.plan r) ≡ false

-- it is taken, and the page's lock lists that the translation leads nowhere
pub record IsReferred (layout : Layout) (view : View) (who : Who) (page : Page) (slot : VSlot) (frame : Frame) (body : BodyValue) : Type 0 where
  pub ready : CanMapIn layout view who page slot frame 2 body
  pub empty : slice_get ready.held.trans slot.0 ≡ Some 0

abbrev pub FitsAt : Layout → View → Who → Page → VSlot → Frame → BodyValue → MapInAt → Type 0
FitsAt layout view who page slot frame body (at.Refer r) = IsReferring layout view who page slot frame body r
FitsAt layout view who page slot frame body at.SetPte = IsReferred layout view who page slot frame body
FitsAt layout view who page slot frame body at.Over = HoldsWithFrame layout view who page slot frame 1 body

-- the page is held with its frame; there is room for the entry until it is appended
pub record Fits (layout : Layout) (view : View) (m : MapIn) : Type 0 where
  pub on_turn : IsOnTurn view m.who
  pub page : m.page.0 < length layout.pages
  pub at : FitsAt layout view m.who m.page m.slot m.frame m.body m.at

-- the turns that are left, where no word changes
abbrev pub cost_at : MapInAt → Words → ℕ
cost_at (at.Refer r) words = refers.cost r words + 1
cost_at at.SetPte words = 1
cost_at at.Over words = 0

abbrev pub cost : MapIn → Words → ℕ
cost m words = cost_at m.at words

-- the task, as the laws of tasks read it
abbrev pub task : Member MapIn
task = record {
  who = λ m. m.who;
  plan = plan;
  put = λ m. None;
  bare = λ m. m;
  shows = λ m found got. Shows m;
  next = λ layout m found got after result. (after ≡ next m found) × (result ≡ turn m found);
  fits = Fits;
  class = λ m. 1;
  cost = cost;
  aborts = λ m. false;
  claims = λ m. None;
}
