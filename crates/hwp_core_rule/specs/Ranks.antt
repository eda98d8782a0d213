-- The law by which tasks come to an end: each turn lowers a task's cost, or waits for what another processor holds.
use Rattle.std.specs.Prelude.{◌≡◌, ◌≢◌, ℕ, ◌+◌, ◌-◌, ◌*◌, ◌^◌, ◌<◌, ◌≤◌, ◌⊎◌, Bool, true, false, cond, [], Option, Some, None, slice_index}
use Rattle.std.specs.List.{sum_by}
use Rattle.hwp_page.specs.hwp_geom.declared.Frame.{Frame}
use Rattle.hwp_page.specs.hwp_geom.declared.Layout.{Layout}
use Rattle.hwp_page.specs.History.{BodyValue}
use Rattle.hwp_words.specs.Frames.{is_poisoned, is_handled, is_kernel, poison_of, handled_of, cycle_of}
use Rattle.hwp_core_rule.specs.declared.record.State.{State}
use Rattle.hwp_core_rule.specs.declared.step.Step.{Step}
use Rattle.hwp_core_rule.specs.declared.view.View.{View}
use Rattle.hwp_core_rule.specs.Moves.{Move}
use Rattle.hwp_core_rule.specs.Rule.{Holds}
use Rattle.hwp_core_rule.specs.Lasting.{LeavesPoison, IsMild}
use Rattle.hwp_core_rule.specs.Words.{Words, words_of}
use Rattle.hwp_core_rule.specs.declared.turn.Turn.{Turn}
use Rattle.hwp_core_rule.specs.declared.turn.Turn.TheVariants as turns
use Rattle.hwp_core_rule.specs.Boards.{view_of}
use Rattle.hwp_core_rule.specs.Calls.{Brings, logs, rec_of}
use Rattle.hwp_core_rule.specs.Turns.{Member}

-- the turn waits for what another processor holds
abbrev pub is_waits : Turn → Bool
is_waits (turns.Waits word) = true
is_waits turn = false

-- memory is refused
abbrev pub is_refused : Turn → Bool
is_refused turns.NoMemory = true
is_refused turn = false

-- no more translations than this, of whatever page
abbrev pub translation_room : ℕ
translation_room = 4096

-- no more words of the free frames' bits
abbrev pub free_room : ℕ
free_room = 64

-- each frame may fail once, and be seen to once
abbrev pub failure_room : ℕ
failure_room = 8192

abbrev pub cpu_room : ℕ
cpu_room = 16

-- the turns of a pass over a page's translations, with those that end it
abbrev pub pass : ℕ
pass = translation_room + 8

-- what a test that fails adds to a cost: more than all turns that it can bring again
abbrev pub stale_weight : ℕ
stale_weight = 65536

abbrev pub stale : Bool → ℕ
stale test = cond test 0 stale_weight

-- a frame is taken in no more turns, with the weights of the two words that may have changed
abbrev pub take_most : ℕ
take_most = 2 * stale_weight + free_room + 8

-- and an access begins again and makes a fault
abbrev pub again_most : ℕ
again_most = stale_weight + free_room + 20

-- and an access with all that may have changed
abbrev pub access_most : ℕ
access_most = 3 * stale_weight + free_room + 15

-- more than all turns of a command, with what a frame's poison that is taken back adds to them
abbrev pub command_weight : ℕ
command_weight = 2 ^ 36

-- more than all costs
abbrev pub top : ℕ
top = 2 ^ 49

-- the view has a frame's lock, a frame in hand or a reservation; a frame in hand; a page's lock
abbrev pub HasFrame : View → Type 0
HasFrame v = (v.locks ≢ []) ⊎ (v.hands ≢ []) ⊎ (v.reserved ≢ 0)

abbrev pub HasHand : View → Type 0
HasHand v = v.hands ≢ []

abbrev pub HasPage : View → Type 0
HasPage v = v.pages ≢ []

abbrev pub words_at : Layout → State → Words
words_at layout s = words_of layout s.words

-- the failure of a frame, in a cycle of it, isn't ended
pub record Pending (w : Words) (frame : Frame) (cycle : ℕ) : Type 0 where
  pub poisoned : is_poisoned (slice_index w.frames frame.0) ≡ true
  pub handled : is_handled (slice_index w.frames frame.0) ≡ false
  pub kernel : is_kernel (slice_index w.frames frame.0) ≡ false
  pub cycle_is : cycle_of (slice_index w.frames frame.0) ≡ cycle

-- what the others hold, where all that aren't finished have at least this class
pub record Quiet (class : ℕ) (layout : Layout) (a : State) (seat : ℕ) : Type 0 where
  pub frames : 2 ≤ class → (i : ℕ) → i ≢ seat → HasFrame (view_of a i) → ⊥
  pub pages : 3 ≤ class → (i : ℕ) → i ≢ seat → HasPage (view_of a i) → ⊥
  pub failures : 4 ≤ class → (frame : Frame) (cycle : ℕ) → Pending (words_at layout a) frame cycle → ⊥

-- another has a frame in hand
pub record OtherHand (a : State) (seat : ℕ) : Type 0 where
  pub other : ℕ
  pub differs : other ≢ seat
  pub has : HasHand (view_of a other)

-- a step of a task was made on a board that keeps the rule before and after, by a seat whose view the task fits
pub record Made {S : Type 0} (m : Member S) (layout : Layout) (seat : ℕ) (a b : State) (before after : S) (turn : Turn) : Type 0 where
  pub step : Step
  pub found : ℕ
  pub got : Option BodyValue
  pub rule : Holds layout a
  pub kept : Holds layout b
  pub fits : m.fits layout (view_of a seat) before
  pub planned : m.plan before ≡ Some step
  pub move : Move layout seat (rec_of layout (m.who before) step (logs (m.put before)) found got) a b
  pub brings : Brings layout step found got
  pub follows : m.next layout (m.bare before) found got after turn

-- the frames without POISON, and those without HANDLED
abbrev pub failures_left : Words → ℕ
failures_left w = sum_by (λ (f : ℕ). (1 - poison_of f) + (1 - handled_of f)) w.frames

-- by what a turn that poisons a frame, or makes one handled, may raise its task's cost
abbrev pub failure_weight : ℕ
failure_weight = 1048576

-- the turn poisoned a frame or made one handled; its task may have begun again, at a cost that has a bound
pub record HasFailed {S : Type 0} (m : Member S) (layout : Layout) (a b : State) (before after : S) : Type 0 where
  pub fewer : failures_left (words_at layout b) < failures_left (words_at layout a)
  pub bounded : m.cost after (words_at layout b) < m.cost before (words_at layout a) + failure_weight

-- the turn lowers the cost
abbrev pub CostFalls : {S : Type 0} → Member S → Layout → State → State → S → S → Type 0
CostFalls m layout a b before after = m.cost after (words_at layout b) < m.cost before (words_at layout a)

-- a turn leaves no more frames to fail, or lowers the cost by more than what is left to fail may add to it
abbrev pub PaysRevival : {S : Type 0} → Member S → Type 0
PaysRevival {S} m = (layout : Layout) (seat : ℕ) (a b : State) (s t : S) (turn : Turn) → Made m layout seat a b s t turn
    → (failures_left (words_at layout b) ≤ failures_left (words_at layout a))
    ⊎ (m.cost t (words_at layout b) + failure_weight * failures_left (words_at layout b) < m.cost s (words_at layout a) + failure_weight * failures_left (words_at layout a))

-- what a task plans takes no frame's poison back
abbrev pub PlansLasting : {S : Type 0} → Member S → Type 0
PlansLasting {S} m = (s : S) (step : Step) → m.plan s ≡ Some step → LeavesPoison step

-- what a task plans neither poisons a frame nor takes its poison back
abbrev pub PlansMild : {S : Type 0} → Member S → Type 0
PlansMild {S} m = (s : S) (step : Step) → m.plan s ≡ Some step → IsMild step

-- The law of the rank. A class is 1 to 4, and costs are small. A turn that doesn't wait lowers the cost, or leaves fewer
-- frames to fail; one that waits lowers it, where the others hold nothing that it can wait for, or else it gives up what it has begun because another has the frame
-- in hand. Whoever gives up leaves class 1. A failure that isn't ended stays the claim of a task, as long as memory isn't refused, with which the run ends.
pub record IsRanked {S : Type 0} (m : Member S) : Type 0 where
  pub classes : (s : S) → (1 ≤ m.class s) × (m.class s ≤ 4)
  pub small : (layout : Layout) (a : State) (seat : ℕ) (s : S) → Holds layout a → m.fits layout (view_of a seat) s → m.cost s (words_at layout a) < top
  pub falls : (layout : Layout) (seat : ℕ) (a b : State) (s t : S) (turn : Turn) → Made m layout seat a b s t turn → is_waits turn ≡ false → CostFalls m layout a b s t ⊎ HasFailed m layout a b s t
  pub waits : (layout : Layout) (seat : ℕ) (a b : State) (s t : S) (turn : Turn) → Made m layout seat a b s t turn → is_waits turn ≡ true → Quiet (m.class s) layout a seat
      → CostFalls m layout a b s t ⊎ ((m.aborts t ≡ true) × OtherHand a seat)
  pub leaves : (layout : Layout) (seat : ℕ) (a b : State) (s t : S) (turn : Turn) → Made m layout seat a b s t turn → m.aborts s ≡ true → (m.plan t ≡ None) ⊎ (1 < m.class t)
  pub owns : (layout : Layout) (seat : ℕ) (a b : State) (s t : S) (turn : Turn) (frame : Frame) (cycle : ℕ) → Made m layout seat a b s t turn → is_refused turn ≡ false → Pending (words_at layout b) frame cycle
      → (m.claims t ≡ Some (frame, cycle)) ⊎ (Pending (words_at layout a) frame cycle × (m.claims s ≢ Some (frame, cycle)))
