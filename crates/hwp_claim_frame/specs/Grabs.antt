-- A frame taken out of the free ones: the task's states, its steps and what they come to.
use Rattle.std.specs.Prelude.{◌≡◌, ℕ, ◌+◌, ◌*◌, ◌-◌, ◌<◌, ◌==◌, Bool, true, false, cond, [], ◌∷◌, ◌++◌, Option, Some, None, slice_get, slice_index}
use Rattle.hwp_core.specs.hwp_geom.declared.Frame.{Frame}
use Rattle.hwp_core.specs.hwp_geom.declared.Layout.{Layout}
use Rattle.hwp_core.specs.hwp_geom.declared.Who.{Who}
use Rattle.hwp_core.specs.hwp_words.Frames.{count_of, is_poisoned}
use Rattle.hwp_core.specs.hwp_core_rule.declared.SharedWord.TheVariants as places
use Rattle.hwp_core.specs.hwp_core_rule.declared.Step.{Step}
use Rattle.hwp_core.specs.hwp_core_rule.declared.Step.TheVariants as steps
use Rattle.hwp_core.specs.hwp_core_rule.declared.View.{View}
use Rattle.hwp_core.specs.hwp_core_rule.Steps.{goes}
use Rattle.hwp_core.specs.hwp_core_rule.Views.{with_refs, without, is_hand_of, unpoisoned}
use Rattle.hwp_core.specs.hwp_core_rule.Words.{Words}
use Rattle.hwp_core.specs.hwp_core_rule.parts.Places.{IsBare}
use Rattle.hwp_core.specs.hwp_core_rule.declared.Turn.{Turn}
use Rattle.hwp_core.specs.hwp_core_rule.declared.Turn.TheVariants.{Moved, Changed, Waits}
use Rattle.hwp_core.specs.hwp_core_rule.Calls.{IsOnTurn}
use Rattle.hwp_core.specs.hwp_core_rule.Hands.{Hand, hand_of, empty}
use Rattle.hwp_core.specs.hwp_core_rule.Ranks.{stale, stale_weight}
use Rattle.hwp_core.specs.hwp_core_rule.Known.{SawAdopted}
use Rattle.hwp_core.specs.hwp_core_rule.Turns.{Member}
use Rattle.hwp_core.specs.Releases.{adopted_lock}
use Rattle.hwp_claim_frame.specs.declared.grab.Grab.{Grab}
use Rattle.hwp_claim_frame.specs.declared.grab.GrabAt.{GrabAt}
use Rattle.hwp_claim_frame.specs.declared.grab.GrabAt.TheVariants as at
use Rattle.hwp_claim_frame.specs.declared.grab.GrabAnswer.{GrabAnswer}
use Rattle.hwp_claim_frame.specs.declared.grab.GrabAnswer.TheVariants as answers

-- what is to be done about the number of available frames that was shown
abbrev pub at_available : ℕ → GrabAt
at_available word = cond (word == 0) at.LookAgain (at.Reserve word)

-- the free word has the frame's bit
abbrev pub has_bit : Frame → ℕ → Bool
has_bit frame word = goes (steps.TakeBit frame) word

abbrev pub begin : Who → Frame → Grab
begin who frame = record { who = who; frame = frame; at = at.LoadAvailable }

abbrev pub plan_at : Frame → GrabAt → Option Step
plan_at frame at.LoadAvailable = Some (steps.Load places.Available)
plan_at frame (at.Reserve seen) = Some (steps.Reserve seen)
plan_at frame at.TakeBit = Some (steps.TakeBit frame)
plan_at frame at.Unreserve = Some steps.Unreserve
plan_at frame at.Adopt = Some (steps.Adopt frame)
plan_at frame at.LookAgain = None
plan_at frame (at.Grabbed word) = None

abbrev pub plan : Grab → Option Step
plan g = plan_at g.frame g.at

abbrev pub next_at : Frame → GrabAt → ℕ → GrabAt
next_at frame at.LoadAvailable found = at_available found
next_at frame (at.Reserve seen) found = cond (found == seen) at.TakeBit (at_available found)
next_at frame at.TakeBit found = cond (has_bit frame found) at.Adopt at.Unreserve
next_at frame at.Unreserve found = at.LookAgain
next_at frame at.Adopt found = at.Grabbed found
next_at frame at.LookAgain found = at.LookAgain
next_at frame (at.Grabbed word) found = at.Grabbed word

abbrev pub next : Grab → ℕ → Grab
next g found = record g { at = next_at g.frame g.at found }

-- no frame available, or the frame's bit gone: the turn waits
abbrev pub turn_at : Frame → GrabAt → ℕ → Turn
turn_at frame at.LoadAvailable found = cond (found == 0) (Waits found) Moved
turn_at frame (at.Reserve seen) found = cond (found == seen) Moved (Changed found)
turn_at frame at.TakeBit found = cond (has_bit frame found) Moved (Waits found)
turn_at frame _ found = Moved

abbrev pub turn : Grab → ℕ → Turn
turn g found = turn_at g.frame g.at found

abbrev pub answer_at : GrabAt → Option GrabAnswer
answer_at at.LookAgain = Some answers.LookAgain
answer_at (at.Grabbed word) = Some (answers.Grabbed word)
answer_at _ = None

abbrev pub answer : Grab → Option GrabAnswer
answer g = answer_at g.at

-- what is held: nothing at first; a reservation; the frame in hand; and its lock and one reference
abbrev pub reserving : Hand
reserving = record empty { reserved = 1 }

abbrev pub handed : Frame → Hand
handed frame = record empty { hands = unpoisoned frame ∷ [] }

abbrev pub grabbed : Frame → Bool → Hand
grabbed frame poisoned = record empty { refs = record { frame = frame; count = 1 } ∷ []; locks = adopted_lock frame poisoned ∷ [] }

abbrev pub held_at : Frame → GrabAt → Hand
held_at frame at.LoadAvailable = empty
held_at frame (at.Reserve seen) = empty
held_at frame at.TakeBit = reserving
held_at frame at.Unreserve = reserving
held_at frame at.Adopt = handed frame
held_at frame at.LookAgain = empty
held_at frame (at.Grabbed word) = grabbed frame (is_poisoned word)

-- the word of a frame that was grabbed is the one that the command met as it adopted the frame; it had no reference, no owner and no
-- lock, and wasn't handled
pub record WasFree (view : View) (who : Who) (frame : Frame) (word : ℕ) : Type 0 where
  pub saw : SawAdopted view who frame word
  pub bare : IsBare word
  pub uncounted : count_of word ≡ 0

abbrev pub KnowsAt : View → Who → Frame → GrabAt → Type 0
KnowsAt view who frame (at.Reserve seen) = 0 < seen
KnowsAt view who frame (at.Grabbed word) = WasFree view who frame word
KnowsAt view who frame at = Unit {0}

-- the frame is one that can be free; the processor holds what the task took, and nothing else
pub record Fits (layout : Layout) (view : View) (g : Grab) : Type 0 where
  pub on_turn : IsOnTurn view g.who
  pub frame : g.frame.0 < layout.frames
  pub users : slice_get layout.kernel g.frame.0 ≡ Some false
  pub held : hand_of view ≡ held_at g.frame g.at
  pub knows : KnowsAt view g.who g.frame g.at

-- what is held after a step
abbrev pub hand_next_at : Frame → GrabAt → ℕ → Hand → Hand
hand_next_at frame (at.Reserve seen) found h = cond (found == seen) (record h { reserved = h.reserved + 1 }) h
hand_next_at frame at.TakeBit found h = cond (has_bit frame found) (record h { reserved = h.reserved - 1; hands = h.hands ++ unpoisoned frame ∷ [] }) h
hand_next_at frame at.Unreserve found h = record h { reserved = h.reserved - 1 }
hand_next_at frame at.Adopt found h =
    record h { hands = without (is_hand_of frame) h.hands; refs = with_refs frame 1 h.refs; locks = h.locks ++ adopted_lock frame (is_poisoned found) ∷ [] }
hand_next_at frame _ found h = h

abbrev pub hand_next : Grab → ℕ → Hand → Hand
hand_next g found h = hand_next_at g.frame g.at found h

abbrev pub class_at : GrabAt → ℕ
class_at at.LoadAvailable = 4
class_at (at.Reserve seen) = 4
class_at at.LookAgain = 4
class_at _ = 1

abbrev pub class : Grab → ℕ
class g = class_at g.at

-- the reservation goes back because another processor may have the frame in hand
abbrev pub aborts_at : GrabAt → Bool
aborts_at at.Unreserve = true
aborts_at _ = false

abbrev pub aborts : Grab → Bool
aborts g = aborts_at g.at

-- the frame's word shows no reference
abbrev pub is_idle : Frame → Words → Bool
is_idle frame words = count_of (slice_index words.frames frame.0) == 0

-- the turns that are left, where no word changes: `rest` are those once the frame is grabbed, `back` those where its word is looked at
-- again
abbrev pub cost_with : ℕ → ℕ → Frame → GrabAt → Words → ℕ
cost_with rest back frame at.LoadAvailable words = rest + 4 + stale (is_idle frame words)
cost_with rest back frame (at.Reserve seen) words = rest + 3 + stale (is_idle frame words) + stale (words.available == seen)
cost_with rest back frame at.TakeBit words = rest + 2 + stale (is_idle frame words)
cost_with rest back frame at.Unreserve words = back + 1
cost_with rest back frame at.Adopt words = rest + 1
cost_with rest back frame at.LookAgain words = back
cost_with rest back frame (at.Grabbed word) words = rest

abbrev pub cost : Grab → Words → ℕ
cost g words = cost_with 0 0 g.frame g.at words

-- over what follows, it is no more than this
abbrev pub grab_most : ℕ
grab_most = 2 * stale_weight + 4

-- the task, as the laws of tasks read it
abbrev pub task : Member Grab
task = record {
  who = λ g. g.who;
  plan = plan;
  put = λ g. None;
  bare = λ g. g;
  shows = λ g found got. Unit {0};
  next = λ layout g found got after result. (after ≡ next g found) × (result ≡ turn g found);
  fits = Fits;
  class = class;
  cost = cost;
  aborts = aborts;
  claims = λ g. None;
}
