-- A reference to a frame: the task's states, its steps and what they come to.
use Rattle.std.specs.Prelude.{◌≡◌, ℕ, ◌+◌, ◌<◌, ◌==◌, ◌||◌, Bool, true, false, cond, Option, Some, None, slice_index}
use Rattle.hwp_core_rule.specs.hwp_geom.declared.Frame.{Frame}
use Rattle.hwp_core_rule.specs.hwp_geom.declared.Layout.{Layout}
use Rattle.hwp_core_rule.specs.hwp_geom.declared.Who.{Who}
use Rattle.hwp_core_rule.specs.hwp_words.Frames.{count_of, is_handled}
use Rattle.hwp_core_rule.specs.declared.SharedWord.TheVariants as places
use Rattle.hwp_core_rule.specs.declared.Step.{Step}
use Rattle.hwp_core_rule.specs.declared.Step.TheVariants as steps
use Rattle.hwp_core_rule.specs.declared.View.{View}
use Rattle.hwp_core_rule.specs.Asks.{HasRefRoom}
use Rattle.hwp_core_rule.specs.Views.{with_refs}
use Rattle.hwp_core_rule.specs.Words.{Words}
use Rattle.hwp_core_rule.specs.declared.Turn.{Turn}
use Rattle.hwp_core_rule.specs.declared.Turn.TheVariants.{Moved, Changed}
use Rattle.hwp_core.specs.declared.pin.Pin.{Pin}
use Rattle.hwp_core.specs.declared.pin.PinAt.{PinAt}
use Rattle.hwp_core.specs.declared.pin.PinAt.TheVariants as at
use Rattle.hwp_core.specs.declared.pin.PinAnswer.{PinAnswer}
use Rattle.hwp_core.specs.declared.pin.PinAnswer.TheVariants as answers
use Rattle.hwp_core_rule.specs.Calls.{IsOnTurn}
use Rattle.hwp_core_rule.specs.Hands.{Hand}
use Rattle.hwp_core_rule.specs.Ranks.{stale}
use Rattle.hwp_core_rule.specs.Turns.{Member}

-- a frame of this word can't be referenced: it is free or in a hand, or out of use
abbrev pub is_gone : ℕ → Bool
is_gone word = (count_of word == 0) || is_handled word

-- what is to do about a word that was shown
abbrev pub at_word : ℕ → PinAt
at_word word = cond (is_gone word) (at.Gone word) (at.Get word)

abbrev pub begin : Who → Frame → Pin
begin who frame = record { who = who; frame = frame; at = at.Load }

abbrev pub plan_at : Frame → PinAt → Option Step
plan_at frame at.Load = Some (steps.Load (places.Frame frame))
plan_at frame (at.Get seen) = Some (steps.GetRef frame seen 1)
plan_at frame (at.Held word) = None
plan_at frame (at.Gone word) = None

abbrev pub plan : Pin → Option Step
plan p = plan_at p.frame p.at

abbrev pub next_at : PinAt → ℕ → PinAt
next_at at.Load found = at_word found
next_at (at.Get seen) found = cond (found == seen) (at.Held seen) (at_word found)
next_at (at.Held word) found = at.Held word
next_at (at.Gone word) found = at.Gone word

abbrev pub next : Pin → ℕ → Pin
next p found = record p { at = next_at p.at found }

abbrev pub turn_at : PinAt → ℕ → Turn
turn_at (at.Get seen) found = cond (found == seen) Moved (Changed found)
turn_at _ found = Moved

abbrev pub turn : Pin → ℕ → Turn
turn p found = turn_at p.at found

abbrev pub answer_at : PinAt → Option PinAnswer
answer_at at.Load = None
answer_at (at.Get seen) = None
answer_at (at.Held word) = Some (answers.Held word)
answer_at (at.Gone word) = Some (answers.Gone word)

abbrev pub answer : Pin → Option PinAnswer
answer p = answer_at p.at

abbrev pub FitsAt : Layout → View → Frame → PinAt → Type 0
FitsAt layout view frame at.Load = HasRefRoom layout view frame 1
FitsAt layout view frame (at.Get seen) = (is_gone seen ≡ false) × HasRefRoom layout view frame 1
FitsAt layout view frame (at.Held word) = is_gone word ≡ false
FitsAt layout view frame (at.Gone word) = is_gone word ≡ true

-- there is room for the reference until it is taken
pub record Fits (layout : Layout) (view : View) (p : Pin) : Type 0 where
  pub on_turn : IsOnTurn view p.who
  pub frame : p.frame.0 < layout.frames
  pub at : FitsAt layout view p.frame p.at

-- what is held after a step: a reference more, where it was taken
abbrev pub hand_next_at : Frame → PinAt → ℕ → Hand → Hand
hand_next_at frame (at.Get seen) found h = cond (found == seen) (record h { refs = with_refs frame 1 h.refs }) h
hand_next_at frame _ found h = h

abbrev pub hand_next : Pin → ℕ → Hand → Hand
hand_next p found h = hand_next_at p.frame p.at found h

-- the turns that are left; the word may have changed since it was seen
abbrev pub cost_at : Frame → PinAt → Words → ℕ
cost_at frame at.Load words = 2
cost_at frame (at.Get seen) words = 1 + stale (slice_index words.frames frame.0 == seen)
cost_at frame (at.Held word) words = 0
cost_at frame (at.Gone word) words = 0

abbrev pub cost : Pin → Words → ℕ
cost p words = cost_at p.frame p.at words

-- the task, as the laws of tasks read it
abbrev pub task : Member Pin
task = record {
  who = λ p. p.who;
  plan = plan;
  put = λ p. None;
  bare = λ p. p;
  shows = λ p found got. Unit {0};
  next = λ layout p found got after result. (after ≡ next p found) × (result ≡ turn p found);
  fits = Fits;
  class = λ p. 4;
  cost = cost;
  aborts = λ p. false;
  claims = λ p. None;
}
