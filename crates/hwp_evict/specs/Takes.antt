-- A free frame taken: the task's states, its steps and what they come to.
use Rattle.std.specs.Prelude.{◌≡◌, ℕ, ◌+◌, ◌-◌, ◌*◌, ◌/◌, ◌^◌, ◌<◌, ◌==◌, nat_lt, Bool, false, not, cond, [], ◌∷◌, ◌++◌, Option, Some, None, length, drop}
use Rattle.std.specs.Int.{w64, trailing_zeros}
use Rattle.std.specs.List.{list_all}
use Rattle.hwp_core.specs.hwp_geom.declared.Frame.{Frame}
use Rattle.hwp_core.specs.hwp_geom.declared.Layout.{Layout}
use Rattle.hwp_core.specs.hwp_geom.declared.Who.{Who}
use Rattle.hwp_core.specs.hwp_page.History.{BodyValue}
use Rattle.hwp_core.specs.hwp_words.Frames.{is_poisoned}
use Rattle.hwp_core.specs.hwp_core_rule.declared.SharedWord.TheVariants as places
use Rattle.hwp_core.specs.hwp_core_rule.declared.Step.{Step}
use Rattle.hwp_core.specs.hwp_core_rule.declared.Step.TheVariants as steps
use Rattle.hwp_core.specs.hwp_core_rule.declared.View.{View}
use Rattle.hwp_core.specs.hwp_core_rule.Asks.{CanRetire, HasInHand, HasRoom}
use Rattle.hwp_core.specs.hwp_core_rule.Steps.{goes}
use Rattle.hwp_core.specs.hwp_core_rule.Views.{with_refs, less_refs, refs_on, without, is_hand_of, is_lock_of, unpoisoned}
use Rattle.hwp_core.specs.hwp_core_rule.Words.{Words, free_words, free_bit}
use Rattle.hwp_core.specs.hwp_core_rule.declared.Turn.{Turn}
use Rattle.hwp_core.specs.hwp_core_rule.declared.Turn.TheVariants.{Moved, Changed}
use Rattle.hwp_core.specs.hwp_core_rule.Calls.{IsOnTurn}
use Rattle.hwp_core.specs.hwp_core_rule.Hands.{Hand}
use Rattle.hwp_core.specs.hwp_core_rule.Ranks.{stale}
use Rattle.hwp_core.specs.hwp_core_rule.Known.{Saw}
use Rattle.hwp_core.specs.hwp_core_rule.Turns.{Member}
use Rattle.hwp_core.specs.Releases.{adopted_lock}
use Rattle.hwp_evict.specs.declared.take.Take.{Take}
use Rattle.hwp_evict.specs.declared.take.TakeAt.{TakeAt}
use Rattle.hwp_evict.specs.declared.take.TakeAt.TheVariants as at
use Rattle.hwp_evict.specs.declared.take.TakeAnswer.{TakeAnswer}
use Rattle.hwp_evict.specs.declared.take.TakeAnswer.TheVariants as answers

-- what is to be done about the number of available frames that was shown
abbrev pub at_available : ℕ → TakeAt
at_available word = cond (word == 0) (at.Over None) (at.Reserve word)

-- the number of the free word that follows, round about
abbrev pub after_word : Layout → ℕ → ℕ
after_word layout number = cond (nat_lt (number + 1) (free_words layout)) (number + 1) 0

-- the lowest frame that is free by the free word of this number
abbrev pub lowest_free : ℕ → ℕ → Frame
lowest_free number word = record { 0 = number * 64 + trailing_zeros w64 word }

-- what is to be done about the free word of this number
abbrev pub at_free : Layout → ℕ → ℕ → TakeAt
at_free layout number word = cond (word == 0) (at.LoadFree (after_word layout number)) (at.TakeBit (lowest_free number word))

-- what is to be done about an adopted frame whose word was this: a poisoned one goes out of use, and another one is looked for
abbrev pub at_adopted : Frame → ℕ → TakeAt
at_adopted frame word = cond (is_poisoned word) (at.Retire frame) (at.Over (Some frame))

-- the free word has the frame's bit
abbrev pub has_bit : Frame → ℕ → Bool
has_bit frame word = goes (steps.TakeBit frame) word

abbrev pub begin : Who → Take
begin who = record { who = who; at = at.LoadAvailable }

abbrev pub plan_at : TakeAt → Option Step
plan_at at.LoadAvailable = Some (steps.Load places.Available)
plan_at (at.Reserve seen) = Some (steps.Reserve seen)
plan_at (at.LoadFree number) = Some (steps.Load (places.Free number))
plan_at (at.TakeBit frame) = Some (steps.TakeBit frame)
plan_at (at.Adopt frame) = Some (steps.Adopt frame)
plan_at (at.Retire frame) = Some (steps.Retire frame)
plan_at (at.Over frame) = None

abbrev pub plan : Take → Option Step
plan t = plan_at t.at

abbrev pub next_at : Layout → TakeAt → ℕ → TakeAt
next_at layout at.LoadAvailable found = at_available found
next_at layout (at.Reserve seen) found = cond (found == seen) (at.LoadFree 0) (at_available found)
next_at layout (at.LoadFree number) found = at_free layout number found
next_at layout (at.TakeBit frame) found = cond (has_bit frame found) (at.Adopt frame) (at.LoadFree (frame.0 / 64))
next_at layout (at.Adopt frame) found = at_adopted frame found
next_at layout (at.Retire frame) found = at.LoadAvailable
next_at layout (at.Over frame) found = at.Over frame

abbrev pub next : Layout → Take → ℕ → Take
next layout t found = record t { at = next_at layout t.at found }

abbrev pub turn_at : TakeAt → ℕ → Turn
turn_at (at.Reserve seen) found = cond (found == seen) Moved (Changed found)
turn_at (at.TakeBit frame) found = cond (has_bit frame found) Moved (Changed found)
turn_at _ found = Moved

abbrev pub turn : Take → ℕ → Turn
turn t found = turn_at t.at found

-- a free word is one of the 2^10 that any layout has at most; no step brings a body
abbrev pub ShowsAt : TakeAt → ℕ → Type 0
ShowsAt (at.LoadFree number) found = number < 2 ^ 10
ShowsAt _ found = Unit {0}

abbrev pub Shows : Take → ℕ → Option BodyValue → Type 0
Shows t found got = ShowsAt t.at found × (got ≡ None)

abbrev pub answer_of : Option Frame → TakeAnswer
answer_of None = answers.NoFrame
answer_of (Some frame) = answers.Taken frame

abbrev pub answer_at : TakeAt → Option TakeAnswer
answer_at (at.Over frame) = Some (answer_of frame)
answer_at _ = None

abbrev pub answer : Take → Option TakeAnswer
answer t = answer_at t.at

-- the view can lock one frame more
abbrev pub HasLockRoom : View → Type 0
HasLockRoom view = length view.locks < 2

abbrev pub FitsAt : Layout → View → Who → TakeAt → Type 0
FitsAt layout view who at.LoadAvailable = HasRoom view × HasLockRoom view
FitsAt layout view who (at.Reserve seen) = (0 < seen) × (HasRoom view × HasLockRoom view)
FitsAt layout view who (at.LoadFree number) = (number < free_words layout) × ((0 < view.reserved) × HasLockRoom view)
FitsAt layout view who (at.TakeBit frame) = (frame.0 < layout.frames) × ((0 < view.reserved) × HasLockRoom view)
FitsAt layout view who (at.Adopt frame) = (frame.0 < layout.frames) × (HasInHand view frame × HasLockRoom view)
FitsAt layout view who (at.Retire frame) = (frame.0 < layout.frames) × (CanRetire view frame None × (refs_on frame.0 view.refs ≡ 1))
FitsAt layout view who (at.Over None) = Saw view who places.Available 0
FitsAt layout view who (at.Over (Some frame)) = frame.0 < layout.frames

-- there is room for the frame until it is reserved, and for its lock until it is locked; a poisoned frame has one reference, which
-- goes as it is retired; where none is taken, the command saw that none was available
pub record Fits (layout : Layout) (view : View) (t : Take) : Type 0 where
  pub on_turn : IsOnTurn view t.who
  pub at : FitsAt layout view t.who t.at

-- what is held after a step: a reservation, then the frame in hand, then its lock and one reference, which a poisoned frame loses
abbrev pub hand_next_at : TakeAt → ℕ → Hand → Hand
hand_next_at (at.Reserve seen) found h = cond (found == seen) (record h { reserved = h.reserved + 1 }) h
hand_next_at (at.TakeBit frame) found h = cond (has_bit frame found) (record h { reserved = h.reserved - 1; hands = h.hands ++ unpoisoned frame ∷ [] }) h
hand_next_at (at.Adopt frame) found h =
    record h { hands = without (is_hand_of frame) h.hands; refs = with_refs frame 1 h.refs; locks = h.locks ++ adopted_lock frame (is_poisoned found) ∷ [] }
hand_next_at (at.Retire frame) found h = record h { locks = without (is_lock_of frame) h.locks; refs = less_refs frame 1 h.refs }
hand_next_at _ found h = h

abbrev pub hand_next : Take → ℕ → Hand → Hand
hand_next t found h = hand_next_at t.at found h

abbrev pub class_at : TakeAt → ℕ
class_at at.LoadAvailable = 4
class_at (at.Reserve seen) = 4
class_at (at.Over None) = 4
class_at _ = 1

abbrev pub class : Take → ℕ
class t = class_at t.at

-- the free words from this number on are 0
abbrev pub are_empty : ℕ → Words → Bool
are_empty number words = list_all (λ (w : ℕ). w == 0) (drop number words.frees)

-- the turns that are left, where no word changes; n is the number of free words
abbrev pub cost_at : ℕ → TakeAt → Words → ℕ
cost_at n at.LoadAvailable words = n + 6
cost_at n (at.Reserve seen) words = n + 5 + stale (words.available == seen)
cost_at n (at.LoadFree number) words = n - number + 3 + stale (not (are_empty number words))
cost_at n (at.TakeBit frame) words = 3 + stale (free_bit words.frees frame.0 == 1) + stale (not (are_empty (frame.0 / 64) words))
cost_at n (at.Adopt frame) words = 2
cost_at n (at.Retire frame) words = 1
cost_at n (at.Over frame) words = 0

abbrev pub cost : Take → Words → ℕ
cost t words = cost_at (length words.frees) t.at words

-- the task, as the laws of tasks read it
abbrev pub task : Member Take
task = record {
  who = λ t. t.who;
  plan = plan;
  put = λ t. None;
  bare = λ t. t;
  shows = Shows;
  next = λ layout t found got after result. (after ≡ next layout t found) × (result ≡ turn t found);
  fits = Fits;
  class = class;
  cost = cost;
  aborts = λ t. false;
  claims = λ t. None;
}
