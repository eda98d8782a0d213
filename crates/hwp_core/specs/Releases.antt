-- References given back: the task's states, its steps and what they come to.
use Rattle.std.specs.Prelude.{Bool, ◌≡◌, ℕ, ◌+◌, ◌-◌, ◌<◌, ◌≤◌, ◌&&◌, true, false, cond, [], ◌∷◌, ◌++◌, Option, Some, None, length}
use Rattle.hwp_core_rule.specs.hwp_geom.declared.Frame.{Frame}
use Rattle.hwp_core_rule.specs.hwp_geom.declared.Layout.{Layout}
use Rattle.hwp_core_rule.specs.hwp_geom.declared.Who.{Who}
use Rattle.hwp_core_rule.specs.hwp_words.Frames.{is_poisoned}
use Rattle.hwp_core_rule.specs.declared.FrameInHand.{FrameInHand}
use Rattle.hwp_core_rule.specs.declared.FrameLock.{FrameLock}
use Rattle.hwp_core_rule.specs.declared.Step.{Step}
use Rattle.hwp_core_rule.specs.declared.Step.TheVariants as steps
use Rattle.hwp_core_rule.specs.declared.View.{View}
use Rattle.hwp_core_rule.specs.declared.Turn.TheVariants.{Moved}
use Rattle.hwp_core_rule.specs.Asks.{HasInHand, CanRetire}
use Rattle.hwp_core_rule.specs.Lists.{SomeMember}
use Rattle.hwp_core_rule.specs.Steps.{is_last}
use Rattle.hwp_core_rule.specs.Views.{refs_on, locks_on, with_refs, less_refs, without, is_hand_of, is_lock_of, hand_found}
use Rattle.hwp_core_rule.specs.Words.{Words}
use Rattle.hwp_core.specs.declared.release.Release.{Release}
use Rattle.hwp_core.specs.declared.release.ReleaseAt.{ReleaseAt}
use Rattle.hwp_core.specs.declared.release.ReleaseAt.TheVariants as at
use Rattle.hwp_core.specs.declared.release.ReleaseAnswer.{ReleaseAnswer}
use Rattle.hwp_core.specs.declared.release.ReleaseAnswer.TheVariants as answers
use Rattle.hwp_core_rule.specs.Calls.{IsOnTurn}
use Rattle.hwp_core_rule.specs.Hands.{Hand}
use Rattle.hwp_core_rule.specs.Turns.{Member}

abbrev pub begin : Who → Frame → ℕ → Release
begin who frame count = record { who = who; frame = frame; count = count; at = at.Put }

abbrev pub plan_at : Frame → ℕ → ReleaseAt → Option Step
plan_at frame count at.Put = Some (steps.PutRef frame count)
plan_at frame count (at.Give word) = Some (steps.GiveBit frame)
plan_at frame count (at.Unreserve word) = Some steps.Unreserve
plan_at frame count (at.Adopt word) = Some (steps.Adopt frame)
plan_at frame count (at.Retire word) = Some (steps.Retire frame)
plan_at frame count (at.Back word) = None

abbrev pub plan : Release → Option Step
plan r = plan_at r.frame r.count r.at

-- with its last reference the frame becomes free, or is out of use where it is poisoned; the word that showed it is kept
abbrev pub next_at : ℕ → ReleaseAt → ℕ → ReleaseAt
next_at count at.Put found = cond (is_last count found) (cond (is_poisoned found) (at.Adopt found) (at.Give found)) (at.Back found)
next_at count (at.Give word) found = at.Unreserve word
next_at count (at.Unreserve word) found = at.Back word
next_at count (at.Adopt word) found = at.Retire word
next_at count (at.Retire word) found = at.Back word
next_at count (at.Back word) found = at.Back word

abbrev pub next : Release → ℕ → Release
next r found = record r { at = next_at r.count r.at found }

-- by the word that was shown as the references were given back: they were the last ones of a frame that is poisoned, or not
abbrev pub answer_of : ℕ → ℕ → ReleaseAnswer
answer_of count word = cond (is_last count word && is_poisoned word) answers.Retired answers.Done

abbrev pub answer_at : ℕ → ReleaseAt → Option ReleaseAnswer
answer_at count (at.Back word) = Some (answer_of count word)
answer_at count _ = None

abbrev pub answer : Release → Option ReleaseAnswer
answer r = answer_at r.count r.at

-- the frame is in hand, and poisoned
abbrev pub HasPoisoned : View → Frame → Type 0
HasPoisoned view frame = SomeMember (λ (h : FrameInHand). (h.frame ≡ frame) × (h.poisoned ≡ true)) view.hands

-- the view has the references, of which each lock of the frame needs one, and could lock the frame; then it has the frame,
-- and the reservation; a frame that was poisoned can be retired
abbrev pub FitsAt : View → Frame → ℕ → ReleaseAt → Type 0
FitsAt view frame count at.Put = (0 < count) × (count + locks_on frame.0 view.locks ≤ refs_on frame.0 view.refs) × (length view.locks < 2)
FitsAt view frame count (at.Give word) = HasInHand view frame
FitsAt view frame count (at.Unreserve word) = 0 < view.reserved
FitsAt view frame count (at.Adopt word) = HasPoisoned view frame × (length view.locks < 2)
FitsAt view frame count (at.Retire word) = CanRetire view frame None
FitsAt view frame count (at.Back word) = Unit {0}

pub record Fits (layout : Layout) (view : View) (r : Release) : Type 0 where
  pub on_turn : IsOnTurn view r.who
  pub frame : r.frame.0 < layout.frames
  pub at : FitsAt view r.frame r.count r.at

-- the lock of a frame just adopted: it has no owner, and isn't handled
abbrev pub adopted_lock : Frame → Bool → FrameLock
adopted_lock frame poisoned = record { frame = frame; owner = 0; handled = false; poisoned = poisoned }

-- that of a frame that was adopted because it is poisoned
abbrev pub poisoned_lock : Frame → FrameLock
poisoned_lock frame = adopted_lock frame true

-- that of a frame just taken isn't poisoned
abbrev pub new_lock : Frame → FrameLock
new_lock frame = adopted_lock frame false

-- what is held after a step
abbrev pub hand_next_at : Frame → ℕ → ReleaseAt → ℕ → Hand → Hand
hand_next_at frame count at.Put found h = record h { refs = less_refs frame count h.refs; hands = cond (is_last count found) (h.hands ++ hand_found frame found ∷ []) h.hands }
hand_next_at frame count (at.Give word) found h = record h { reserved = h.reserved + 1; hands = without (is_hand_of frame) h.hands }
hand_next_at frame count (at.Unreserve word) found h = record h { reserved = h.reserved - 1 }
hand_next_at frame count (at.Adopt word) found h =
    record h { hands = without (is_hand_of frame) h.hands; refs = with_refs frame 1 h.refs; locks = h.locks ++ poisoned_lock frame ∷ [] }
hand_next_at frame count (at.Retire word) found h = record h { locks = without (is_lock_of frame) h.locks; refs = less_refs frame 1 h.refs }
hand_next_at frame count (at.Back word) found h = h

abbrev pub hand_next : Release → ℕ → Hand → Hand
hand_next r found h = hand_next_at r.frame r.count r.at found h

-- 1 while the frame is in hand, reserved or locked
abbrev pub class_at : ReleaseAt → ℕ
class_at at.Put = 4
class_at (at.Back word) = 4
class_at _ = 1

abbrev pub class : Release → ℕ
class r = class_at r.at

-- the turns that are left
abbrev pub cost_at : ReleaseAt → ℕ
cost_at at.Put = 3
cost_at (at.Give word) = 2
cost_at (at.Unreserve word) = 1
cost_at (at.Adopt word) = 2
cost_at (at.Retire word) = 1
cost_at (at.Back word) = 0

abbrev pub cost : Release → Words → ℕ
cost r words = cost_at r.at

-- the task, as the laws of tasks read it
abbrev pub task : Member Release
task = record {
  who = λ r. r.who;
  plan = plan;
  put = λ r. None;
  bare = λ r. r;
  shows = λ r found got. Unit {0};
  next = λ layout r found got after result. (after ≡ next r found) × (result ≡ Moved);
  fits = Fits;
  class = class;
  cost = cost;
  aborts = λ r. false;
  claims = λ r. None;
}
