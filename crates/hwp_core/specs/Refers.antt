-- More references to a frame: the task's states, its steps and what they come to.
use Rattle.std.specs.Prelude.{◌≡◌, ℕ, ◌+◌, ◌<◌, ◌≤◌, ◌==◌, false, cond, Option, Some, None, length, slice_index}
use Rattle.hwp_core_rule.specs.hwp_geom.declared.Frame.{Frame}
use Rattle.hwp_core_rule.specs.hwp_geom.declared.Layout.{Layout}
use Rattle.hwp_core_rule.specs.hwp_geom.declared.Who.{Who}
use Rattle.hwp_core_rule.specs.hwp_words.Frames.{count_of}
use Rattle.hwp_core_rule.specs.declared.SharedWord.TheVariants as places
use Rattle.hwp_core_rule.specs.declared.Step.{Step}
use Rattle.hwp_core_rule.specs.declared.Step.TheVariants as steps
use Rattle.hwp_core_rule.specs.declared.View.{View}
use Rattle.hwp_core_rule.specs.Views.{refs_on, with_refs}
use Rattle.hwp_core_rule.specs.Words.{Words}
use Rattle.hwp_core_rule.specs.declared.Turn.{Turn}
use Rattle.hwp_core_rule.specs.declared.Turn.TheVariants.{Moved, Changed}
use Rattle.hwp_core_rule.specs.Calls.{IsOnTurn}
use Rattle.hwp_core_rule.specs.Hands.{Hand}
use Rattle.hwp_core_rule.specs.Ranks.{stale}
use Rattle.hwp_core_rule.specs.Turns.{Member}
use Rattle.hwp_core.specs.declared.refer.Refer.{Refer}
use Rattle.hwp_core.specs.declared.refer.ReferAt.{ReferAt}
use Rattle.hwp_core.specs.declared.refer.ReferAt.TheVariants as at

abbrev pub begin : Who → Frame → ℕ → Refer
begin who frame count = record { who = who; frame = frame; count = count; at = at.Load }

abbrev pub plan_at : Frame → ℕ → ReferAt → Option Step
plan_at frame count at.Load = Some (steps.Load (places.Frame frame))
plan_at frame count (at.Get seen) = Some (steps.GetRef frame seen count)
plan_at frame count at.Over = None

abbrev pub plan : Refer → Option Step
plan r = plan_at r.frame r.count r.at

abbrev pub next_at : ReferAt → ℕ → ReferAt
next_at at.Load found = at.Get found
next_at (at.Get seen) found = cond (found == seen) at.Over (at.Get found)
next_at at.Over found = at.Over

abbrev pub next : Refer → ℕ → Refer
next r found = record r { at = next_at r.at found }

abbrev pub turn_at : ReferAt → ℕ → Turn
turn_at (at.Get seen) found = cond (found == seen) Moved (Changed found)
turn_at _ found = Moved

abbrev pub turn : Refer → ℕ → Turn
turn r found = turn_at r.at found

-- the view has references to the frame, and room for so many more
pub record HasSome (layout : Layout) (view : View) (frame : Frame) (count : ℕ) : Type 0 where
  pub some : 0 < refs_on frame.0 view.refs
  pub more : 0 < count
  pub room : refs_on frame.0 view.refs + count ≤ length layout.trans + 2

abbrev pub FitsAt : Layout → View → Frame → ℕ → ReferAt → Type 0
FitsAt layout view frame count at.Load = HasSome layout view frame count
FitsAt layout view frame count (at.Get seen) = (0 < count_of seen) × HasSome layout view frame count
FitsAt layout view frame count at.Over = Unit {0}

pub record Fits (layout : Layout) (view : View) (r : Refer) : Type 0 where
  pub on_turn : IsOnTurn view r.who
  pub frame : r.frame.0 < layout.frames
  pub at : FitsAt layout view r.frame r.count r.at

-- what is held after a step: the references, where they were taken
abbrev pub hand_next_at : Frame → ℕ → ReferAt → ℕ → Hand → Hand
hand_next_at frame count (at.Get seen) found h = cond (found == seen) (record h { refs = with_refs frame count h.refs }) h
hand_next_at frame count _ found h = h

abbrev pub hand_next : Refer → ℕ → Hand → Hand
hand_next r found h = hand_next_at r.frame r.count r.at found h

-- the turns that are left; the word may have changed since it was seen
abbrev pub cost_at : Frame → ReferAt → Words → ℕ
cost_at frame at.Load words = 2
cost_at frame (at.Get seen) words = 1 + stale (slice_index words.frames frame.0 == seen)
cost_at frame at.Over words = 0

abbrev pub cost : Refer → Words → ℕ
cost r words = cost_at r.frame r.at words

-- the task, as the laws of tasks read it
abbrev pub task : Member Refer
task = record {
  who = λ r. r.who;
  plan = plan;
  put = λ r. None;
  bare = λ r. r;
  shows = λ r found got. Unit {0};
  next = λ layout r found got after result. (after ≡ next r found) × (result ≡ turn r found);
  fits = Fits;
  class = λ r. 4;
  cost = cost;
  aborts = λ r. false;
  claims = λ r. None;
}
