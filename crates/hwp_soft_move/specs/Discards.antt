-- A locked frame without a page put out of use: the task's states, its steps and what they come to.
use Rattle.std.specs.Prelude.{◌≡◌, ℕ, ◌<◌, Bool, true, false, cond, Option, Some, None, is_none}
use Rattle.hwp_claim_frame.specs.hwp_geom.declared.Frame.{Frame}
use Rattle.hwp_claim_frame.specs.hwp_geom.declared.Layout.{Layout}
use Rattle.hwp_claim_frame.specs.hwp_geom.declared.Who.{Who}
use Rattle.hwp_claim_frame.specs.hwp_page.History.{BodyValue}
use Rattle.hwp_claim_frame.specs.hwp_words.Frames.{cycle_of, is_poisoned}
use Rattle.hwp_claim_frame.specs.hwp_core_rule.declared.Step.{Step}
use Rattle.hwp_claim_frame.specs.hwp_core_rule.declared.Step.TheVariants as steps
use Rattle.hwp_claim_frame.specs.hwp_core_rule.declared.View.{View}
use Rattle.hwp_claim_frame.specs.hwp_core_rule.Asks.{OwesCount}
use Rattle.hwp_claim_frame.specs.hwp_core_rule.Words.{Words}
use Rattle.hwp_claim_frame.specs.hwp_core_rule.Calls.{IsOnTurn}
use Rattle.hwp_claim_frame.specs.hwp_core_rule.Hands.{hand_of, empty}
use Rattle.hwp_claim_frame.specs.hwp_core_rule.Turns.{Member}
use Rattle.hwp_claim_frame.specs.hwp_core_rule.declared.Turn.TheVariants.{Moved}
use Rattle.hwp_claim_frame.specs.hwp_core.declared.unlock.Unlock.{Unlock}
use Rattle.hwp_claim_frame.specs.hwp_core.Unlocks as unlocks
use Rattle.hwp_claim_frame.specs.hwp_core.Unlocks.{empty_frame}
use Rattle.hwp_claim_frame.specs.Claims.{HasMarked, IsUnlocking, SawPoison}
use Rattle.hwp_claim_frame.specs.Meets.{HoldsFree}
use Rattle.hwp_soft_move.specs.declared.discard.Discard.{Discard}
use Rattle.hwp_soft_move.specs.declared.discard.DiscardAt.{DiscardAt}
use Rattle.hwp_soft_move.specs.declared.discard.DiscardAt.TheVariants as at

abbrev pub begin : Who → Frame → Bool → Discard
begin who frame used = record { who = who; frame = frame; at = at.Poison used }

abbrev pub plan_at : Frame → DiscardAt → Option Step
plan_at frame (at.Poison used) = Some (steps.Poison frame false)
plan_at frame (at.Count cycle) = Some (steps.CountPoison false)
plan_at frame (at.Retire cycle) = Some (steps.Retire frame)
plan_at frame (at.Unlock u) = unlocks.plan u
plan_at frame (at.Over cycle) = None

abbrev pub plan : Discard → Option Step
plan d = plan_at d.frame d.at

abbrev pub put_at : DiscardAt → Option BodyValue
put_at (at.Unlock u) = unlocks.put u
put_at _ = None

abbrev pub put : Discard → Option BodyValue
put d = put_at d.at

abbrev pub bare_at : DiscardAt → DiscardAt
bare_at (at.Unlock u) = at.Unlock (unlocks.bare u)
bare_at (at.Poison used) = at.Poison used
bare_at (at.Count cycle) = at.Count cycle
bare_at (at.Retire cycle) = at.Retire cycle
bare_at (at.Over cycle) = at.Over cycle

abbrev pub bare : Discard → Discard
bare d = record d { at = bare_at d.at }

-- a frame that was poisoned already goes out of use where it was free before, and else is let go
abbrev pub poisoned : Who → Frame → Bool → ℕ → DiscardAt
poisoned who frame used word = cond (is_poisoned word) (cond used (at.Unlock (unlocks.begin who frame None)) (at.Retire None)) (at.Count (cycle_of word))

abbrev pub after_unlock : Unlock → DiscardAt
after_unlock u = cond (is_none (unlocks.plan u)) (at.Over None) (at.Unlock u)

abbrev pub next_at : Who → Frame → DiscardAt → ℕ → DiscardAt
next_at who frame (at.Poison used) found = poisoned who frame used found
next_at who frame (at.Count cycle) found = at.Retire (Some cycle)
next_at who frame (at.Retire cycle) found = at.Over cycle
next_at who frame (at.Unlock u) found = after_unlock (unlocks.next u found)
next_at who frame (at.Over cycle) found = at.Over cycle

abbrev pub next : Discard → ℕ → Discard
next d found = record d { at = next_at d.who d.frame d.at found }

abbrev pub answer_at : DiscardAt → Option (Option ℕ)
answer_at (at.Over cycle) = Some cycle
answer_at _ = None

abbrev pub answer : Discard → Option (Option ℕ)
answer d = answer_at d.at

-- the command poisoned the frame in this cycle of it, or a step of it showed that it was poisoned
abbrev pub IsPoisoned : View → Who → Frame → Option ℕ → Type 0
IsPoisoned view who frame (Some cycle) = HasMarked view who frame false cycle
IsPoisoned view who frame None = SawPoison view who frame

abbrev pub FitsAt : Layout → View → Who → Frame → DiscardAt → Type 0
FitsAt layout view who frame (at.Poison used) = HoldsFree view frame None
FitsAt layout view who frame (at.Count cycle) = (hand_of view ≡ empty_frame frame false true) × HasMarked view who frame false cycle × OwesCount view false
FitsAt layout view who frame (at.Retire cycle) = (hand_of view ≡ empty_frame frame false true) × IsPoisoned view who frame cycle
FitsAt layout view who frame (at.Unlock u) = IsUnlocking layout view who u × SawPoison view who frame
FitsAt layout view who frame (at.Over cycle) = (hand_of view ≡ empty) × IsPoisoned view who frame cycle

-- the processor holds the frame, and in the end nothing
pub record Fits (layout : Layout) (view : View) (d : Discard) : Type 0 where
  pub on_turn : IsOnTurn view d.who
  pub frame : d.frame.0 < layout.frames
  pub at : FitsAt layout view d.who d.frame d.at

-- ---- the rank

abbrev pub class_at : DiscardAt → ℕ
class_at (at.Unlock u) = unlocks.class u
class_at (at.Over cycle) = 4
class_at _ = 1

abbrev pub class : Discard → ℕ
class d = class_at d.at

-- the failure is the task's from its poison on, until the frame is out of use
abbrev pub claims_at : Frame → DiscardAt → Option (Frame × ℕ)
claims_at frame (at.Count cycle) = Some (frame, cycle)
claims_at frame (at.Retire (Some cycle)) = Some (frame, cycle)
claims_at frame _ = None

abbrev pub claims : Discard → Option (Frame × ℕ)
claims d = claims_at d.frame d.at

-- the turns that are left
abbrev pub cost_at : DiscardAt → Words → ℕ
cost_at (at.Poison used) words = 5
cost_at (at.Count cycle) words = 2
cost_at (at.Retire cycle) words = 1
cost_at (at.Unlock u) words = unlocks.cost u words
cost_at (at.Over cycle) words = 0

abbrev pub cost : Discard → Words → ℕ
cost d words = cost_at d.at words

-- the task, as the laws of tasks read it
abbrev pub task : Member Discard
task = record {
  who = λ d. d.who;
  plan = plan;
  put = put;
  bare = bare;
  shows = λ d found got. Unit {0};
  next = λ layout d found got after result. (after ≡ next d found) × (result ≡ Moved);
  fits = Fits;
  class = class;
  cost = cost;
  aborts = λ d. false;
  claims = claims;
}
