-- What a command has done so far in a soft offline beside its entry: the poisoning that it made, and the count that it owes of that.
use Rattle.std.specs.Prelude.{◌≡◌, ℕ, ◌+◌, false, List, [], ◌∷◌, Option, Some, None}
use Rattle.hwp_claim_frame.specs.hwp_geom.declared.Frame.{Frame}
use Rattle.hwp_claim_frame.specs.hwp_geom.declared.Who.{Who}
use Rattle.hwp_claim_frame.specs.hwp_core_rule.declared.Mark.{Mark}
use Rattle.hwp_claim_frame.specs.hwp_core_rule.declared.View.{View}
use Rattle.hwp_claim_frame.specs.Done.{Grows, Marking, counts_owed, marking_of, poisoning}
use Rattle.hwp_soft_move.specs.declared.discard.DiscardAt.{DiscardAt}
use Rattle.hwp_soft_move.specs.declared.discard.DiscardAt.TheVariants as discard_at
use Rattle.hwp_soft_move.specs.declared.relocate.RelocateAt.{RelocateAt}
use Rattle.hwp_soft_move.specs.declared.relocate.RelocateAt.TheVariants as relocate_at
use Rattle.hwp_soft.specs.declared.soft.SoftAt.{SoftAt}
use Rattle.hwp_soft.specs.declared.soft.SoftAt.TheVariants as at
use Rattle.hwp_soft.specs.Softs.{cycle_in}

abbrev pub marked_of : Frame → Option ℕ → List Marking
marked_of frame None = []
marked_of frame (Some cycle) = poisoning frame false cycle ∷ []

abbrev pub discard_cycle : DiscardAt → Option ℕ
discard_cycle (discard_at.Poison used) = None
discard_cycle (discard_at.Count cycle) = Some cycle
discard_cycle (discard_at.Retire cycle) = cycle
discard_cycle (discard_at.Unlock u) = None
discard_cycle (discard_at.Over cycle) = cycle

-- the frame is marked from its poison on, unless it was poisoned already
abbrev pub marked_at : Frame → SoftAt → List Marking
marked_at frame (at.Discard d) = marked_of frame (discard_cycle d.at)
marked_at frame (at.Relocate r answer) = marked_of frame (cycle_in answer)
marked_at frame (at.Unhold u answer) = marked_of frame (cycle_in answer)
marked_at frame (at.Over answer) = marked_of frame (cycle_in answer)
marked_at frame _ = []

-- and counted in the step after
abbrev pub discard_owed : DiscardAt → ℕ
discard_owed (discard_at.Count cycle) = 1
discard_owed _ = 0

abbrev pub relocate_owed : RelocateAt → ℕ
relocate_owed relocate_at.Count = 1
relocate_owed _ = 0

abbrev pub owed_at : SoftAt → ℕ
owed_at (at.Discard d) = discard_owed d.at
owed_at (at.Relocate r answer) = relocate_owed r.at
owed_at _ = 0

-- what a step adds, to what the view lists of the command
pub record Adds (old new : View) (who : Who) (frame : Frame) (before after : SoftAt) : Type 0 where
  pub marked : Grows (λ (m : Mark). m.stamp.who) marking_of old.marks new.marks who (marked_at frame before) (marked_at frame after)
  pub counted : counts_owed new + owed_at before ≡ counts_owed old + owed_at after
