-- What a command has done so far in an unpoisoning: the mark that it made, and the count that it owes of that.
use Rattle.std.specs.Prelude.{◌≡◌, ℕ, ◌+◌, List, [], ◌∷◌}
use Rattle.hwp_claim_frame.specs.hwp_geom.declared.Frame.{Frame}
use Rattle.hwp_claim_frame.specs.hwp_geom.declared.Who.{Who}
use Rattle.hwp_claim_frame.specs.hwp_core_rule.declared.Mark.{Mark}
use Rattle.hwp_claim_frame.specs.hwp_core_rule.declared.MarkKind.TheVariants as mark_kinds
use Rattle.hwp_claim_frame.specs.hwp_core_rule.declared.View.{View}
use Rattle.hwp_claim_frame.specs.Done.{Grows, Marking, counts_owed, marking_of}
use Rattle.hwp_soft.specs.declared.unpoison.UnpoisonAt.{UnpoisonAt}
use Rattle.hwp_soft.specs.declared.unpoison.UnpoisonAt.TheVariants as at
use Rattle.hwp_soft.specs.declared.unpoison.UnpoisonAnswer.{UnpoisonAnswer}
use Rattle.hwp_soft.specs.declared.unpoison.UnpoisonAnswer.TheVariants as answers

-- a poison of this cycle of the frame that was taken back
abbrev pub revival : Frame → ℕ → Marking
revival frame cycle = record { frame = frame; cycle = cycle; kind = mark_kinds.Revived }

abbrev pub marked_for : Frame → UnpoisonAnswer → List Marking
marked_for frame (answers.Done cycle) = revival frame cycle ∷ []
marked_for frame _ = []

-- the frame is marked from its exchange on
abbrev pub marked_at : Frame → UnpoisonAt → List Marking
marked_at frame (at.Uncount cycle) = revival frame cycle ∷ []
marked_at frame (at.GiveBit cycle) = revival frame cycle ∷ []
marked_at frame (at.Unreserve cycle) = revival frame cycle ∷ []
marked_at frame (at.Over answer) = marked_for frame answer
marked_at frame _ = []

-- and counted in the step after
abbrev pub owed_at : UnpoisonAt → ℕ
owed_at (at.Uncount cycle) = 1
owed_at _ = 0

-- what a step adds, to what the view lists of the command
pub record Adds (old new : View) (who : Who) (frame : Frame) (before after : UnpoisonAt) : Type 0 where
  pub marked : Grows (λ (m : Mark). m.stamp.who) marking_of old.marks new.marks who (marked_at frame before) (marked_at frame after)
  pub counted : counts_owed new + owed_at before ≡ counts_owed old + owed_at after
