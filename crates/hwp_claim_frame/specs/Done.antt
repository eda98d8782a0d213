-- What a command has done so far in a claim beside its entries: the poisoning that it made, and the count that it owes of that.
use Rattle.std.specs.Prelude.{◌≡◌, ◌⊎◌, ℕ, ◌+◌, Bool, List, [], ◌∷◌, ◌++◌}
use Rattle.hwp_core.specs.hwp_geom.declared.Frame.{Frame}
use Rattle.hwp_core.specs.hwp_geom.declared.Who.{Who}
use Rattle.hwp_core.specs.hwp_core_rule.declared.Mark.{Mark}
use Rattle.hwp_core.specs.hwp_core_rule.declared.MarkKind.{MarkKind}
use Rattle.hwp_core.specs.hwp_core_rule.declared.MarkKind.TheVariants as mark_kinds
use Rattle.hwp_core.specs.hwp_core_rule.declared.View.{View}
use Rattle.hwp_claim_frame.specs.declared.claim.ClaimAt.{ClaimAt}
use Rattle.hwp_claim_frame.specs.declared.claim.ClaimAt.TheVariants as at

-- a list that a view has is as it was, or has one member more, by the command; and what the command has done has grown by that
abbrev pub Grows : {A B : Type 0} → (A → Who) → (A → B) → List A → List A → Who → List B → List B → Type 0
Grows {A} {B} by told old new who before after = ((new ≡ old) × (after ≡ before)) ⊎ ((x : A) × (new ≡ old ++ x ∷ []) × (by x ≡ who) × (after ≡ before ++ told x ∷ []))

-- the frames that the processor marked and has yet to count
abbrev pub counts_owed : View → ℕ
counts_owed view = view.owed.counts + view.owed.hardware + view.owed.uncounts

-- a mark of a frame, whoever made it: the frame, its cycle and the kind
pub record Marking : Type 0 where
  pub frame : Frame
  pub cycle : ℕ
  pub kind : MarkKind

abbrev pub marking_of : Mark → Marking
marking_of m = record { frame = m.frame; cycle = m.cycle; kind = m.kind }

-- a poisoning of a frame in this cycle of it, by a report of the hardware or not
abbrev pub poisoning : Frame → Bool → ℕ → Marking
poisoning frame hardware cycle = record { frame = frame; cycle = cycle; kind = mark_kinds.Poisoned hardware }

-- the frame is marked from its poison on
abbrev pub marked_in : Frame → Bool → ClaimAt → List Marking
marked_in frame hardware at.Stop = []
marked_in frame hardware at.Poison = []
marked_in frame hardware at.GaveUp = []
marked_in frame hardware at.Stopped = []
marked_in frame hardware at.Already = []
marked_in frame hardware (at.Count cycle) = poisoning frame hardware cycle ∷ []
marked_in frame hardware (at.Look cycle) = poisoning frame hardware cycle ∷ []
marked_in frame hardware (at.Grab cycle grab) = poisoning frame hardware cycle ∷ []
marked_in frame hardware (at.Meet cycle meet) = poisoning frame hardware cycle ∷ []
marked_in frame hardware (at.Unlock cycle unlock) = poisoning frame hardware cycle ∷ []
marked_in frame hardware (at.Retire cycle) = poisoning frame hardware cycle ∷ []
marked_in frame hardware (at.Free cycle) = poisoning frame hardware cycle ∷ []
marked_in frame hardware (at.Kernel cycle) = poisoning frame hardware cycle ∷ []
marked_in frame hardware (at.Owned cycle page body) = poisoning frame hardware cycle ∷ []

-- and counted in the step after
abbrev pub owed_in : ClaimAt → ℕ
owed_in (at.Count cycle) = 1
owed_in _ = 0

-- what a step adds: no entry, and the mark and its count as the claim goes on
pub record Adds (old new : View) (who : Who) (frame : Frame) (hardware : Bool) (before after : ClaimAt) : Type 0 where
  pub made : new.made ≡ old.made
  pub marked : Grows (λ (m : Mark). m.stamp.who) marking_of old.marks new.marks who (marked_in frame hardware before) (marked_in frame hardware after)
  pub counted : counts_owed new + owed_in before ≡ counts_owed old + owed_in after
