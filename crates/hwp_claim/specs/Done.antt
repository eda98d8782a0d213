-- What a command has done so far in a failure: the poisoning that it made, the count that it owes of that, and the failure that its
-- entry tells.
use Rattle.std.specs.Prelude.{◌≡◌, ℕ, ◌+◌, Bool, List, [], ◌∷◌, Option, Some, None}
use Rattle.std.specs.List.{cons_option}
use Rattle.hwp_claim_frame.specs.hwp_geom.declared.Frame.{Frame}
use Rattle.hwp_claim_frame.specs.hwp_geom.declared.Thread.{Thread}
use Rattle.hwp_claim_frame.specs.hwp_geom.declared.Who.{Who}
use Rattle.hwp_claim_frame.specs.hwp_page.declared.At.{At}
use Rattle.hwp_claim_frame.specs.hwp_core_rule.declared.Mark.{Mark}
use Rattle.hwp_claim_frame.specs.hwp_core_rule.declared.View.{View}
use Rattle.hwp_claim_act.specs.declared.abandon.Failed.{Failed}
use Rattle.hwp_claim_act.specs.Abandoned.{AddsFailure}
use Rattle.hwp_claim_act.specs.Acts as acts
use Rattle.hwp_claim_frame.specs.Done.{Grows, Marking, counts_owed, marked_in, marking_of, owed_in, poisoning}
use Rattle.hwp_claim.specs.declared.fail.FailAt.{FailAt}
use Rattle.hwp_claim.specs.declared.fail.FailAt.TheVariants as at
use Rattle.hwp_claim.specs.declared.fail.FailAnswer.{FailAnswer}
use Rattle.hwp_claim.specs.declared.fail.FailAnswer.TheVariants as answers
use Rattle.hwp_claim.specs.declared.fail.Found.{Found}

-- the poisoning that it made
abbrev pub marked_over : Frame → Bool → FailAnswer → List Marking
marked_over frame hardware answers.Stopped = []
marked_over frame hardware answers.Already = []
marked_over frame hardware (answers.Done found) = poisoning frame hardware found.cycle ∷ []

abbrev pub marked_at : Frame → Bool → FailAt → List Marking
marked_at frame hardware (at.Claim c) = marked_in frame hardware c.at
marked_at frame hardware (at.Act cycle a) = poisoning frame hardware cycle ∷ []
marked_at frame hardware (at.Over answer) = marked_over frame hardware answer

-- the count that is owed of it
abbrev pub owed_at : FailAt → ℕ
owed_at (at.Claim c) = owed_in c.at
owed_at _ = 0

-- the failure that its entry tells, once that is listed
abbrev pub entered_by : Option Thread → Found → Option At → Option Failed
entered_by required found None = None
entered_by required found (Some place) = Some (record { situation = found.situation; required = required; at = place; signalled = found.signalled })

abbrev pub failed_over : Option Thread → FailAnswer → List Failed
failed_over required (answers.Done found) = cons_option (entered_by required found found.at) []
failed_over required _ = []

abbrev pub failed_at : Option Thread → FailAt → List Failed
failed_at required (at.Claim c) = []
failed_at required (at.Act cycle a) = acts.failed_at a.at
failed_at required (at.Over answer) = failed_over required answer

-- what a step adds, to what the view lists of the command and to what its failure has done
pub record Adds (old new : View) (who : Who) (frame : Frame) (hardware : Bool) (required : Option Thread) (before after : FailAt) : Type 0 where
  pub marked : Grows (λ (m : Mark). m.stamp.who) marking_of old.marks new.marks who (marked_at frame hardware before) (marked_at frame hardware after)
  pub failed : AddsFailure who old new (failed_at required before) (failed_at required after)
  pub counted : counts_owed new + owed_at before ≡ counts_owed old + owed_at after
