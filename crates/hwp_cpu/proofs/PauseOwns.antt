-- A frame whose failure is pending where an access comes to its pause was pending before, and is none of the access's own.
use Rattle.std.proofs.Common.{◌≡◌, ◌≢◌, inl, inr, ℕ, Bool, true, false, Option, Some, None, is_some, refl, sym, ap, ◌∙◌, subst}
use Rattle.std.proofs.lemmas.Bool.{both_ways}
use Rattle.std.proofs.lemmas.Option.{none-some, same_Some}
use Rattle.hwp_cpu_row.specs.hwp_geom.declared.Frame.{Frame}
use Rattle.hwp_cpu_row.specs.hwp_geom.declared.Layout.{Layout}
use Rattle.hwp_cpu_row.specs.hwp_core_rule.declared.SharedWord.TheVariants as places
use Rattle.hwp_cpu_row.specs.hwp_core_rule.declared.State.{State}
use Rattle.hwp_cpu_row.specs.hwp_core_rule.declared.Step.TheVariants as steps
use Rattle.hwp_cpu_row.specs.hwp_core_rule.Lasting.{IsMild}
use Rattle.hwp_cpu_row.specs.hwp_core_rule.declared.Turn.{Turn}
use Rattle.hwp_cpu_row.specs.hwp_core_rule.Ranks.{Made, Pending, is_refused, words_at}
use Rattle.hwp_cpu_row.proofs.of_hwp_core_rule.tasks.StepRanks.{pending-kept}
use Rattle.hwp_cpu_row.specs.hwp_claim.declared.Handler.{Handler}
use Rattle.hwp_cpu_row.specs.hwp_claim.Handlers as handlers
use Rattle.hwp_cpu_command.specs.declared.job.Job.{Job}
use Rattle.hwp_cpu_command.specs.declared.job.Job.TheVariants as kinds
use Rattle.hwp_cpu_command.specs.Jobs as jobs
use Rattle.hwp_cpu_command.proofs.JobLaws as jobbing
use Rattle.hwp_cpu_command.proofs.JobRefusals.{handler-unanswered}
use Rattle.hwp_cpu_command.specs.hwp_cpu_access.declared.Instruction.{Instruction}
use Rattle.hwp_cpu_command.specs.hwp_cpu_access.declared.instruction.InstructionAt.{InstructionAt}
use Rattle.hwp_cpu_command.specs.hwp_cpu_access.declared.instruction.InstructionAt.TheVariants as instruction_at
use Rattle.hwp_cpu_command.specs.hwp_cpu_access.Costs as instruction_costs
use Rattle.hwp_cpu_command.specs.hwp_cpu_access.Instructions as instructions
use Rattle.hwp_cpu_command.specs.hwp_cpu_access.declared.Copying.{Copying}
use Rattle.hwp_cpu_command.specs.hwp_cpu_access.declared.copying.CopyingAt.{CopyingAt}
use Rattle.hwp_cpu_command.specs.hwp_cpu_access.declared.copying.CopyingAt.TheVariants as copying_at
use Rattle.hwp_cpu_command.specs.hwp_cpu_access.Copyings as copyings
use Rattle.hwp_cpu_command.specs.hwp_cpu_access.CopyCosts as copying_costs
use Rattle.hwp_cpu_command.proofs.of_hwp_evict.EvictCosts.{evict-mild}
use Rattle.hwp_cpu_command.proofs.of_hwp_fault.AccessCosts.{access-mild}
use Rattle.hwp_cpu.proofs.RestCosts.{paused-idle}

abbrev pub OwnsNone : Layout → State → Frame → ℕ → Job → Type 0
OwnsNone layout a frame cycle j = Pending (words_at layout a) frame cycle × (jobs.claims j ≢ Some (frame, cycle))

module _ {layout : Layout} {seat : ℕ} {a b : State} {k : Job} {t : Turn} (frame : Frame) (cycle : ℕ) (pauses : jobs.pauses k ≡ true) (pending : Pending (words_at layout b) frame cycle) where
  -- where its turn wasn't refused memory
  by-rank : (j : Job) → Made jobs.task layout seat a b j k t → is_refused t ≡ false → OwnsNone layout a frame cycle j
  by-rank j made goes = elim (jobbing.ranked.owns layout seat a b j k t frame cycle made goes pending) [
    | inl claimed ↦ absurd (none-some (frame, cycle) (sym (paused-idle k pauses).0 ∙ claimed))
    | inr was ↦ was
  ]

  -- where its step leaves the failures of frames alone
  by-step : (i : Instruction) (made : Made jobs.task layout seat a b (kinds.Instruction i) k t) (x : InstructionAt) → i.at ≡ x → instruction_costs.claims_at x ≡ None → IsMild made.step → OwnsNone layout a frame cycle (kinds.Instruction i)
  by-step i made x is none mild = (pending-kept made mild frame cycle pending, λ claimed. none-some (frame, cycle) (sym none ∙ sym (ap instruction_costs.claims_at is) ∙ claimed))

  pub access-owns : (i : Instruction) → Made jobs.task layout seat a b (kinds.Instruction i) k t → OwnsNone layout a frame cycle (kinds.Instruction i)
  access-owns i made = which i.at refl made.planned made.follows.2
    where
      handled : (f : Frame) (h : Handler) → instructions.FollowsAt layout (instructions.bare i) (instruction_at.Handle f (handlers.bare h)) made.found made.got made.follows.0 t → is_refused t ≡ true → ⊥
      handled f h next no_ = both_ways true
          (sym pauses ∙ ap jobs.pauses made.follows.1 ∙ ap (λ (x : Instruction). is_some (instructions.pause x)) next.next_is
          ∙ ap (λ (o : Option Bool). is_some (instructions.pause (instructions.after_handler_by (instructions.bare i) f next.handler o))) (handler-unanswered layout h next.handler made.found made.got t next.follows no_)) refl

      which-turn : (f : Frame) (h : Handler) → instructions.FollowsAt layout (instructions.bare i) (instruction_at.Handle f (handlers.bare h)) made.found made.got made.follows.0 t → (r : Bool) → is_refused t ≡ r → OwnsNone layout a frame cycle (kinds.Instruction i)
      which-turn f h next true no_ = absurd (handled f h next no_)
      which-turn f h next false goes = by-rank (kinds.Instruction i) made goes

      which : (x : InstructionAt) → i.at ≡ x → instructions.plan_at x ≡ Some made.step → instructions.FollowsAt layout (instructions.bare i) (instructions.bare_at x) made.found made.got made.follows.0 t → OwnsNone layout a frame cycle (kinds.Instruction i)
      which (instruction_at.Handle f h) is e next = which-turn f h next (is_refused t) refl
      which (instruction_at.Access c) is e next = by-step i made (instruction_at.Access c) is refl (access-mild c made.step e)
      which (instruction_at.LoadFrame f) is e next = by-step i made (instruction_at.LoadFrame f) is refl (subst IsMild (same_Some (steps.Load (places.Frame f)) made.step e) tt)
      which (instruction_at.LoadStop f) is e next = by-step i made (instruction_at.LoadStop f) is refl (subst IsMild (same_Some (steps.Load places.Stop) made.step e) tt)
      which instruction_at.GiveUp is e next = by-step i made instruction_at.GiveUp is refl (subst IsMild (same_Some steps.GiveUp made.step e) tt)
      which (instruction_at.Paused pause) is e next = absurd (none-some made.step e)
      which (instruction_at.Over o) is e next = absurd (none-some made.step e)

  -- a copy by its access; its freeing leaves the failures of frames alone, and claims none
  pub copy-owns : (c : Copying) → Made jobs.task layout seat a b (kinds.Copying c) k t → OwnsNone layout a frame cycle (kinds.Copying c)
  copy-owns c made = by-at c.at refl made.planned made.follows.2
    where
      mildly : IsMild made.step → jobs.claims (kinds.Copying c) ≡ None → OwnsNone layout a frame cycle (kinds.Copying c)
      mildly mild none = (pending-kept made mild frame cycle pending, λ claimed. none-some (frame, cycle) (sym none ∙ claimed))

      by-at : (y : CopyingAt) → c.at ≡ y → copyings.plan_at c.instruction y ≡ Some made.step → copyings.FollowsAt layout (copyings.bare_at c y) (copyings.bare_at c y).at made.found made.got made.follows.0 t → OwnsNone layout a frame cycle (kinds.Copying c)
      by-at copying_at.Access own e next = which c.instruction.at refl e next.follows
        where
          claims-at : (x : InstructionAt) → c.instruction.at ≡ x → instruction_costs.claims_at x ≡ None → jobs.claims (kinds.Copying c) ≡ None
          claims-at x is none = ap (copying_costs.claims_at c.instruction) own ∙ ap instruction_costs.claims_at is ∙ none

          handled : (f : Frame) (h : Handler) → instructions.FollowsAt layout (instructions.bare c.instruction) (instruction_at.Handle f (handlers.bare h)) made.found made.got next.instruction t → is_refused t ≡ true → ⊥
          handled f h went no_ = both_ways true
              (sym pauses ∙ ap jobs.pauses made.follows.1 ∙ ap (λ (x : Copying). is_some (copyings.pause x)) next.next_is
              ∙ ap (λ (i : Instruction). is_some (copyings.pause (copyings.after_access (record (copyings.bare_at c copying_at.Access) { instruction = i }) (instructions.answer i)))) (went.next_is
              ∙ ap (λ (o : Option Bool). instructions.after_handler_by (instructions.bare c.instruction) f went.handler o) (handler-unanswered layout h went.handler made.found made.got t went.follows no_))) refl

          which-turn : (f : Frame) (h : Handler) → instructions.FollowsAt layout (instructions.bare c.instruction) (instruction_at.Handle f (handlers.bare h)) made.found made.got next.instruction t → (r : Bool) → is_refused t ≡ r → OwnsNone layout a frame cycle (kinds.Copying c)
          which-turn f h went true no_ = absurd (handled f h went no_)
          which-turn f h went false goes = by-rank (kinds.Copying c) made goes

          which : (x : InstructionAt) → c.instruction.at ≡ x → instructions.plan_at x ≡ Some made.step → instructions.FollowsAt layout (instructions.bare c.instruction) (instructions.bare_at x) made.found made.got next.instruction t → OwnsNone layout a frame cycle (kinds.Copying c)
          which (instruction_at.Handle f h) is e went = which-turn f h went (is_refused t) refl
          which (instruction_at.Access x) is e went = mildly (access-mild x made.step e) (claims-at (instruction_at.Access x) is refl)
          which (instruction_at.LoadFrame f) is e went = mildly (subst IsMild (same_Some (steps.Load (places.Frame f)) made.step e) tt) (claims-at (instruction_at.LoadFrame f) is refl)
          which (instruction_at.LoadStop f) is e went = mildly (subst IsMild (same_Some (steps.Load places.Stop) made.step e) tt) (claims-at (instruction_at.LoadStop f) is refl)
          which instruction_at.GiveUp is e went = mildly (subst IsMild (same_Some steps.GiveUp made.step e) tt) (claims-at instruction_at.GiveUp is refl)
          which (instruction_at.Paused pause) is e went = absurd (none-some made.step e)
          which (instruction_at.Over o) is e went = absurd (none-some made.step e)
      by-at (copying_at.Free x stored) own e next = mildly (evict-mild x made.step e) (ap (copying_costs.claims_at c.instruction) own)
      by-at (copying_at.Over answer) own e next = absurd (none-some made.step e)

  -- of whatever command
  pub pause-owns : (j : Job) → Made jobs.task layout seat a b j k t → OwnsNone layout a frame cycle j
  pause-owns (kinds.Instruction i) made = access-owns i made
  pause-owns (kinds.Copying c) made = copy-owns c made
  pause-owns (kinds.Evict x) made = absurd (both_ways true (sym pauses ∙ ap jobs.pauses made.follows.1) refl)
  pause-owns (kinds.Fsync x) made = absurd (both_ways true (sym pauses ∙ ap jobs.pauses made.follows.0) refl)
  pause-owns (kinds.Prctl x) made = absurd (both_ways true (sym pauses ∙ ap jobs.pauses made.follows.0) refl)
  pause-owns (kinds.Denied x) made = absurd (both_ways true (sym pauses ∙ ap jobs.pauses made.follows.0) refl)
  pause-owns (kinds.Fork x) made = absurd (both_ways true (sym pauses ∙ ap jobs.pauses made.follows.0) refl)
  pause-owns (kinds.Log x) made = absurd (both_ways true (sym pauses ∙ ap jobs.pauses made.follows.0) refl)
  pause-owns (kinds.Raise x) made = absurd (both_ways true (sym pauses ∙ ap jobs.pauses made.follows.1) refl)
  pause-owns (kinds.Scrub x) made = absurd (both_ways true (sym pauses ∙ ap jobs.pauses made.follows.1) refl)
  pause-owns (kinds.Spoil x) made = absurd (both_ways true (sym pauses ∙ ap jobs.pauses made.follows.0) refl)
  pause-owns (kinds.Nested x) made = absurd (both_ways true (sym pauses ∙ ap jobs.pauses made.follows.0) refl)
  pause-owns (kinds.Inject x) made = absurd (both_ways true (sym pauses ∙ ap jobs.pauses made.follows.1) refl)
  pause-owns (kinds.Soft x) made = absurd (both_ways true (sym pauses ∙ ap jobs.pauses made.follows.1) refl)
  pause-owns (kinds.Unpoison x) made = absurd (both_ways true (sym pauses ∙ ap jobs.pauses made.follows.0) refl)
