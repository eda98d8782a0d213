-- A command as one task keeps the laws that the task of its kind keeps.
use Rattle.std.proofs.Common.{◌≡◌, ◌≢◌, ℕ, ◌+◌, ◌*◌, ◌<◌, ◌≤◌, ◌⊎◌, inl, inr, Bool, true, false, [], Option, Some, None, length, option_map, refl, sym, ap, ◌∙◌, subst, arith, List}
use Rattle.std.proofs.lemmas.Bool.{both_ways, false_from_ne_true}
use Rattle.std.proofs.lemmas.Option.{none-some, same_Some}
use Rattle.hwp_cpu_control.specs.hwp_geom.declared.Frame.{Frame}
use Rattle.hwp_cpu_control.specs.hwp_geom.declared.Layout.{Layout}
use Rattle.hwp_cpu_control.specs.hwp_page.History.{BodyValue}
use Rattle.hwp_cpu_row.specs.hwp_report_text.declared.Answer.{Answer}
use Rattle.hwp_cpu_control.specs.hwp_core_rule.declared.Made.{Made as Deed}
use Rattle.hwp_cpu_control.specs.hwp_core_rule.declared.SharedWord.TheVariants as places
use Rattle.hwp_cpu_control.specs.hwp_core_rule.declared.State.{State}
use Rattle.hwp_cpu_control.specs.hwp_core_rule.declared.Step.{Step}
use Rattle.hwp_cpu_control.specs.hwp_core_rule.declared.Step.TheVariants as steps
use Rattle.hwp_cpu_control.specs.hwp_core_rule.declared.View.{View}
use Rattle.hwp_cpu_control.specs.hwp_core_rule.Rule.{Holds}
use Rattle.hwp_cpu_control.specs.hwp_core_rule.Lasting.{IsMild}
use Rattle.hwp_cpu_control.specs.hwp_core_rule.Words.{Words}
use Rattle.hwp_cpu_control.specs.hwp_core_rule.declared.Turn.{Turn}
use Rattle.hwp_cpu_control.specs.hwp_core_rule.Boards.{view_of}
use Rattle.hwp_cpu_control.specs.hwp_core_rule.Calls.{CanMake, Steps, logs}
use Rattle.hwp_cpu_control.specs.hwp_core_rule.Classes.{TellsClass}
use Rattle.hwp_cpu_control.specs.hwp_core_rule.Ranks.{Made, CostFalls, HasFailed, HasFrame, HasPage, IsRanked, OtherHand, PaysRevival, Pending, Quiet, failure_weight, failures_left, is_refused, is_waits, top, words_at}
use Rattle.hwp_cpu_control.specs.hwp_core_rule.Turns.{IsTask, Member}
use Rattle.hwp_cpu_control.proofs.of_hwp_core_rule.tasks.Failures.{mild-leaves}
use Rattle.hwp_cpu_control.proofs.of_hwp_core_rule.tasks.StepRanks.{failures-kept, pending-kept}
use Rattle.hwp_cpu_control.specs.declared.Nested.{Nested}
use Rattle.hwp_cpu_control.specs.declared.Denied.{Denied}
use Rattle.hwp_cpu_control.specs.declared.Prctl.{Prctl}
use Rattle.hwp_cpu_control.specs.declared.Spoil.{Spoil}
use Rattle.hwp_cpu_control.specs.declared.Fork.{Fork}
use Rattle.hwp_cpu_control.specs.Forks as forks
use Rattle.hwp_cpu_control.proofs.ForkLaws as forking
use Rattle.hwp_cpu_control.specs.Nesteds as nesteds
use Rattle.hwp_cpu_control.specs.Denieds as denieds
use Rattle.hwp_cpu_control.specs.Prctls as prctls
use Rattle.hwp_cpu_control.specs.Spoils as spoils
use Rattle.hwp_cpu_control.proofs.DeniedLaws as denying
use Rattle.hwp_cpu_control.proofs.PrctlLaws as calling
use Rattle.hwp_cpu_control.proofs.NestedLaws as nesting
use Rattle.hwp_cpu_control.proofs.SpoilLaws as spoiling
use Rattle.hwp_evict.specs.declared.Evict.{Evict}
use Rattle.hwp_evict.specs.declared.Fsync.{Fsync}
use Rattle.hwp_evict.specs.Fsyncs as fsyncs
use Rattle.hwp_evict.specs.Evicts.{task as evict-task}
use Rattle.hwp_evict.proofs.EvictLaws as evicting
use Rattle.hwp_evict.proofs.EvictCosts.{evict-mild, evict-ranked, evict-tells}
use Rattle.hwp_evict.proofs.FsyncLaws as fsyncing
use Rattle.hwp_evict.proofs.FsyncLaws.{fsync-mild, fsync-ranked, fsync-tells}
use Rattle.hwp_cpu_access.proofs.of_hwp_fault.AccessCosts.{access-mild}
use Rattle.hwp_cpu_row.specs.hwp_claim.declared.fail.FailAt.{FailAt}
use Rattle.hwp_cpu_row.specs.hwp_claim.declared.fail.FailAt.TheVariants as fail_at
use Rattle.hwp_cpu_row.specs.hwp_claim.declared.FailAnswer.{FailAnswer}
use Rattle.hwp_cpu_row.specs.hwp_claim.declared.inject.Inject.{Inject}
use Rattle.hwp_cpu_row.specs.hwp_claim.declared.inject.InjectAt.{InjectAt}
use Rattle.hwp_cpu_row.specs.hwp_claim.declared.inject.InjectAt.TheVariants as inject_at
use Rattle.hwp_cpu_row.specs.hwp_claim.Fails as fails
use Rattle.hwp_cpu_row.specs.hwp_claim.Injects as injects
use Rattle.hwp_cpu_access.proofs.of_hwp_claim.InjectLaws as injecting
use Rattle.hwp_cpu_access.proofs.of_hwp_claim.InjectRank.{inject-lasting, inject-ranked, inject-tells}
use Rattle.hwp_cpu_row.specs.hwp_claim.declared.Handler.{Handler}
use Rattle.hwp_cpu_row.specs.hwp_claim.Handlers as handlers
use Rattle.hwp_cpu_access.specs.declared.Instruction.{Instruction}
use Rattle.hwp_cpu_access.specs.declared.InstructionAnswer.{InstructionAnswer}
use Rattle.hwp_cpu_access.specs.declared.instruction.InstructionAt.{InstructionAt}
use Rattle.hwp_cpu_access.specs.declared.instruction.InstructionAt.TheVariants as instruction_at
use Rattle.hwp_cpu_access.specs.Costs as instruction_costs
use Rattle.hwp_cpu_access.specs.Instructions as instructions
use Rattle.hwp_cpu_access.specs.Fits.{task as instruction-task}
use Rattle.hwp_cpu_access.proofs.InstructionLaws as instructing
use Rattle.hwp_cpu_access.proofs.InstructionRank.{instruction-lasting, instruction-ranked, instruction-tells}
use Rattle.hwp_cpu_access.specs.declared.Copying.{Copying}
use Rattle.hwp_cpu_access.specs.declared.copying.CopyingAt.{CopyingAt}
use Rattle.hwp_cpu_access.specs.declared.copying.CopyingAt.TheVariants as copying_at
use Rattle.hwp_cpu_access.specs.Copyings as copyings
use Rattle.hwp_cpu_access.specs.CopyCosts as copying_costs
use Rattle.hwp_cpu_access.specs.CopyFits.{task as copying-task}
use Rattle.hwp_cpu_access.proofs.CopyLaws as copying
use Rattle.hwp_cpu_access.proofs.CopyRank.{copy-lasting, copy-ranked, copy-tells}
use Rattle.hwp_scrub.specs.declared.Log.{Log}
use Rattle.hwp_scrub.specs.declared.Raise.{Raise}
use Rattle.hwp_scrub.specs.declared.raise.RaiseAt.{RaiseAt}
use Rattle.hwp_scrub.specs.declared.raise.RaiseAt.TheVariants as raise_at
use Rattle.hwp_scrub.specs.RaiseCosts as raise_costs
use Rattle.hwp_scrub.specs.Logs as logs
use Rattle.hwp_scrub.specs.Raises as raises
use Rattle.hwp_scrub.specs.RaiseFits.{task as raise-task}
use Rattle.hwp_scrub.proofs.LogLaws as logging
use Rattle.hwp_scrub.proofs.RaiseLaws as raising
use Rattle.hwp_scrub.proofs.RaiseRank.{raise-lasting, raise-ranked, raise-tells}
use Rattle.hwp_scrub.specs.declared.Scrub.{Scrub}
use Rattle.hwp_scrub.specs.declared.scrub.ScrubAt.{ScrubAt}
use Rattle.hwp_scrub.specs.declared.scrub.ScrubAt.TheVariants as scrub_at
use Rattle.hwp_scrub.specs.Costs as scrub_costs
use Rattle.hwp_scrub.specs.Scrubs as scrubs
use Rattle.hwp_scrub.specs.Fits.{task as scrub-task}
use Rattle.hwp_scrub.proofs.ScrubRank.{scrub-lasting, scrub-ranked, scrub-tells}
use Rattle.hwp_scrub.proofs.ScrubLaws as scrubbing
use Rattle.hwp_soft.specs.declared.Soft.{Soft}
use Rattle.hwp_soft.specs.declared.SoftAnswer.{SoftAnswer}
use Rattle.hwp_soft.specs.declared.soft.SoftAt.{SoftAt}
use Rattle.hwp_soft.specs.declared.soft.SoftAt.TheVariants as soft_at
use Rattle.hwp_soft.specs.Softs as softs
use Rattle.hwp_soft.proofs.SoftAsks as offlining
use Rattle.hwp_soft.proofs.SoftFits as softening
use Rattle.hwp_soft.specs.declared.Unpoison.{Unpoison}
use Rattle.hwp_soft.specs.Unpoisons as unpoisons
use Rattle.hwp_soft.specs.Offline.{task as soft-task}
use Rattle.hwp_soft.proofs.UnpoisonCosts as unpoisoning
use Rattle.hwp_soft.proofs.UnpoisonLaws as reviving
use Rattle.hwp_soft.proofs.SoftRank.{soft-ranked}
use Rattle.hwp_soft.proofs.SoftTells.{soft-lasting, soft-tells-class}
use Rattle.hwp_cpu_command.specs.declared.job.Job.{Job}
use Rattle.hwp_cpu_command.specs.declared.job.Job.TheVariants as jobs
use Rattle.hwp_cpu_command.specs.Answers.{fail_answer, instruction_answer, raise_answer, scrub_answer, soft_answer}
use Rattle.hwp_cpu_command.specs.Jobs.{Fits, FitsFrom, Next, Shows, aborts, answer, bare, claims, class, cost, plan, put, task as job-task, who}
use Rattle.hwp_cpu_command.proofs.JobRefusals.{handler-unanswered, refused-unanswered, soft-unanswered, unpoison-goes}

-- ---- tasks

pub can : (base : List Deed) (layout : Layout) (view : View) (j : Job) (step : Step) → FitsFrom base layout view j → plan j ≡ Some step → CanMake layout (who j) step (put j) view
can base layout view (jobs.Instruction x) step fits is = instructing.can layout view x step fits is
can base layout view (jobs.Copying x) step fits is = copying.can layout view x step fits is
can base layout view (jobs.Evict x) step fits is = evicting.can layout view x step fits is
can base layout view (jobs.Fsync x) step fits is = fsyncing.can layout view x step fits.1 is
can base layout view (jobs.Prctl x) step fits is = calling.can layout view x step fits.1 is
can base layout view (jobs.Denied x) step fits is = denying.can layout view x step fits.1 is
can base layout view (jobs.Fork x) step fits is = forking.can layout view x step fits.1 is
can base layout view (jobs.Log x) step fits is = logging.can layout view x step fits.1 is
can base layout view (jobs.Raise x) step fits is = raising.can layout view x step fits.1 is
can base layout view (jobs.Scrub x) step fits is = scrubbing.can layout view x step fits.1 is
can base layout view (jobs.Spoil x) step fits is = spoiling.can layout view x step fits.1 is
can base layout view (jobs.Nested x) step fits is = nesting.can layout view x step fits.1 is
can base layout view (jobs.Inject x) step fits is = injecting.can layout view x step fits.1 is
can base layout view (jobs.Soft x) step fits is = offlining.can layout view x step fits is
can base layout view (jobs.Unpoison x) step fits is = reviving.can layout view x step fits.1 is

-- what follows is of the same kind
follows-so : {T : Type 0} (of : T → Job) (base : List Deed) (layout : Layout) (new : View) (j after : Job) (t : T) → after ≡ of t → FitsFrom base layout new (of t) × ((who (of t)).cpu ≡ (who j).cpu)
    → FitsFrom base layout new after × ((who after).cpu ≡ (who j).cpu)
follows-so of base layout new j after t is fits = (subst (FitsFrom base layout new) (sym is) fits.0, ap (λ (x : Job). (who x).cpu) is ∙ fits.1)

-- and of the one part that there is
alone : {base : List Deed} {A B : Type 0} → base ≡ [] → A × B → ((base ≡ []) × A) × B
alone none both = ((none, both.0), both.1)

pub stays : (base : List Deed) (layout : Layout) (old new : View) (j : Job) (step : Step) (found : ℕ) (got : Option BodyValue) → FitsFrom base layout old j → plan j ≡ Some step → Steps layout (who j) step (logs (put j)) old new found got
    → Shows (bare j) found got × ((after : Job) (turn : Turn) → Next layout (bare j) found got after turn → FitsFrom base layout new after × ((who after).cpu ≡ (who j).cpu))
stays base layout old new (jobs.Instruction x) step found got fits is made =
    let s = instructing.stays layout old new x step found got fits is made in
    (s.0, λ after turn next. follows-so jobs.Instruction base layout new (jobs.Instruction x) after next.0 next.1 (s.1 next.0 turn next.2))
stays base layout old new (jobs.Copying x) step found got fits is made =
    let s = copying.stays layout old new x step found got fits is made in
    (s.0, λ after turn next. follows-so jobs.Copying base layout new (jobs.Copying x) after next.0 next.1 (s.1 next.0 turn next.2))
stays base layout old new (jobs.Evict x) step found got fits is made =
    let s = evicting.stays layout old new x step found got fits is made in
    (s.0, λ after turn next. follows-so jobs.Evict base layout new (jobs.Evict x) after next.0 next.1 (s.1 next.0 turn next.2))
stays base layout old new (jobs.Fsync x) step found got fits is made =
    let s = fsyncing.stays layout old new x step found got fits.1 is made in
    (s.0, λ after turn next. follows-so jobs.Fsync base layout new (jobs.Fsync x) after (fsyncs.next x found) next.0 (alone fits.0 (s.1 (fsyncs.next x found) turn (refl, next.1))))
stays base layout old new (jobs.Prctl x) step found got fits is made =
    let s = calling.stays layout old new x step found got fits.1 is made in
    (s.0, λ after turn next. follows-so jobs.Prctl base layout new (jobs.Prctl x) after (prctls.next x found) next.0 (alone fits.0 (s.1 (prctls.next x found) turn (refl, next.1))))
stays base layout old new (jobs.Denied x) step found got fits is made =
    let s = denying.stays layout old new x step found got fits.1 is made in
    (s.0, λ after turn next. follows-so jobs.Denied base layout new (jobs.Denied x) after (denieds.next x found) next.0 (alone fits.0 (s.1 (denieds.next x found) turn (refl, next.1))))
stays base layout old new (jobs.Fork x) step found got fits is made =
    let s = forking.stays layout old new x step found got fits.1 is made in
    (s.0, λ after turn next. follows-so jobs.Fork base layout new (jobs.Fork x) after (forks.next x found) next.0 (alone fits.0 (s.1 (forks.next x found) turn (refl, next.1))))
stays base layout old new (jobs.Log x) step found got fits is made =
    let s = logging.stays layout old new x step found got fits.1 is made in
    (s.0, λ after turn next. follows-so jobs.Log base layout new (jobs.Log x) after (logs.next x found) next.0 (alone fits.0 (s.1 (logs.next x found) turn (refl, next.1))))
stays base layout old new (jobs.Raise x) step found got fits is made =
    let s = raising.stays layout old new x step found got fits.1 is made in
    (s.0, λ after turn next. follows-so jobs.Raise base layout new (jobs.Raise x) after next.0 next.1 (alone fits.0 (s.1 next.0 turn next.2)))
stays base layout old new (jobs.Scrub x) step found got fits is made =
    let s = scrubbing.stays layout old new x step found got fits.1 is made in
    (s.0, λ after turn next. follows-so jobs.Scrub base layout new (jobs.Scrub x) after next.0 next.1 (alone fits.0 (s.1 next.0 turn next.2)))
stays base layout old new (jobs.Spoil x) step found got fits is made =
    let s = spoiling.stays layout old new x step found got fits.1 is made in
    (s.0, λ after turn next. follows-so jobs.Spoil base layout new (jobs.Spoil x) after (spoils.next x found) next.0 (alone fits.0 (s.1 (spoils.next x found) turn (refl, next.1))))
stays base layout old new (jobs.Nested x) step found got fits is made =
    let s = nesting.stays layout old new x step found got fits.1 is made in
    (s.0, λ after turn next. follows-so jobs.Nested base layout new (jobs.Nested x) after (nesteds.next x found) next.0 (alone fits.0 (s.1 (nesteds.next x found) turn (refl, next.1))))
stays base layout old new (jobs.Inject x) step found got fits is made =
    let s = injecting.stays layout old new x step found got fits.1 is made in
    (s.0, λ after turn next. follows-so jobs.Inject base layout new (jobs.Inject x) after next.0 next.1 (alone fits.0 (s.1 next.0 turn next.2)))
stays base layout old new (jobs.Soft x) step found got fits is made =
    let s = softening.stays layout old new x step found got fits is made in
    (s.0, λ after turn next. follows-so jobs.Soft base layout new (jobs.Soft x) after next.0 next.1 (s.1 next.0 turn next.2))
stays base layout old new (jobs.Unpoison x) step found got fits is made =
    let s = reviving.stays layout old new x step found got fits.1 is made in
    (s.0, λ after turn next. follows-so jobs.Unpoison base layout new (jobs.Unpoison x) after (unpoisons.next x found) next.0 (alone fits.0 (s.1 (unpoisons.next x found) turn (refl, next.1))))

-- whatever the command had made before
pub lawful : IsTask job-task
lawful = record {
  can = λ layout view j step fits is. can fits.0 layout view j step fits.1 is;
  stays = λ layout old new j step found got fits is made.
      let all = stays fits.0 layout old new j step found got fits.1 is made in (all.0, λ after turn follows. let next = all.1 after turn follows in ((fits.0, next.0), next.1));
}

-- ---- the rank

-- a turn of a command is one of the task of its kind
pub record IsTurnOf {S : Type 0} (m : Member S) (of : S → Job) (layout : Layout) (seat : ℕ) (a b : State) (s : S) (t : Job) (turn : Turn) : Type 0 where
  pub after : S
  pub after_is : t ≡ of after
  pub made : Made m layout seat a b s after turn

module _ {layout : Layout} {seat : ℕ} {a b : State} {t : Job} {turn : Turn} where
  of-instruction : {x : Instruction} → Made job-task layout seat a b (jobs.Instruction x) t turn → IsTurnOf instruction-task jobs.Instruction layout seat a b x t turn
  of-instruction made = record {
    after = made.follows.0;
    after_is = made.follows.1;
    made = record { step = made.step; found = made.found; got = made.got; rule = made.rule; kept = made.kept; fits = (made.fits.0, [], made.fits.1); planned = made.planned; move = made.move; brings = made.brings; follows = made.follows.2 };
  }

  of-copying : {x : Copying} → Made job-task layout seat a b (jobs.Copying x) t turn → IsTurnOf copying-task jobs.Copying layout seat a b x t turn
  of-copying made = record {
    after = made.follows.0;
    after_is = made.follows.1;
    made = record { step = made.step; found = made.found; got = made.got; rule = made.rule; kept = made.kept; fits = made.fits; planned = made.planned; move = made.move; brings = made.brings; follows = made.follows.2 };
  }

  of-evict : {x : Evict} → Made job-task layout seat a b (jobs.Evict x) t turn → IsTurnOf evict-task jobs.Evict layout seat a b x t turn
  of-evict made = record {
    after = made.follows.0;
    after_is = made.follows.1;
    made = record { step = made.step; found = made.found; got = made.got; rule = made.rule; kept = made.kept; fits = made.fits; planned = made.planned; move = made.move; brings = made.brings; follows = made.follows.2 };
  }

  of-fsync : {x : Fsync} → Made job-task layout seat a b (jobs.Fsync x) t turn → IsTurnOf fsyncs.task jobs.Fsync layout seat a b x t turn
  of-fsync {x} made = record {
    after = fsyncs.next x made.found;
    after_is = made.follows.0;
    made = record { step = made.step; found = made.found; got = made.got; rule = made.rule; kept = made.kept; fits = made.fits.1.1; planned = made.planned; move = made.move; brings = made.brings; follows = (refl, made.follows.1) };
  }

  of-prctl : {x : Prctl} → Made job-task layout seat a b (jobs.Prctl x) t turn → IsTurnOf prctls.task jobs.Prctl layout seat a b x t turn
  of-prctl {x} made = record {
    after = prctls.next x made.found;
    after_is = made.follows.0;
    made = record { step = made.step; found = made.found; got = made.got; rule = made.rule; kept = made.kept; fits = made.fits.1.1; planned = made.planned; move = made.move; brings = made.brings; follows = (refl, made.follows.1) };
  }

  of-denied : {x : Denied} → Made job-task layout seat a b (jobs.Denied x) t turn → IsTurnOf denieds.task jobs.Denied layout seat a b x t turn
  of-denied {x} made = record {
    after = denieds.next x made.found;
    after_is = made.follows.0;
    made = record { step = made.step; found = made.found; got = made.got; rule = made.rule; kept = made.kept; fits = made.fits.1.1; planned = made.planned; move = made.move; brings = made.brings; follows = (refl, made.follows.1) };
  }

  of-fork : {x : Fork} → Made job-task layout seat a b (jobs.Fork x) t turn → IsTurnOf forks.task jobs.Fork layout seat a b x t turn
  of-fork {x} made = record {
    after = forks.next x made.found;
    after_is = made.follows.0;
    made = record { step = made.step; found = made.found; got = made.got; rule = made.rule; kept = made.kept; fits = made.fits.1.1; planned = made.planned; move = made.move; brings = made.brings; follows = (refl, made.follows.1) };
  }

  of-log : {x : Log} → Made job-task layout seat a b (jobs.Log x) t turn → IsTurnOf logs.task jobs.Log layout seat a b x t turn
  of-log {x} made = record {
    after = logs.next x made.found;
    after_is = made.follows.0;
    made = record { step = made.step; found = made.found; got = made.got; rule = made.rule; kept = made.kept; fits = made.fits.1.1; planned = made.planned; move = made.move; brings = made.brings; follows = (refl, made.follows.1) };
  }

  of-raise : {x : Raise} → Made job-task layout seat a b (jobs.Raise x) t turn → IsTurnOf raise-task jobs.Raise layout seat a b x t turn
  of-raise made = record {
    after = made.follows.0;
    after_is = made.follows.1;
    made = record { step = made.step; found = made.found; got = made.got; rule = made.rule; kept = made.kept; fits = made.fits.1.1; planned = made.planned; move = made.move; brings = made.brings; follows = made.follows.2 };
  }

  of-scrub : {x : Scrub} → Made job-task layout seat a b (jobs.Scrub x) t turn → IsTurnOf scrub-task jobs.Scrub layout seat a b x t turn
  of-scrub made = record {
    after = made.follows.0;
    after_is = made.follows.1;
    made = record { step = made.step; found = made.found; got = made.got; rule = made.rule; kept = made.kept; fits = made.fits.1.1; planned = made.planned; move = made.move; brings = made.brings; follows = made.follows.2 };
  }

  of-spoil : {x : Spoil} → Made job-task layout seat a b (jobs.Spoil x) t turn → IsTurnOf spoils.task jobs.Spoil layout seat a b x t turn
  of-spoil {x} made = record {
    after = spoils.next x made.found;
    after_is = made.follows.0;
    made = record { step = made.step; found = made.found; got = made.got; rule = made.rule; kept = made.kept; fits = made.fits.1.1; planned = made.planned; move = made.move; brings = made.brings; follows = (refl, made.follows.1) };
  }

  of-nested : {x : Nested} → Made job-task layout seat a b (jobs.Nested x) t turn → IsTurnOf nesteds.task jobs.Nested layout seat a b x t turn
  of-nested {x} made = record {
    after = nesteds.next x made.found;
    after_is = made.follows.0;
    made = record { step = made.step; found = made.found; got = made.got; rule = made.rule; kept = made.kept; fits = made.fits.1.1; planned = made.planned; move = made.move; brings = made.brings; follows = (refl, made.follows.1) };
  }

  of-inject : {x : Inject} → Made job-task layout seat a b (jobs.Inject x) t turn → IsTurnOf injects.task jobs.Inject layout seat a b x t turn
  of-inject made = record {
    after = made.follows.0;
    after_is = made.follows.1;
    made = record { step = made.step; found = made.found; got = made.got; rule = made.rule; kept = made.kept; fits = made.fits.1.1; planned = made.planned; move = made.move; brings = made.brings; follows = made.follows.2 };
  }

  of-soft : {x : Soft} → Made job-task layout seat a b (jobs.Soft x) t turn → IsTurnOf soft-task jobs.Soft layout seat a b x t turn
  of-soft made = record {
    after = made.follows.0;
    after_is = made.follows.1;
    made = record { step = made.step; found = made.found; got = made.got; rule = made.rule; kept = made.kept; fits = made.fits; planned = made.planned; move = made.move; brings = made.brings; follows = made.follows.2 };
  }

  of-unpoison : {x : Unpoison} → Made job-task layout seat a b (jobs.Unpoison x) t turn → IsTurnOf unpoisons.task jobs.Unpoison layout seat a b x t turn
  of-unpoison {x} made = record {
    after = unpoisons.next x made.found;
    after_is = made.follows.0;
    made = record { step = made.step; found = made.found; got = made.got; rule = made.rule; kept = made.kept; fits = made.fits.1.1; planned = made.planned; move = made.move; brings = made.brings; follows = (refl, made.follows.1) };
  }

-- so its cost falls as that task's does
module _ {S : Type 0} (m : Member S) (of : S → Job) (same : (s : S) (w : Words) → cost (of s) w ≡ m.cost s w) (alike : (s : S) → aborts (of s) ≡ m.aborts s) {layout : Layout} {seat : ℕ} {a b : State} {s : S} {t : Job} {turn : Turn} where
  falls-so : (made : IsTurnOf m of layout seat a b s t turn) → CostFalls m layout a b s made.after → cost t (words_at layout b) < cost (of s) (words_at layout a)
  falls-so made less =
      subst (λ (u : Job). cost u (words_at layout b) < cost (of s) (words_at layout a)) (sym made.after_is)
      (subst (λ (n : ℕ). n < cost (of s) (words_at layout a)) (sym (same made.after (words_at layout b))) (subst (λ (n : ℕ). m.cost made.after (words_at layout b) < n) (sym (same s (words_at layout a))) less))

  lowers-so : (made : IsTurnOf m of layout seat a b s t turn) → CostFalls m layout a b s made.after ⊎ HasFailed m layout a b s made.after → CostFalls job-task layout a b (of s) t ⊎ HasFailed job-task layout a b (of s) t
  lowers-so made (inl less) = inl (falls-so made less)
  lowers-so made (inr fails) = inr (record { fewer = fails.fewer; bounded = bounded })
    where
      bounded : cost t (words_at layout b) < cost (of s) (words_at layout a) + failure_weight
      bounded = subst (λ (u : Job). cost u (words_at layout b) < cost (of s) (words_at layout a) + failure_weight) (sym made.after_is)
          (let now : cost (of made.after) (words_at layout b) ≡ m.cost made.after (words_at layout b) = same made.after (words_at layout b) in
          let was : cost (of s) (words_at layout a) ≡ m.cost s (words_at layout a) = same s (words_at layout a) in
          omega (arith, fails.bounded, now, was))

  waits-so : (made : IsTurnOf m of layout seat a b s t turn) → CostFalls m layout a b s made.after ⊎ ((m.aborts made.after ≡ true) × OtherHand a seat) → CostFalls job-task layout a b (of s) t ⊎ ((aborts t ≡ true) × OtherHand a seat)
  waits-so made (inl less) = inl (falls-so made less)
  waits-so made (inr gives) = inr (ap aborts made.after_is ∙ alike made.after ∙ gives.0, gives.1)

falls : (layout : Layout) (seat : ℕ) (a b : State) (s t : Job) (turn : Turn) → Made job-task layout seat a b s t turn → is_waits turn ≡ false → CostFalls job-task layout a b s t ⊎ HasFailed job-task layout a b s t
falls layout seat a b (jobs.Instruction x) t turn made goes = let m = of-instruction made in lowers-so instruction-task jobs.Instruction (λ s w. refl) (λ s. refl) m (instruction-ranked.falls layout seat a b x m.after turn m.made goes)
falls layout seat a b (jobs.Copying x) t turn made goes = let m = of-copying made in lowers-so copying-task jobs.Copying (λ s w. refl) (λ s. refl) m (copy-ranked.falls layout seat a b x m.after turn m.made goes)
falls layout seat a b (jobs.Evict x) t turn made goes = let m = of-evict made in lowers-so evict-task jobs.Evict (λ s w. refl) (λ s. refl) m (evict-ranked.falls layout seat a b x m.after turn m.made goes)
falls layout seat a b (jobs.Fsync x) t turn made goes = let m = of-fsync made in lowers-so fsyncs.task jobs.Fsync (λ s w. refl) (λ s. refl) m (fsync-ranked.falls layout seat a b x m.after turn m.made goes)
falls layout seat a b (jobs.Prctl x) t turn made goes = let m = of-prctl made in lowers-so prctls.task jobs.Prctl (λ s w. refl) (λ s. refl) m (calling.ranked.falls layout seat a b x m.after turn m.made goes)
falls layout seat a b (jobs.Denied x) t turn made goes = let m = of-denied made in lowers-so denieds.task jobs.Denied (λ s w. refl) (λ s. refl) m (denying.ranked.falls layout seat a b x m.after turn m.made goes)
falls layout seat a b (jobs.Fork x) t turn made goes = let m = of-fork made in lowers-so forks.task jobs.Fork (λ s w. refl) (λ s. refl) m (forking.ranked.falls layout seat a b x m.after turn m.made goes)
falls layout seat a b (jobs.Log x) t turn made goes = let m = of-log made in lowers-so logs.task jobs.Log (λ s w. refl) (λ s. refl) m (logging.ranked.falls layout seat a b x m.after turn m.made goes)
falls layout seat a b (jobs.Raise x) t turn made goes = let m = of-raise made in lowers-so raise-task jobs.Raise (λ s w. refl) (λ s. refl) m (raise-ranked.falls layout seat a b x m.after turn m.made goes)
falls layout seat a b (jobs.Scrub x) t turn made goes = let m = of-scrub made in lowers-so scrub-task jobs.Scrub (λ s w. refl) (λ s. refl) m (scrub-ranked.falls layout seat a b x m.after turn m.made goes)
falls layout seat a b (jobs.Spoil x) t turn made goes = let m = of-spoil made in lowers-so spoils.task jobs.Spoil (λ s w. refl) (λ s. refl) m (spoiling.ranked.falls layout seat a b x m.after turn m.made goes)
falls layout seat a b (jobs.Nested x) t turn made goes = let m = of-nested made in lowers-so nesteds.task jobs.Nested (λ s w. refl) (λ s. refl) m (nesting.ranked.falls layout seat a b x m.after turn m.made goes)
falls layout seat a b (jobs.Inject x) t turn made goes = let m = of-inject made in lowers-so injects.task jobs.Inject (λ s w. refl) (λ s. refl) m (inject-ranked.falls layout seat a b x m.after turn m.made goes)
falls layout seat a b (jobs.Soft x) t turn made goes = let m = of-soft made in lowers-so soft-task jobs.Soft (λ s w. refl) (λ s. refl) m (soft-ranked.falls layout seat a b x m.after turn m.made goes)
falls layout seat a b (jobs.Unpoison x) t turn made goes = let m = of-unpoison made in lowers-so unpoisons.task jobs.Unpoison (λ s w. refl) (λ s. refl) m (unpoisoning.ranked.falls layout seat a b x m.after turn m.made goes)

waits : (layout : Layout) (seat : ℕ) (a b : State) (s t : Job) (turn : Turn) → Made job-task layout seat a b s t turn → is_waits turn ≡ true → Quiet (class s) layout a seat → CostFalls job-task layout a b s t ⊎ ((aborts t ≡ true) × OtherHand a seat)
waits layout seat a b (jobs.Instruction x) t turn made is quiet = let m = of-instruction made in waits-so instruction-task jobs.Instruction (λ s w. refl) (λ s. refl) m (instruction-ranked.waits layout seat a b x m.after turn m.made is quiet)
waits layout seat a b (jobs.Copying x) t turn made is quiet = let m = of-copying made in waits-so copying-task jobs.Copying (λ s w. refl) (λ s. refl) m (copy-ranked.waits layout seat a b x m.after turn m.made is quiet)
waits layout seat a b (jobs.Evict x) t turn made is quiet = let m = of-evict made in waits-so evict-task jobs.Evict (λ s w. refl) (λ s. refl) m (evict-ranked.waits layout seat a b x m.after turn m.made is quiet)
waits layout seat a b (jobs.Fsync x) t turn made is quiet = let m = of-fsync made in waits-so fsyncs.task jobs.Fsync (λ s w. refl) (λ s. refl) m (fsync-ranked.waits layout seat a b x m.after turn m.made is quiet)
waits layout seat a b (jobs.Prctl x) t turn made is quiet = let m = of-prctl made in waits-so prctls.task jobs.Prctl (λ s w. refl) (λ s. refl) m (calling.ranked.waits layout seat a b x m.after turn m.made is quiet)
waits layout seat a b (jobs.Denied x) t turn made is quiet = let m = of-denied made in waits-so denieds.task jobs.Denied (λ s w. refl) (λ s. refl) m (denying.ranked.waits layout seat a b x m.after turn m.made is quiet)
waits layout seat a b (jobs.Fork x) t turn made is quiet = let m = of-fork made in waits-so forks.task jobs.Fork (λ s w. refl) (λ s. refl) m (forking.ranked.waits layout seat a b x m.after turn m.made is quiet)
waits layout seat a b (jobs.Log x) t turn made is quiet = let m = of-log made in waits-so logs.task jobs.Log (λ s w. refl) (λ s. refl) m (logging.ranked.waits layout seat a b x m.after turn m.made is quiet)
waits layout seat a b (jobs.Raise x) t turn made is quiet = let m = of-raise made in waits-so raise-task jobs.Raise (λ s w. refl) (λ s. refl) m (raise-ranked.waits layout seat a b x m.after turn m.made is quiet)
waits layout seat a b (jobs.Scrub x) t turn made is quiet = let m = of-scrub made in waits-so scrub-task jobs.Scrub (λ s w. refl) (λ s. refl) m (scrub-ranked.waits layout seat a b x m.after turn m.made is quiet)
waits layout seat a b (jobs.Spoil x) t turn made is quiet = let m = of-spoil made in waits-so spoils.task jobs.Spoil (λ s w. refl) (λ s. refl) m (spoiling.ranked.waits layout seat a b x m.after turn m.made is quiet)
waits layout seat a b (jobs.Nested x) t turn made is quiet = let m = of-nested made in waits-so nesteds.task jobs.Nested (λ s w. refl) (λ s. refl) m (nesting.ranked.waits layout seat a b x m.after turn m.made is quiet)
waits layout seat a b (jobs.Inject x) t turn made is quiet = let m = of-inject made in waits-so injects.task jobs.Inject (λ s w. refl) (λ s. refl) m (inject-ranked.waits layout seat a b x m.after turn m.made is quiet)
waits layout seat a b (jobs.Soft x) t turn made is quiet = let m = of-soft made in waits-so soft-task jobs.Soft (λ s w. refl) (λ s. refl) m (soft-ranked.waits layout seat a b x m.after turn m.made is quiet)
waits layout seat a b (jobs.Unpoison x) t turn made is quiet = let m = of-unpoison made in waits-so unpoisons.task jobs.Unpoison (λ s w. refl) (λ s. refl) m (unpoisoning.ranked.waits layout seat a b x m.after turn m.made is quiet)

classes : (j : Job) → (1 ≤ class j) × (class j ≤ 4)
classes (jobs.Instruction x) = instruction-ranked.classes x
classes (jobs.Copying x) = copy-ranked.classes x
classes (jobs.Evict x) = evict-ranked.classes x
classes (jobs.Fsync x) = fsync-ranked.classes x
classes (jobs.Prctl x) = calling.ranked.classes x
classes (jobs.Denied x) = denying.ranked.classes x
classes (jobs.Fork x) = forking.ranked.classes x
classes (jobs.Log x) = logging.ranked.classes x
classes (jobs.Raise x) = raise-ranked.classes x
classes (jobs.Scrub x) = scrub-ranked.classes x
classes (jobs.Spoil x) = spoiling.ranked.classes x
classes (jobs.Nested x) = nesting.ranked.classes x
classes (jobs.Inject x) = inject-ranked.classes x
classes (jobs.Soft x) = soft-ranked.classes x
classes (jobs.Unpoison x) = unpoisoning.ranked.classes x

small : (layout : Layout) (a : State) (seat : ℕ) (j : Job) → Holds layout a → Fits layout (view_of a seat) j → cost j (words_at layout a) < top
small layout a seat (jobs.Instruction x) rule fits = instruction-ranked.small layout a seat x rule (fits.0, [], fits.1)
small layout a seat (jobs.Copying x) rule fits = copy-ranked.small layout a seat x rule fits
small layout a seat (jobs.Evict x) rule fits = evict-ranked.small layout a seat x rule fits
small layout a seat (jobs.Fsync x) rule fits = fsync-ranked.small layout a seat x rule fits.1.1
small layout a seat (jobs.Prctl x) rule fits = calling.ranked.small layout a seat x rule fits.1.1
small layout a seat (jobs.Denied x) rule fits = denying.ranked.small layout a seat x rule fits.1.1
small layout a seat (jobs.Fork x) rule fits = forking.ranked.small layout a seat x rule fits.1.1
small layout a seat (jobs.Log x) rule fits = logging.ranked.small layout a seat x rule fits.1.1
small layout a seat (jobs.Raise x) rule fits = raise-ranked.small layout a seat x rule fits.1.1
small layout a seat (jobs.Scrub x) rule fits = scrub-ranked.small layout a seat x rule fits.1.1
small layout a seat (jobs.Spoil x) rule fits = spoiling.ranked.small layout a seat x rule fits.1.1
small layout a seat (jobs.Nested x) rule fits = nesting.ranked.small layout a seat x rule fits.1.1
small layout a seat (jobs.Inject x) rule fits = inject-ranked.small layout a seat x rule fits.1.1
small layout a seat (jobs.Soft x) rule fits = soft-ranked.small layout a seat x rule fits
small layout a seat (jobs.Unpoison x) rule fits = unpoisoning.ranked.small layout a seat x rule fits.1.1

-- a command that claims a frame alone can give up what it has begun, and then it looks at its frame again
leaves : (layout : Layout) (seat : ℕ) (a b : State) (s t : Job) (turn : Turn) → Made job-task layout seat a b s t turn → aborts s ≡ true → (plan t ≡ None) ⊎ (1 < class t)
leaves layout seat a b (jobs.Instruction x) t turn made is = let m = of-instruction made in subst (λ (j : Job). (plan j ≡ None) ⊎ (1 < class j)) (sym m.after_is) (instruction-ranked.leaves layout seat a b x m.after turn m.made is)
leaves layout seat a b (jobs.Copying x) t turn made is = let m = of-copying made in subst (λ (j : Job). (plan j ≡ None) ⊎ (1 < class j)) (sym m.after_is) (copy-ranked.leaves layout seat a b x m.after turn m.made is)
leaves layout seat a b (jobs.Raise x) t turn made is = let m = of-raise made in subst (λ (j : Job). (plan j ≡ None) ⊎ (1 < class j)) (sym m.after_is) (raise-ranked.leaves layout seat a b x m.after turn m.made is)
leaves layout seat a b (jobs.Scrub x) t turn made is = let m = of-scrub made in subst (λ (j : Job). (plan j ≡ None) ⊎ (1 < class j)) (sym m.after_is) (scrub-ranked.leaves layout seat a b x m.after turn m.made is)
leaves layout seat a b (jobs.Inject x) t turn made is = let m = of-inject made in subst (λ (j : Job). (plan j ≡ None) ⊎ (1 < class j)) (sym m.after_is) (inject-ranked.leaves layout seat a b x m.after turn m.made is)
leaves layout seat a b (jobs.Soft x) t turn made is = let m = of-soft made in subst (λ (j : Job). (plan j ≡ None) ⊎ (1 < class j)) (sym m.after_is) (soft-ranked.leaves layout seat a b x m.after turn m.made is)
leaves layout seat a b _ t turn made is = absurd (both_ways true (sym is) refl)

-- a command that poisons no frame with its step, and claims none, has no failure to end
abbrev Owns : Layout → State → State → Job → Job → Frame → ℕ → Type 0
Owns layout a b s t frame cycle = (claims t ≡ Some (frame, cycle)) ⊎ (Pending (words_at layout a) frame cycle × (claims s ≢ Some (frame, cycle)))

owns-none : {layout : Layout} {seat : ℕ} {a b : State} {s t : Job} {turn : Turn} (frame : Frame) (cycle : ℕ) (made : Made job-task layout seat a b s t turn) → IsMild made.step → claims s ≡ None → Pending (words_at layout b) frame cycle
    → Pending (words_at layout a) frame cycle × (claims s ≢ Some (frame, cycle))
owns-none frame cycle made mild none pending = (pending-kept made mild frame cycle pending, λ claimed. none-some (frame, cycle) (sym none ∙ claimed))

owns : (layout : Layout) (seat : ℕ) (a b : State) (s t : Job) (turn : Turn) (frame : Frame) (cycle : ℕ) → Made job-task layout seat a b s t turn → is_refused turn ≡ false → Pending (words_at layout b) frame cycle → Owns layout a b s t frame cycle
owns layout seat a b (jobs.Instruction x) t turn frame cycle made going pending =
    let m = of-instruction made in subst (λ (j : Job). Owns layout a b (jobs.Instruction x) j frame cycle) (sym m.after_is) (instruction-ranked.owns layout seat a b x m.after turn frame cycle m.made going pending)
owns layout seat a b (jobs.Copying x) t turn frame cycle made going pending =
    let m = of-copying made in subst (λ (j : Job). Owns layout a b (jobs.Copying x) j frame cycle) (sym m.after_is) (copy-ranked.owns layout seat a b x m.after turn frame cycle m.made going pending)
owns layout seat a b (jobs.Raise x) t turn frame cycle made going pending =
    let m = of-raise made in subst (λ (j : Job). Owns layout a b (jobs.Raise x) j frame cycle) (sym m.after_is) (raise-ranked.owns layout seat a b x m.after turn frame cycle m.made going pending)
owns layout seat a b (jobs.Scrub x) t turn frame cycle made going pending =
    let m = of-scrub made in subst (λ (j : Job). Owns layout a b (jobs.Scrub x) j frame cycle) (sym m.after_is) (scrub-ranked.owns layout seat a b x m.after turn frame cycle m.made going pending)
owns layout seat a b (jobs.Inject x) t turn frame cycle made going pending =
    let m = of-inject made in subst (λ (j : Job). Owns layout a b (jobs.Inject x) j frame cycle) (sym m.after_is) (inject-ranked.owns layout seat a b x m.after turn frame cycle m.made going pending)
owns layout seat a b (jobs.Soft x) t turn frame cycle made going pending =
    let m = of-soft made in subst (λ (j : Job). Owns layout a b (jobs.Soft x) j frame cycle) (sym m.after_is) (soft-ranked.owns layout seat a b x m.after turn frame cycle m.made going pending)
owns layout seat a b (jobs.Unpoison x) t turn frame cycle made going pending =
    let m = of-unpoison made in subst (λ (j : Job). Owns layout a b (jobs.Unpoison x) j frame cycle) (sym m.after_is) (unpoisoning.ranked.owns layout seat a b x m.after turn frame cycle m.made going pending)
owns layout seat a b (jobs.Evict x) t turn frame cycle made going pending = inr (owns-none frame cycle made (evict-mild x made.step made.planned) refl pending)
owns layout seat a b (jobs.Fsync x) t turn frame cycle made going pending = inr (owns-none frame cycle made (fsync-mild x made.step made.planned) refl pending)
owns layout seat a b (jobs.Prctl x) t turn frame cycle made going pending = inr (owns-none frame cycle made (calling.mild x made.step made.planned) refl pending)
owns layout seat a b (jobs.Denied x) t turn frame cycle made going pending = inr (owns-none frame cycle made (denying.mild x made.step made.planned) refl pending)
owns layout seat a b (jobs.Fork x) t turn frame cycle made going pending = inr (owns-none frame cycle made (forking.mild x made.step made.planned) refl pending)
owns layout seat a b (jobs.Log x) t turn frame cycle made going pending = inr (owns-none frame cycle made (logging.mild x made.step made.planned) refl pending)
owns layout seat a b (jobs.Spoil x) t turn frame cycle made going pending = inr (owns-none frame cycle made (spoiling.mild x made.step made.planned) refl pending)
owns layout seat a b (jobs.Nested x) t turn frame cycle made going pending = inr (owns-none frame cycle made (nesting.mild x made.step made.planned) refl pending)

-- an answered failure has come to an end, and was refused no memory
unclaimed : (x : InjectAt) {r : Answer} → option_map fail_answer (injects.answer_at x) ≡ Some r → injects.claims_at x ≡ None
unclaimed inject_at.LoadStop is = refl
unclaimed inject_at.Stopped is = refl
unclaimed (inject_at.Fail f) {r} is = which f.at is
  where
    which : (y : FailAt) → option_map fail_answer (fails.answer_at y) ≡ Some r → fails.claims_at f.frame y ≡ None
    which (fail_at.Over answer) said = refl
    which _ said = absurd (none-some r said)

unclaimed-instruction : (i : Instruction) {r : Answer} → answer (jobs.Instruction i) ≡ Some r → instruction_costs.claims i ≡ None
unclaimed-instruction i {r} is = which i.at is
  where
    which : (x : InstructionAt) → option_map instruction_answer (instructions.answer_at x) ≡ Some r → instruction_costs.claims_at x ≡ None
    which (instruction_at.Over o) said = refl
    which _ said = absurd (none-some r said)

unclaimed-copying : (c : Copying) {r : Answer} → answer (jobs.Copying c) ≡ Some r → copying_costs.claims c ≡ None
unclaimed-copying c {r} is = which c.at is
  where
    which : (x : CopyingAt) → option_map instruction_answer (copyings.answer_at c.instruction x) ≡ Some r → copying_costs.claims_at c.instruction x ≡ None
    which copying_at.Access said = unclaimed-instruction c.instruction said
    which (copying_at.Free e stored) said = refl
    which (copying_at.Over answer) said = refl

unclaimed-raise : (x : Raise) {r : Answer} → answer (jobs.Raise x) ≡ Some r → raise_costs.claims x ≡ None
unclaimed-raise x {r} is = which x.at is
  where
    which : (y : RaiseAt) → option_map (raise_answer (length x.lines.told)) (raises.answer_at y) ≡ Some r → raise_costs.claims_at y ≡ None
    which (raise_at.Over o) said = refl
    which _ said = absurd (none-some r said)

unclaimed-scrub : (x : Scrub) {r : Answer} → answer (jobs.Scrub x) ≡ Some r → scrub_costs.claims x ≡ None
unclaimed-scrub x {r} is = which x.at is
  where
    which : (y : ScrubAt) → option_map (scrub_answer (length x.lines.told)) (scrubs.answer_at y) ≡ Some r → scrub_costs.claims_at y ≡ None
    which (scrub_at.Over o) said = refl
    which _ said = absurd (none-some r said)

unclaimed-soft : (x : Soft) {r : Answer} → answer (jobs.Soft x) ≡ Some r → softs.claims x ≡ None
unclaimed-soft x {r} is = which x.at is
  where
    which : (y : SoftAt) → option_map soft_answer (softs.answer_at y) ≡ Some r → softs.claims_at x.frame y ≡ None
    which (soft_at.Over o) said = refl
    which _ said = absurd (none-some r said)

-- a command that is answered leaves no failure of its own
abbrev OwnsNone : Layout → State → Job → Frame → ℕ → Type 0
OwnsNone layout a s frame cycle = Pending (words_at layout a) frame cycle × (claims s ≢ Some (frame, cycle))

-- as it was refused no memory, and claims nothing in the end
settled : {layout : Layout} {seat : ℕ} {a b : State} {s t : Job} {turn : Turn} (frame : Frame) (cycle : ℕ) (made : Made job-task layout seat a b s t turn) {r : Answer} → answer t ≡ Some r → Pending (words_at layout b) frame cycle
    → (is_refused turn ≡ true → answer t ≡ None) → claims t ≡ None → OwnsNone layout a s frame cycle
settled {layout} {seat} {a} {b} {s} {t} {turn} frame cycle made {r} is pending refused none = which (owns layout seat a b s t turn frame cycle made (false_from_ne_true (is_refused turn) (λ not_. none-some r (sym (refused not_) ∙ is))) pending)
  where
    which : Owns layout a b s t frame cycle → OwnsNone layout a s frame cycle
    which (inl claimed) = absurd (none-some (frame, cycle) (sym none ∙ claimed))
    which (inr was) = was

module _ {layout : Layout} {seat : ℕ} {a b : State} {t : Job} {turn : Turn} (frame : Frame) (cycle : ℕ) {r : Answer} (is : answer t ≡ Some r) (pending : Pending (words_at layout b) frame cycle) where
  instruction-settled : (x : Instruction) → Made job-task layout seat a b (jobs.Instruction x) t turn → OwnsNone layout a (jobs.Instruction x) frame cycle
  instruction-settled x made = which x.at refl made.planned m.made.follows
    where
      m : IsTurnOf instruction-task jobs.Instruction layout seat a b x t turn
      m = of-instruction made

      refused : (f : Frame) (h : Handler) → instructions.FollowsAt layout (instructions.bare x) (instruction_at.Handle f (handlers.bare h)) m.made.found m.made.got m.after turn → is_refused turn ≡ true → answer t ≡ None
      refused f h next no_ = ap answer m.after_is ∙ ap (λ (k : Instruction). answer (jobs.Instruction k)) next.next_is
          ∙ ap (λ (o : Option Bool). answer (jobs.Instruction (instructions.after_handler_by (instructions.bare x) f next.handler o))) (handler-unanswered layout h next.handler m.made.found m.made.got turn next.follows no_)

      which : (y : InstructionAt) → x.at ≡ y → instructions.plan_at y ≡ Some made.step → instructions.FollowsAt layout (instructions.bare x) (instructions.bare_at y) m.made.found m.made.got m.after turn → OwnsNone layout a (jobs.Instruction x) frame cycle
      which (instruction_at.Handle f h) at e next =
          settled frame cycle made is pending (refused f h next) (ap claims m.after_is ∙ unclaimed-instruction m.after (sym (ap answer m.after_is) ∙ is))
      which (instruction_at.Access c) at e next = owns-none frame cycle made (access-mild c made.step e) (ap instruction_costs.claims_at at) pending
      which (instruction_at.LoadFrame f) at e next = owns-none frame cycle made (subst IsMild (same_Some (steps.Load (places.Frame f)) made.step e) tt) (ap instruction_costs.claims_at at) pending
      which (instruction_at.LoadStop f) at e next = owns-none frame cycle made (subst IsMild (same_Some (steps.Load places.Stop) made.step e) tt) (ap instruction_costs.claims_at at) pending
      which instruction_at.GiveUp at e next = owns-none frame cycle made (subst IsMild (same_Some steps.GiveUp made.step e) tt) (ap instruction_costs.claims_at at) pending
      which (instruction_at.Paused pause) at e next = absurd (none-some made.step e)
      which (instruction_at.Over o) at e next = absurd (none-some made.step e)

  -- a copy by its access
  copying-settled : (x : Copying) → Made job-task layout seat a b (jobs.Copying x) t turn → OwnsNone layout a (jobs.Copying x) frame cycle
  copying-settled x made = by x.at refl made.planned m.made.follows
    where
      m : IsTurnOf copying-task jobs.Copying layout seat a b x t turn
      m = of-copying made

      by : (z : CopyingAt) → x.at ≡ z → copyings.plan_at x.instruction z ≡ Some made.step → copyings.FollowsAt layout (copyings.bare_at x z) (copyings.bare_at x z).at m.made.found m.made.got m.after turn → OwnsNone layout a (jobs.Copying x) frame cycle
      by copying_at.Access own e next = which x.instruction.at refl e next.follows
        where
          unclaimed_at : (y : InstructionAt) → x.instruction.at ≡ y → instruction_costs.claims_at y ≡ None → claims (jobs.Copying x) ≡ None
          unclaimed_at y at none = ap (copying_costs.claims_at x.instruction) own ∙ ap instruction_costs.claims_at at ∙ none

          -- an access that was refused memory has no answer, and so the copy has none
          refused : (f : Frame) (h : Handler) → instructions.FollowsAt layout (instructions.bare x.instruction) (instruction_at.Handle f (handlers.bare h)) m.made.found m.made.got next.instruction turn → is_refused turn ≡ true → answer t ≡ None
          refused f h then no_ =
              let none : instructions.answer next.instruction ≡ None =
              ap instructions.answer then.next_is ∙ ap (λ (o : Option Bool). instructions.answer (instructions.after_handler_by (instructions.bare x.instruction) f then.handler o)) (handler-unanswered layout h then.handler m.made.found m.made.got turn then.follows no_) in
              ap answer m.after_is ∙ ap (λ (c : Copying). answer (jobs.Copying c)) next.next_is
              ∙ ap (λ (o : Option InstructionAnswer). answer (jobs.Copying (copyings.after_access (record (copyings.bare_at x copying_at.Access) { instruction = next.instruction }) o))) none ∙ ap (λ (o : Option InstructionAnswer). option_map instruction_answer o) none

          which : (y : InstructionAt) → x.instruction.at ≡ y → instructions.plan_at y ≡ Some made.step → instructions.FollowsAt layout (instructions.bare x.instruction) (instructions.bare_at y) m.made.found m.made.got next.instruction turn → OwnsNone layout a (jobs.Copying x) frame cycle
          which (instruction_at.Handle f h) at e_ then =
              settled frame cycle made is pending (refused f h then) (ap claims m.after_is ∙ unclaimed-copying m.after (sym (ap answer m.after_is) ∙ is))
          which (instruction_at.Access c) at e_ then = owns-none frame cycle made (access-mild c made.step e_) (unclaimed_at (instruction_at.Access c) at refl) pending
          which (instruction_at.LoadFrame f) at e_ then = owns-none frame cycle made (subst IsMild (same_Some (steps.Load (places.Frame f)) made.step e_) tt) (unclaimed_at (instruction_at.LoadFrame f) at refl) pending
          which (instruction_at.LoadStop f) at e_ then = owns-none frame cycle made (subst IsMild (same_Some (steps.Load places.Stop) made.step e_) tt) (unclaimed_at (instruction_at.LoadStop f) at refl) pending
          which instruction_at.GiveUp at e_ then = owns-none frame cycle made (subst IsMild (same_Some steps.GiveUp made.step e_) tt) (unclaimed_at instruction_at.GiveUp at refl) pending
          which (instruction_at.Paused pause) at e_ then = absurd (none-some made.step e_)
          which (instruction_at.Over o) at e_ then = absurd (none-some made.step e_)
      by (copying_at.Free e stored) own plans next = owns-none frame cycle made (evict-mild e made.step plans) (ap (copying_costs.claims_at x.instruction) own) pending
      by (copying_at.Over o) own plans next = absurd (none-some made.step plans)

  raise-settled : (x : Raise) → Made job-task layout seat a b (jobs.Raise x) t turn → OwnsNone layout a (jobs.Raise x) frame cycle
  raise-settled x made = which x.at refl made.planned m.made.follows
    where
      m : IsTurnOf raise-task jobs.Raise layout seat a b x t turn
      m = of-raise made

      refused : (h : Handler) → raises.FollowsAt layout (raises.bare x) (raise_at.Handle (handlers.bare h)) m.made.found m.made.got m.after turn → is_refused turn ≡ true → answer t ≡ None
      refused h next no_ = ap answer m.after_is ∙ ap (λ (k : Raise). answer (jobs.Raise k)) next.next_is
          ∙ ap (λ (o : Option Bool). answer (jobs.Raise (raises.after_handler_by (raises.bare x) next.handler o))) (handler-unanswered layout h next.handler m.made.found m.made.got turn next.follows no_)

      which : (y : RaiseAt) → x.at ≡ y → raises.plan_at y ≡ Some made.step → raises.FollowsAt layout (raises.bare x) (raises.bare_at y) m.made.found m.made.got m.after turn → OwnsNone layout a (jobs.Raise x) frame cycle
      which (raise_at.Handle h) at e next =
          settled frame cycle made is pending (refused h next) (ap claims m.after_is ∙ unclaimed-raise m.after (sym (ap answer m.after_is) ∙ is))
      which raise_at.LoadStop at e next = owns-none frame cycle made (subst IsMild (same_Some (steps.Load places.Stop) made.step e) tt) (ap raise_costs.claims_at at) pending
      which (raise_at.LoadProcess raiser) at e next = owns-none frame cycle made (subst IsMild (same_Some (steps.Load (places.Process raiser.process)) made.step e) tt) (ap raise_costs.claims_at at) pending
      which raise_at.GiveUp at e next = owns-none frame cycle made (subst IsMild (same_Some steps.GiveUp made.step e) tt) (ap raise_costs.claims_at at) pending
      which (raise_at.Over o) at e next = absurd (none-some made.step e)

  scrub-settled : (x : Scrub) → Made job-task layout seat a b (jobs.Scrub x) t turn → OwnsNone layout a (jobs.Scrub x) frame cycle
  scrub-settled x made = which x.at refl made.planned m.made.follows
    where
      m : IsTurnOf scrub-task jobs.Scrub layout seat a b x t turn
      m = of-scrub made

      refused : (f : Frame) (h : Handler) → scrubs.FollowsAt layout (scrubs.bare x) (scrub_at.Handle f (handlers.bare h)) m.made.found m.made.got m.after turn → is_refused turn ≡ true → answer t ≡ None
      refused f h next no_ = ap answer m.after_is ∙ ap (λ (k : Scrub). answer (jobs.Scrub k)) next.next_is
          ∙ ap (λ (o : Option Bool). answer (jobs.Scrub (scrubs.after_handler_by (scrubs.bare x) f next.handler o))) (handler-unanswered layout h next.handler m.made.found m.made.got turn next.follows no_)

      which : (y : ScrubAt) → x.at ≡ y → scrubs.plan_at y ≡ Some made.step → scrubs.FollowsAt layout (scrubs.bare x) (scrubs.bare_at y) m.made.found m.made.got m.after turn → OwnsNone layout a (jobs.Scrub x) frame cycle
      which (scrub_at.Handle f h) at e next =
          settled frame cycle made is pending (refused f h next) (ap claims m.after_is ∙ unclaimed-scrub m.after (sym (ap answer m.after_is) ∙ is))
      which scrub_at.LoadStop at e next = owns-none frame cycle made (subst IsMild (same_Some (steps.Load places.Stop) made.step e) tt) (ap scrub_costs.claims_at at) pending
      which (scrub_at.LoadBad f) at e next = owns-none frame cycle made (subst IsMild (same_Some (steps.Load (places.Bad f)) made.step e) tt) (ap scrub_costs.claims_at at) pending
      which (scrub_at.LoadWeak f) at e next = owns-none frame cycle made (subst IsMild (same_Some (steps.Load (places.Weak f)) made.step e) tt) (ap scrub_costs.claims_at at) pending
      which scrub_at.GiveUp at e next = owns-none frame cycle made (subst IsMild (same_Some steps.GiveUp made.step e) tt) (ap scrub_costs.claims_at at) pending
      which (scrub_at.Over o) at e next = absurd (none-some made.step e)

  inject-settled : (x : Inject) → Made job-task layout seat a b (jobs.Inject x) t turn → OwnsNone layout a (jobs.Inject x) frame cycle
  inject-settled x made = settled frame cycle made is pending refused (ap claims m.after_is ∙ unclaimed m.after.at (sym (ap answer m.after_is) ∙ is))
    where
      m : IsTurnOf injects.task jobs.Inject layout seat a b x t turn
      m = of-inject made

      refused : is_refused turn ≡ true → answer t ≡ None
      refused no_ = ap answer m.after_is ∙ ap (λ (o : Option FailAnswer). option_map fail_answer o) (refused-unanswered layout x m.after m.made.found m.made.got turn m.made.follows no_)

  soft-settled : (x : Soft) → Made job-task layout seat a b (jobs.Soft x) t turn → OwnsNone layout a (jobs.Soft x) frame cycle
  soft-settled x made = settled frame cycle made is pending refused (ap claims m.after_is ∙ unclaimed-soft m.after (sym (ap answer m.after_is) ∙ is))
    where
      m : IsTurnOf soft-task jobs.Soft layout seat a b x t turn
      m = of-soft made

      refused : is_refused turn ≡ true → answer t ≡ None
      refused no_ = ap answer m.after_is ∙ ap (λ (o : Option SoftAnswer). option_map soft_answer o) (soft-unanswered layout x m.after m.made.found m.made.got turn m.made.follows no_)

  unpoison-settled : (x : Unpoison) → Made job-task layout seat a b (jobs.Unpoison x) t turn → OwnsNone layout a (jobs.Unpoison x) frame cycle
  unpoison-settled x made = settled frame cycle made is pending (λ no_. absurd (unpoison-goes x made.found (ap is_refused (sym made.follows.1) ∙ no_))) (ap claims made.follows.0)

pub owns-answered : (layout : Layout) (seat : ℕ) (a b : State) (s t : Job) (turn : Turn) (frame : Frame) (cycle : ℕ) {r : Answer} → Made job-task layout seat a b s t turn → answer t ≡ Some r → Pending (words_at layout b) frame cycle
    → Pending (words_at layout a) frame cycle × (claims s ≢ Some (frame, cycle))
owns-answered layout seat a b (jobs.Instruction x) t turn frame cycle made is pending = instruction-settled frame cycle is pending x made
owns-answered layout seat a b (jobs.Copying x) t turn frame cycle made is pending = copying-settled frame cycle is pending x made
owns-answered layout seat a b (jobs.Raise x) t turn frame cycle made is pending = raise-settled frame cycle is pending x made
owns-answered layout seat a b (jobs.Scrub x) t turn frame cycle made is pending = scrub-settled frame cycle is pending x made
owns-answered layout seat a b (jobs.Inject x) t turn frame cycle made is pending = inject-settled frame cycle is pending x made
owns-answered layout seat a b (jobs.Soft x) t turn frame cycle made is pending = soft-settled frame cycle is pending x made
owns-answered layout seat a b (jobs.Unpoison x) t turn frame cycle made is pending = unpoison-settled frame cycle is pending x made
owns-answered layout seat a b (jobs.Evict x) t turn frame cycle made is pending = owns-none frame cycle made (evict-mild x made.step made.planned) refl pending
owns-answered layout seat a b (jobs.Fsync x) t turn frame cycle made is pending = owns-none frame cycle made (fsync-mild x made.step made.planned) refl pending
owns-answered layout seat a b (jobs.Prctl x) t turn frame cycle made is pending = owns-none frame cycle made (calling.mild x made.step made.planned) refl pending
owns-answered layout seat a b (jobs.Denied x) t turn frame cycle made is pending = owns-none frame cycle made (denying.mild x made.step made.planned) refl pending
owns-answered layout seat a b (jobs.Fork x) t turn frame cycle made is pending = owns-none frame cycle made (forking.mild x made.step made.planned) refl pending
owns-answered layout seat a b (jobs.Log x) t turn frame cycle made is pending = owns-none frame cycle made (logging.mild x made.step made.planned) refl pending
owns-answered layout seat a b (jobs.Spoil x) t turn frame cycle made is pending = owns-none frame cycle made (spoiling.mild x made.step made.planned) refl pending
owns-answered layout seat a b (jobs.Nested x) t turn frame cycle made is pending = owns-none frame cycle made (nesting.mild x made.step made.planned) refl pending

pub ranked : IsRanked job-task
ranked = record { classes = classes; small = small; falls = falls; waits = waits; leaves = leaves; owns = owns }

-- a turn pays for what it takes back
pub pays : PaysRevival job-task
pays layout seat a b (jobs.Instruction x) t turn made = inl (failures-kept made (instruction-lasting x made.step made.planned))
pays layout seat a b (jobs.Copying x) t turn made = inl (failures-kept made (copy-lasting x made.step made.planned))
pays layout seat a b (jobs.Evict x) t turn made = inl (failures-kept made (mild-leaves made.step (evict-mild x made.step made.planned)))
pays layout seat a b (jobs.Fsync x) t turn made = inl (failures-kept made (mild-leaves made.step (fsync-mild x made.step made.planned)))
pays layout seat a b (jobs.Prctl x) t turn made = inl (failures-kept made (mild-leaves made.step (calling.mild x made.step made.planned)))
pays layout seat a b (jobs.Denied x) t turn made = inl (failures-kept made (mild-leaves made.step (denying.mild x made.step made.planned)))
pays layout seat a b (jobs.Fork x) t turn made = inl (failures-kept made (mild-leaves made.step (forking.mild x made.step made.planned)))
pays layout seat a b (jobs.Log x) t turn made = inl (failures-kept made (mild-leaves made.step (logging.mild x made.step made.planned)))
pays layout seat a b (jobs.Raise x) t turn made = inl (failures-kept made (raise-lasting x made.step made.planned))
pays layout seat a b (jobs.Scrub x) t turn made = inl (failures-kept made (scrub-lasting x made.step made.planned))
pays layout seat a b (jobs.Spoil x) t turn made = inl (failures-kept made (mild-leaves made.step (spoiling.mild x made.step made.planned)))
pays layout seat a b (jobs.Nested x) t turn made = inl (failures-kept made (mild-leaves made.step (nesting.mild x made.step made.planned)))
pays layout seat a b (jobs.Inject x) t turn made = inl (failures-kept made (inject-lasting x made.step made.planned))
pays layout seat a b (jobs.Soft x) t turn made = inl (failures-kept made (soft-lasting x made.step made.planned))
pays layout seat a b (jobs.Unpoison x) t turn made =
    let m = of-unpoison made in
    subst (λ (j : Job). (failures_left (words_at layout b) ≤ failures_left (words_at layout a)) ⊎ (cost j (words_at layout b) + failure_weight * failures_left (words_at layout b) < cost (jobs.Unpoison x) (words_at layout a) + failure_weight * failures_left (words_at layout a)))
    (sym m.after_is) (unpoisoning.pays layout seat a b x m.after turn m.made)

-- ---- what the class tells

pub tells : TellsClass job-task
tells = record { frame = frame; page = page; claim = claim }
  where
    frame : (layout : Layout) (view : View) (j : Job) → Fits layout view j → HasFrame view → (class j ≡ 1) × (plan j ≢ None)
    frame layout view (jobs.Instruction x) fits has = instruction-tells.frame layout view x (fits.0, [], fits.1) has
    frame layout view (jobs.Copying x) fits has = copy-tells.frame layout view x fits has
    frame layout view (jobs.Evict x) fits has = evict-tells.frame layout view x fits has
    frame layout view (jobs.Fsync x) fits has = fsync-tells.frame layout view x fits.1.1 has
    frame layout view (jobs.Prctl x) fits has = calling.tells.frame layout view x fits.1.1 has
    frame layout view (jobs.Denied x) fits has = denying.tells.frame layout view x fits.1.1 has
    frame layout view (jobs.Fork x) fits has = forking.tells.frame layout view x fits.1.1 has
    frame layout view (jobs.Log x) fits has = logging.tells.frame layout view x fits.1.1 has
    frame layout view (jobs.Raise x) fits has = raise-tells.frame layout view x fits.1.1 has
    frame layout view (jobs.Scrub x) fits has = scrub-tells.frame layout view x fits.1.1 has
    frame layout view (jobs.Spoil x) fits has = spoiling.tells.frame layout view x fits.1.1 has
    frame layout view (jobs.Nested x) fits has = nesting.tells.frame layout view x fits.1.1 has
    frame layout view (jobs.Inject x) fits has = inject-tells.frame layout view x fits.1.1 has
    frame layout view (jobs.Soft x) fits has = soft-tells-class.frame layout view x fits has
    frame layout view (jobs.Unpoison x) fits has = unpoisoning.tells.frame layout view x fits.1.1 has

    page : (layout : Layout) (view : View) (j : Job) → Fits layout view j → HasPage view → (class j ≤ 2) × (plan j ≢ None)
    page layout view (jobs.Instruction x) fits has = instruction-tells.page layout view x (fits.0, [], fits.1) has
    page layout view (jobs.Copying x) fits has = copy-tells.page layout view x fits has
    page layout view (jobs.Evict x) fits has = evict-tells.page layout view x fits has
    page layout view (jobs.Fsync x) fits has = fsync-tells.page layout view x fits.1.1 has
    page layout view (jobs.Prctl x) fits has = calling.tells.page layout view x fits.1.1 has
    page layout view (jobs.Denied x) fits has = denying.tells.page layout view x fits.1.1 has
    page layout view (jobs.Fork x) fits has = forking.tells.page layout view x fits.1.1 has
    page layout view (jobs.Log x) fits has = logging.tells.page layout view x fits.1.1 has
    page layout view (jobs.Raise x) fits has = raise-tells.page layout view x fits.1.1 has
    page layout view (jobs.Scrub x) fits has = scrub-tells.page layout view x fits.1.1 has
    page layout view (jobs.Spoil x) fits has = spoiling.tells.page layout view x fits.1.1 has
    page layout view (jobs.Nested x) fits has = nesting.tells.page layout view x fits.1.1 has
    page layout view (jobs.Inject x) fits has = inject-tells.page layout view x fits.1.1 has
    page layout view (jobs.Soft x) fits has = soft-tells-class.page layout view x fits has
    page layout view (jobs.Unpoison x) fits has = unpoisoning.tells.page layout view x fits.1.1 has

    claim : (layout : Layout) (view : View) (j : Job) (f : Frame) (cycle : ℕ) → Fits layout view j → claims j ≡ Some (f, cycle) → (class j ≤ 3) × (plan j ≢ None)
    claim layout view (jobs.Instruction x) f cycle fits has = instruction-tells.claim layout view x f cycle (fits.0, [], fits.1) has
    claim layout view (jobs.Copying x) f cycle fits has = copy-tells.claim layout view x f cycle fits has
    claim layout view (jobs.Raise x) f cycle fits has = raise-tells.claim layout view x f cycle fits.1.1 has
    claim layout view (jobs.Scrub x) f cycle fits has = scrub-tells.claim layout view x f cycle fits.1.1 has
    claim layout view (jobs.Inject x) f cycle fits has = inject-tells.claim layout view x f cycle fits.1.1 has
    claim layout view (jobs.Soft x) f cycle fits has = soft-tells-class.claim layout view x f cycle fits has
    claim layout view _ f cycle fits has = absurd (none-some (f, cycle) has)
