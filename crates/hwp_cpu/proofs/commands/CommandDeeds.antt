-- What a step of a command does beside entries: it poisons a frame or counts that, sets a policy, or leaves what the view lists of these.
use Rattle.std.proofs.Common.{◌≡◌, inl, inr, ℕ, suc, ◌+◌, ◌<◌, ◌≤◌, nat_lt, Bool, true, false, cond, List, [], ◌∷◌, ◌++◌, Option, Some, None, option_map, filter, filter_map, length, get_or, slice_get, take, map, refl, sym, ap, ◌∙◌, subst, arith, true≢false}
use Rattle.std.specs.List.{cons_option}
use Rattle.std.proofs.lemmas.List.{map-append, take_more}
use Rattle.std.proofs.lemmas.List.Elements.{filter-append}
use Rattle.std.proofs.lemmas.Bool.{ltb-false, ltb-true}
use Rattle.std.proofs.lemmas.Option.{get_or_from_slice_get, none-some, slice_get-get_or}
use Rattle.hwp_cpu_command.specs.hwp_geom.declared.Frame.{Frame}
use Rattle.hwp_cpu_command.specs.hwp_geom.declared.Layout.{Layout}
use Rattle.hwp_cpu_command.specs.hwp_geom.declared.Page.{Page}
use Rattle.hwp_cpu_command.specs.hwp_geom.declared.Thread.{Thread}
use Rattle.hwp_cpu_command.specs.hwp_geom.declared.Who.{Who}
use Rattle.hwp_cpu_command.specs.hwp_kill.declared.Policy.{Policy}
use Rattle.hwp_cpu_command.specs.hwp_kill.declared.Reply.{Reply}
use Rattle.hwp_cpu_command.specs.hwp_kill.declared.Reply.TheVariants as replies
use Rattle.hwp_cpu_command.specs.hwp_kill.Prctl.{reply}
use Rattle.hwp_cpu_command.specs.hwp_words.Names.{page_named}
use Rattle.hwp_cpu_command.specs.hwp_words.Policies as words
use Rattle.hwp_cpu_command.specs.hwp_words.Stops.{is_stopped}
use Rattle.hwp_cpu_command.specs.hwp_report_text.declared.Answer.{Answer}
use Rattle.hwp_cpu_command.specs.hwp_core_rule.declared.Made.{Made}
use Rattle.hwp_cpu_command.specs.hwp_core_rule.declared.Mark.{Mark}
use Rattle.hwp_cpu_command.specs.hwp_core_rule.declared.SharedWord.TheVariants as places
use Rattle.hwp_cpu_command.specs.hwp_core_rule.declared.Step.TheVariants as steps
use Rattle.hwp_cpu_command.specs.hwp_core_rule.declared.View.{View}
use Rattle.hwp_cpu_command.specs.hwp_core_rule.Lists.{EachMember}
use Rattle.hwp_cpu_command.specs.hwp_core_rule.Views.{noted, stamp_of}
use Rattle.hwp_cpu_command.specs.hwp_core_rule.Calls.{Steps, logs}
use Rattle.hwp_cpu_command.proofs.of_hwp_core_rule.tasks.StepLeaves.{steps-planned}
use Rattle.hwp_cpu_command.proofs.of_hwp_core_rule.tasks.MadeEntries.{deeds-same}
use Rattle.hwp_cpu_command.specs.hwp_cpu_control.declared.Nested.{Nested}
use Rattle.hwp_cpu_command.specs.hwp_cpu_control.declared.Fork.{Fork}
use Rattle.hwp_cpu_command.specs.hwp_cpu_control.declared.ForkAnswer.TheVariants as fork_answers
use Rattle.hwp_cpu_command.specs.hwp_cpu_control.declared.Targets.{Targets}
use Rattle.hwp_cpu_command.specs.hwp_cpu_control.declared.fork.ForkAt.{ForkAt}
use Rattle.hwp_cpu_command.specs.hwp_cpu_control.declared.fork.ForkAt.TheVariants as fork_at
use Rattle.hwp_cpu_command.specs.hwp_cpu_control.Forks as forks
use Rattle.hwp_cpu_command.specs.hwp_geom.Limits.{thread_limit}
use Rattle.hwp_cpu_command.proofs.of_hwp_cpu_control.ForkLaws.{more-than, target-there}
use Rattle.hwp_cpu_command.specs.hwp_cpu_control.declared.Denied.{Denied}
use Rattle.hwp_cpu_command.specs.hwp_cpu_control.declared.denied.DeniedAt.{DeniedAt}
use Rattle.hwp_cpu_command.specs.hwp_cpu_control.declared.denied.DeniedAt.TheVariants as denied_at
use Rattle.hwp_cpu_command.specs.hwp_cpu_control.Denieds as denieds
use Rattle.hwp_cpu_command.specs.hwp_cpu_control.declared.Prctl.{Prctl}
use Rattle.hwp_cpu_command.specs.hwp_cpu_control.declared.Spoil.{Spoil}
use Rattle.hwp_cpu_command.specs.hwp_cpu_control.declared.nested.NestedAt.{NestedAt}
use Rattle.hwp_cpu_command.specs.hwp_cpu_control.declared.nested.NestedAt.TheVariants as nested_at
use Rattle.hwp_cpu_command.specs.hwp_cpu_control.declared.PrctlAnswer.TheVariants as prctl_answers
use Rattle.hwp_cpu_command.specs.hwp_cpu_control.declared.prctl.PrctlAt.{PrctlAt}
use Rattle.hwp_cpu_command.specs.hwp_cpu_control.declared.prctl.PrctlAt.TheVariants as prctl_at
use Rattle.hwp_cpu_command.specs.hwp_cpu_control.declared.spoil.SpoilAt.{SpoilAt}
use Rattle.hwp_cpu_command.specs.hwp_cpu_control.declared.spoil.SpoilAt.TheVariants as spoil_at
use Rattle.hwp_cpu_command.specs.hwp_cpu_control.Nesteds as nesteds
use Rattle.hwp_cpu_command.specs.hwp_cpu_control.Prctls as prctls
use Rattle.hwp_cpu_command.specs.hwp_cpu_control.Spoils as spoils
use Rattle.hwp_cpu_command.specs.hwp_evict.declared.EvictAnswer.{EvictAnswer}
use Rattle.hwp_cpu_command.specs.hwp_evict.declared.EvictAnswer.TheVariants as evict_answers
use Rattle.hwp_cpu_command.specs.hwp_evict.declared.Eviction.{Eviction}
use Rattle.hwp_cpu_command.specs.hwp_evict.declared.Eviction.TheVariants as evictions
use Rattle.hwp_cpu_command.specs.hwp_evict.declared.Fsync.{Fsync}
use Rattle.hwp_cpu_command.specs.hwp_evict.declared.fsync.FsyncAt.{FsyncAt}
use Rattle.hwp_cpu_command.specs.hwp_evict.declared.fsync.FsyncAt.TheVariants as fsync_at
use Rattle.hwp_cpu_command.specs.hwp_evict.Evictions.{IsCaused, entry_of}
use Rattle.hwp_cpu_command.specs.hwp_evict.Evicts as evicts
use Rattle.hwp_cpu_command.specs.hwp_evict.Fsyncs as fsyncs
use Rattle.hwp_cpu_command.specs.hwp_claim_act.declared.Failed.{Failed}
use Rattle.hwp_cpu_command.specs.hwp_claim_act.Abandoned.{AddsFailure, failed_in, failed_of}
use Rattle.hwp_cpu_command.specs.hwp_claim_frame.Done.{Grows, counts_owed, marking_of}
use Rattle.hwp_cpu_command.specs.hwp_claim.declared.fail.Fail.{Fail}
use Rattle.hwp_cpu_command.specs.hwp_claim.declared.fail.FailAt.{FailAt}
use Rattle.hwp_cpu_command.specs.hwp_claim.declared.fail.FailAt.TheVariants as fail_at
use Rattle.hwp_cpu_command.specs.hwp_claim.declared.inject.Inject.{Inject}
use Rattle.hwp_cpu_command.specs.hwp_claim.declared.inject.InjectAt.{InjectAt}
use Rattle.hwp_cpu_command.specs.hwp_claim.declared.inject.InjectAt.TheVariants as inject_at
use Rattle.hwp_cpu_command.specs.hwp_claim.Done as fail_done
use Rattle.hwp_cpu_command.specs.hwp_claim.Fails as fails
use Rattle.hwp_cpu_command.specs.hwp_claim.Injects as injects
use Rattle.hwp_cpu_command.proofs.of_hwp_claim.FailAdds.{fail-adds}
use Rattle.hwp_cpu_command.proofs.of_hwp_claim.of_hwp_claim_frame.Quiet.{Alike, leaves}
use Rattle.hwp_cpu_command.specs.hwp_claim.declared.EventOutcome.{EventOutcome}
use Rattle.hwp_cpu_command.specs.hwp_claim.CheckDone.{failed_in as failed_told, marked_in}
use Rattle.hwp_cpu_command.proofs.of_hwp_claim.HandlerLaws.{stop-leaves}
use Rattle.hwp_cpu_command.specs.hwp_cpu_access.declared.Instruction.{Instruction}
use Rattle.hwp_cpu_command.specs.hwp_cpu_access.Done as instruction_done
use Rattle.hwp_cpu_command.specs.hwp_cpu_access.Done.{FailuresGrow, failures_by}
use Rattle.hwp_cpu_command.specs.hwp_cpu_access.Instructions as instructions
use Rattle.hwp_cpu_command.proofs.of_hwp_cpu_access.InstructionAdds.{instruction-adds}
use Rattle.hwp_cpu_command.specs.hwp_cpu_access.declared.Copying.{Copying}
use Rattle.hwp_cpu_command.specs.hwp_cpu_access.Copyings as copyings
use Rattle.hwp_cpu_command.specs.hwp_cpu_access.CopyDone as copying_done
use Rattle.hwp_cpu_command.proofs.of_hwp_cpu_access.CopyAdds.{copy-adds}
use Rattle.hwp_cpu_command.proofs.of_hwp_cpu_access.CopyEnds as copy_ends
use Rattle.hwp_cpu_command.proofs.of_hwp_cpu_access.CommandGrows.{failures-grow}
use Rattle.hwp_cpu_command.specs.hwp_scrub.declared.Raise.{Raise}
use Rattle.hwp_cpu_command.specs.hwp_scrub.RaiseDone as raise_done
use Rattle.hwp_cpu_command.specs.hwp_scrub.Raises as raises
use Rattle.hwp_cpu_command.specs.hwp_scrub.Raises.{thread_of}
use Rattle.hwp_cpu_command.proofs.of_hwp_scrub.RaiseAdds.{raise-adds}
use Rattle.hwp_cpu_command.specs.hwp_scrub.declared.Scrub.{Scrub}
use Rattle.hwp_cpu_command.specs.hwp_scrub.Done as scrub_done
use Rattle.hwp_cpu_command.specs.hwp_scrub.Scrubs as scrubs
use Rattle.hwp_cpu_command.proofs.of_hwp_scrub.ScrubAdds.{scrub-adds}
use Rattle.hwp_cpu_command.specs.hwp_soft.declared.Soft.{Soft}
use Rattle.hwp_cpu_command.specs.hwp_soft.declared.SoftAnswer.{SoftAnswer}
use Rattle.hwp_cpu_command.specs.hwp_soft.declared.SoftAnswer.TheVariants as soft_answers
use Rattle.hwp_cpu_command.specs.hwp_soft.Done as soft_done
use Rattle.hwp_cpu_command.specs.hwp_soft.Offline as offline
use Rattle.hwp_cpu_command.specs.hwp_soft.Softs as softs
use Rattle.hwp_cpu_command.proofs.of_hwp_soft.SoftAdds.{soft-adds}
use Rattle.hwp_cpu_command.specs.hwp_soft.declared.Unpoison.{Unpoison}
use Rattle.hwp_cpu_command.specs.hwp_soft.UnpoisonDone as unpoison_done
use Rattle.hwp_cpu_command.specs.hwp_soft.Unpoisons as unpoisons
use Rattle.hwp_cpu_command.proofs.of_hwp_soft.UnpoisonAdds.{unpoison-adds}
use Rattle.hwp_cpu_command.specs.declared.job.Job.{Job}
use Rattle.hwp_cpu_command.specs.declared.job.Job.TheVariants as jobs
use Rattle.hwp_cpu_command.specs.Answers.{fail_answer}
use Rattle.hwp_cpu_command.specs.Done.{HasDone, can_fail, failed_at, failed_now, marked_at, marked_now, owed_at, owed_now}
use Rattle.hwp_cpu_command.specs.Jobs.{FitsFrom, answer, who}
use Rattle.hwp_cpu_command.specs.Settings.{given_at, policies_now, set_at}
use Rattle.hwp_cpu_command.specs.Stays.{IsAtStop, Stepped}
use Rattle.hwp_cpu_command.proofs.JobEnds.{evict-caused, instruction-over, mapped, raise-over, scrub-over, soft-ended, soft-over, unpoison-over}
use Rattle.hwp_cpu.proofs.commands.TaskLeaves.{Left, Rest, soft-leaves, unpoison-leaves}
use Rattle.hwp_cpu.proofs.commands.Quiet.{evict, read}
use Rattle.hwp_cpu.proofs.commands.CommandLeaves.{copying-left, inject-left, instruction-left, quiet-step, raise-left, scrub-left}

-- ---- commands of which no memory fails

-- the command marks no frame and owes no count, and its memory can't fail
abbrev IsBlank : Job → Type 0
IsBlank j = (can_fail j ≡ false) × (marked_now j ≡ []) × (owed_now j ≡ 0)

unfailed : {A : Type 0} {b : Bool} → b ≡ false → b ≡ true → A
unfailed cannot can = absurd (true≢false (sym can ∙ cannot))

module _ {layout : Layout} {old new : View} {j after : Job} (s : Stepped layout old new j after) where
  -- a step after which the view lists the same
  nothing : Alike old new → IsBlank j → IsBlank after → policies_now after ≡ policies_now j → HasDone old new (who j) j after
  nothing same before blank set = record {
    marked = inl (same.marks, blank.1 ∙ sym before.1);
    failed = unfailed blank.0;
    set = inl (same.settings, set);
    counted = λ has. same.owed ∙ has ∙ before.2 ∙ sym blank.2;
  }

-- the losses of a file
module _ {layout : Layout} {old new : View} {f : Fsync} {after : Job} (s : Stepped layout old new (jobs.Fsync f) after) where
  fsync-done : HasDone old new f.who (jobs.Fsync f) after
  fsync-done = which f.at s.planned
    where
      none : policies_now after ≡ []
      none = ap policies_now s.follows.0

      blank : IsBlank after
      blank = subst IsBlank (sym s.follows.0) (refl, refl, refl)

      which : (x : FsyncAt) → fsyncs.plan_at f.file x ≡ Some s.step → HasDone old new f.who (jobs.Fsync f) after
      which fsync_at.LoadStop e = nothing s (leaves s.made (quiet-step {o = Some (steps.Load places.Stop)} tt e)) (refl, refl, refl) blank none
      which fsync_at.Report e =
          let own = steps-planned {other = steps.ReportLost f.file} e s.made in
          record {
            marked = inl (ap (λ (v : View). v.marks) own.told.next, blank.1);
            failed = unfailed blank.0;
            set = inl (ap (λ (v : View). v.settings) own.told.next, none);
            counted = λ has. ap counts_owed own.told.next ∙ has ∙ sym blank.2;
          }
      which (fsync_at.Over answer number) e = absurd (none-some s.step e)

-- what follows a step by which a call of prctl(2) sets nothing
stopped : (b : Bool) → set_at (cond b (prctl_at.Over prctl_answers.Stopped) prctl_at.LoadProcess) ≡ []
stopped true = refl
stopped false = refl

ended : (o : Option Page) → set_at (prctls.after_process o) ≡ []
ended None = refl
ended (Some page) = refl

replied : (n : ℕ) (r : Reply) → set_at (prctls.after_reply n r) ≡ []
replied n (replies.Set policy) = refl
replied n (replies.Is policy) = refl
replied n replies.Einval = refl

-- a fork that has given so many threads their policy
given-next : (targets : Targets) (policy : Policy) (k : ℕ) → targets.count ≤ length targets.threads → k ≤ targets.count → given_at targets (forks.at_target targets policy k) ≡ map (λ (t : Thread). (t, policy)) (take k targets.threads)
given-next targets policy k within few = which (nat_lt k targets.count) refl
  where
    there : (o : Option Thread) → slice_get targets.threads k ≡ o → k < targets.count → given_at targets (forks.after_targets policy k o) ≡ map (λ (t : Thread). (t, policy)) (take k targets.threads)
    there (Some target) is less = refl
    there None is less = absurd (none-some (get_or targets.threads k (record { 0 = 0 })) (sym is ∙ slice_get-get_or targets.threads k (record { 0 = 0 }) (omega (arith, within, less))))

    which : (b : Bool) → nat_lt k targets.count ≡ b → given_at targets (forks.after_targets policy k (cond b (slice_get targets.threads k) None)) ≡ map (λ (t : Thread). (t, policy)) (take k targets.threads)
    which true less = there (slice_get targets.threads k) refl (ltb-true k targets.count less)
    which false more = let most : targets.count ≤ k = ltb-false k targets.count more in ap (λ (n : ℕ). map (λ (t : Thread). (t, policy)) (take n targets.threads)) (omega (arith, most, few))

given-none : (targets : Targets) (b : Bool) → given_at targets (cond b (fork_at.Over fork_answers.Stopped) fork_at.LoadProcess) ≡ []
given-none targets true = refl
given-none targets false = refl

given-ended : (targets : Targets) (o : Option Page) → given_at targets (forks.after_process o) ≡ []
given-ended targets None = refl
given-ended targets (Some page) = refl

-- the policy of a thread
module _ {layout : Layout} {old new : View} {p : Prctl} {after : Job} (s : Stepped layout old new (jobs.Prctl p) after) where
  abbrev told_at : PrctlAt → List (Thread × Policy)
  told_at x = map (λ (policy : Policy). (p.thread, policy)) (set_at x)

  prctl-done : HasDone old new p.who (jobs.Prctl p) after
  prctl-done = which p.at refl s.planned
    where
      blank : IsBlank after
      blank = subst IsBlank (sym s.follows.0) (refl, refl, refl)

      now : (x : PrctlAt) → p.at ≡ x → policies_now after ≡ told_at (prctls.next_at p.arguments x s.found)
      now x at = ap policies_now s.follows.0 ∙ ap (λ (y : PrctlAt). told_at (prctls.next_at p.arguments y s.found)) at

      unset : (x : PrctlAt) → p.at ≡ x → set_at x ≡ [] → set_at (prctls.next_at p.arguments x s.found) ≡ [] → policies_now after ≡ policies_now (jobs.Prctl p)
      unset x at before next = now x at ∙ ap (λ (l : List Policy). map (λ (policy : Policy). (p.thread, policy)) l) (next ∙ sym (ap set_at at ∙ before))

      which : (x : PrctlAt) → p.at ≡ x → prctls.plan_at p.thread p.process x ≡ Some s.step → HasDone old new p.who (jobs.Prctl p) after
      which prctl_at.LoadStop at e = nothing s (leaves s.made (quiet-step {o = Some (steps.Load places.Stop)} tt e)) (refl, refl, refl) blank (unset prctl_at.LoadStop at refl (stopped (is_stopped s.found)))
      which prctl_at.LoadProcess at e = nothing s (leaves s.made (quiet-step {o = Some (steps.Load (places.Process p.process))} tt e)) (refl, refl, refl) blank (unset prctl_at.LoadProcess at refl (ended (page_named s.found)))
      which prctl_at.LoadPolicy at e = nothing s (leaves s.made (quiet-step {o = Some (steps.Load (places.Policy p.thread))} tt e)) (refl, refl, refl) blank
          (unset prctl_at.LoadPolicy at refl (replied (words.settings_of s.found) (reply (words.policy_of s.found) p.arguments)))
      which (prctl_at.SetPolicy policy settings) at e =
          let own = steps-planned {other = steps.SetPolicy p.thread policy settings} e s.made in
          record {
            marked = inl (ap (λ (v : View). v.marks) own.told.next, blank.1);
            failed = unfailed blank.0;
            set = inr (
              record { stamp = stamp_of p.who (noted p.who old); thread = p.thread; policy = policy },
              ap (λ (v : View). v.settings) own.told.next,
              refl,
              now (prctl_at.SetPolicy policy settings) at ∙ ap (λ (l : List (Thread × Policy)). l ++ (p.thread, policy) ∷ []) (sym (ap told_at at)),
            );
            counted = λ has. ap counts_owed own.told.next ∙ has ∙ sym blank.2;
          }
      which (prctl_at.Over answer) at e = absurd (none-some s.step e)

-- an access that its guest doesn't admit does none of these
module _ {layout : Layout} {old new : View} {d : Denied} {after : Job} (s : Stepped layout old new (jobs.Denied d) after) where
  denied-done : HasDone old new d.who (jobs.Denied d) after
  denied-done = which d.at s.planned
    where
      none : policies_now after ≡ []
      none = ap policies_now s.follows.0

      blank : IsBlank after
      blank = subst IsBlank (sym s.follows.0) (refl, refl, refl)

      which : (x : DeniedAt) → denieds.plan_at d.process x ≡ Some s.step → HasDone old new d.who (jobs.Denied d) after
      which denied_at.LoadStop e = nothing s (leaves s.made (quiet-step {o = Some (steps.Load places.Stop)} tt e)) (refl, refl, refl) blank none
      which denied_at.LoadProcess e = nothing s (leaves s.made (quiet-step {o = Some (steps.Load (places.Process d.process))} tt e)) (refl, refl, refl) blank none
      which (denied_at.Over answer) e = absurd (none-some s.step e)

-- a machine check inside a machine check does none of these, nor does damage to a line
module _ {layout : Layout} {old new : View} {n : Nested} {after : Job} (s : Stepped layout old new (jobs.Nested n) after) where
  nested-done : HasDone old new n.who (jobs.Nested n) after
  nested-done = which n.at s.planned
    where
      blank : IsBlank after
      blank = subst IsBlank (sym s.follows.0) (refl, refl, refl)

      which : (x : NestedAt) → nesteds.plan_at n.who x ≡ Some s.step → HasDone old new n.who (jobs.Nested n) after
      which nested_at.LoadStop e = nothing s (leaves s.made (quiet-step {o = Some (steps.Load places.Stop)} tt e)) (refl, refl, refl) blank (ap policies_now s.follows.0)
      which nested_at.Stop e =
          let own = steps-planned {other = steps.Stop n.who.cpu} e s.made in
          record {
            marked = inl (stop-leaves own (λ (v : View). v.marks) refl refl, blank.1);
            failed = unfailed blank.0;
            set = inl (stop-leaves own (λ (v : View). v.settings) refl refl, ap policies_now s.follows.0);
            counted = λ has. stop-leaves own counts_owed refl refl ∙ has ∙ sym blank.2;
          }
      which (nested_at.Over answer) e = absurd (none-some s.step e)

module _ {layout : Layout} {old new : View} {p : Spoil} {after : Job} (s : Stepped layout old new (jobs.Spoil p) after) where
  spoil-done : HasDone old new p.who (jobs.Spoil p) after
  spoil-done = which p.at s.planned
    where
      blank : IsBlank after
      blank = subst IsBlank (sym s.follows.0) (refl, refl, refl)

      which : (x : SpoilAt) → spoils.plan_at p.frame p.line p.damage x ≡ Some s.step → HasDone old new p.who (jobs.Spoil p) after
      which spoil_at.LoadStop e = nothing s (leaves s.made (quiet-step {o = Some (steps.Load places.Stop)} tt e)) (refl, refl, refl) blank (ap policies_now s.follows.0)
      which spoil_at.Spoil e =
          let own = steps-planned {other = steps.Spoil p.frame p.line p.damage} e s.made in
          record {
            marked = inl (ap (λ (v : View). v.marks) own.told.next, blank.1);
            failed = unfailed blank.0;
            set = inl (ap (λ (v : View). v.settings) own.told.next, ap policies_now s.follows.0);
            counted = λ has. ap counts_owed own.told.next ∙ has ∙ sym blank.2;
          }
      which (spoil_at.Over answer) e = absurd (none-some s.step e)

-- ---- commands of which memory can fail

-- what a step adds to what the view lists of the command, and to what the command has done
record Adds (old new : View) (j after : Job) : Type 0 where
  marked : Grows (λ (m : Mark). m.stamp.who) marking_of old.marks new.marks (who j) (marked_now j) (marked_now after)
  failed : FailuresGrow (failures_by (who j) old) (failures_by (who j) new) (failed_now j) (failed_now after)
  counted : counts_owed new + owed_now j ≡ counts_owed old + owed_now after

adds-done : {old new : View} {j after : Job} → Adds old new j after → Rest old new → policies_now after ≡ policies_now j → HasDone old new (who j) j after
adds-done {old} {new} {j} {after} adds rest set = record {
  marked = adds.marked;
  failed = λ can. adds.failed;
  set = inl (rest.settings, set);
  counted = λ has. let sum = adds.counted in omega (arith, sum, has);
}

module _ {layout : Layout} {old new : View} {f : Fork} {after : Job} (s : Stepped layout old new (jobs.Fork f) after) where
  fork-done : HasDone old new f.who (jobs.Fork f) after
  fork-done = which f.at refl s.planned s.fits.1.at
    where
      blank : IsBlank after
      blank = subst IsBlank (sym s.follows.0) (refl, refl, refl)

      targets : forks.AreTargets layout f.who f.thread f.targets
      targets = s.fits.1.targets

      within : f.targets.count ≤ length f.targets.threads
      within = let few : f.targets.count ≤ thread_limit = targets.few in let room : length f.targets.threads ≡ thread_limit = targets.room in omega (arith, few, room)

      now : (x : ForkAt) → f.at ≡ x → policies_now after ≡ given_at f.targets (forks.next_at f.targets x s.found)
      now x at = ap policies_now s.follows.0 ∙ ap (λ (y : ForkAt). given_at f.targets (forks.next_at f.targets y s.found)) at

      unset : (x : ForkAt) → f.at ≡ x → given_at f.targets x ≡ [] → given_at f.targets (forks.next_at f.targets x s.found) ≡ [] → policies_now after ≡ policies_now (jobs.Fork f)
      unset x at before next = now x at ∙ next ∙ sym (ap (given_at f.targets) at ∙ before)

      which : (x : ForkAt) → f.at ≡ x → forks.plan_at f.thread f.process x ≡ Some s.step → forks.FitsAt old f.who f.thread f.process f.targets x → HasDone old new f.who (jobs.Fork f) after
      which fork_at.LoadStop at e has = nothing s (leaves s.made (quiet-step {o = Some (steps.Load places.Stop)} tt e)) (refl, refl, refl) blank (unset fork_at.LoadStop at refl (given-none f.targets (is_stopped s.found)))
      which fork_at.LoadProcess at e has = nothing s (leaves s.made (quiet-step {o = Some (steps.Load (places.Process f.process))} tt e)) (refl, refl, refl) blank (unset fork_at.LoadProcess at refl (given-ended f.targets (page_named s.found)))
      which fork_at.LoadPolicy at e has = nothing s (leaves s.made (quiet-step {o = Some (steps.Load (places.Policy f.thread))} tt e)) (refl, refl, refl) blank
          (unset fork_at.LoadPolicy at refl (given-next f.targets (words.policy_of s.found) 0 within (omega arith)))
      which (fork_at.SetPolicy policy target before) at e has =
          let own = steps-planned {other = steps.SetPolicy target policy 0} e s.made in
          let there : slice_get f.targets.threads before ≡ Some target = target-there f.targets before target has.0.target_is in
          let less : before < f.targets.count = more-than f.targets before target has.0.target_is in
          record {
            marked = inl (ap (λ (v : View). v.marks) own.told.next, blank.1);
            failed = unfailed blank.0;
            set = inr (
              record { stamp = stamp_of f.who (noted f.who old); thread = target; policy = policy },
              ap (λ (v : View). v.settings) own.told.next,
              refl,
              now (fork_at.SetPolicy policy target before) at ∙ given-next f.targets policy (before + 1) within (omega (arith, less))
                  ∙ ap (map (λ (t : Thread). (t, policy))) (take_more f.targets.threads before target (omega (arith, less, within)) ∙ ap (λ (t : Thread). take before f.targets.threads ++ t ∷ []) (get_or_from_slice_get f.targets.threads before target target there))
                  ∙ map-append (λ (t : Thread). (t, policy)) (take before f.targets.threads) (target ∷ [])
                  ∙ ap (λ (l : List (Thread × Policy)). l ++ (target, policy) ∷ []) (sym (ap (given_at f.targets) at)),
            );
            counted = λ counted. ap counts_owed own.told.next ∙ counted ∙ sym blank.2;
          }
      which (fork_at.Over answer) at e has = absurd (none-some s.step e)

module _ {layout : Layout} {old new : View} {i : Instruction} {after : Job} (s : Stepped layout old new (jobs.Instruction i) after) where
  instruction-done : HasDone old new i.request.who (jobs.Instruction i) after
  instruction-done = subst (HasDone old new i.request.who (jobs.Instruction i)) (sym s.follows.1)
      (let adds = instruction-adds layout old new i s.step s.found s.got s.fits s.planned s.made s.follows.0 s.turn s.follows.2 in
      adds-done (record { marked = adds.marked; failed = adds.failed; counted = adds.counted }) (instruction-left s).rest refl)

module _ {layout : Layout} {old new : View} {c : Copying} {after : Job} (s : Stepped layout old new (jobs.Copying c) after) where
  copying-done-so : HasDone old new c.store.who (jobs.Copying c) after
  copying-done-so = subst (HasDone old new c.store.who (jobs.Copying c)) (sym s.follows.1)
      (let adds = copy-adds layout old new c s.step s.found s.got s.fits s.planned s.made s.follows.0 s.turn s.follows.2 in
      adds-done (record { marked = adds.marked; failed = adds.failed; counted = adds.counted }) (copying-left s).rest refl)

module _ {layout : Layout} {old new : View} {r : Raise} {after : Job} (s : Stepped layout old new (jobs.Raise r) after) where
  raise-done-so : HasDone old new r.who (jobs.Raise r) after
  raise-done-so = subst (HasDone old new r.who (jobs.Raise r)) (sym s.follows.1)
      (let adds = raise-adds layout old new r s.step s.found s.got s.fits.1 s.planned s.made s.follows.0 s.turn s.follows.2 in
      adds-done (record { marked = adds.marked; failed = failures-grow r.who old new adds.failed; counted = adds.counted }) (raise-left s).rest refl)

module _ {layout : Layout} {old new : View} {c : Scrub} {after : Job} (s : Stepped layout old new (jobs.Scrub c) after) where
  scrub-done-so : HasDone old new c.who (jobs.Scrub c) after
  scrub-done-so = subst (HasDone old new c.who (jobs.Scrub c)) (sym s.follows.1)
      (let adds = scrub-adds layout old new c s.step s.found s.got s.fits.1 s.planned s.made s.follows.0 s.turn s.follows.2 in
      adds-done (record { marked = adds.marked; failed = failures-grow c.who old new adds.failed; counted = adds.counted }) (scrub-left s).rest refl)

module _ {layout : Layout} {old new : View} {i : Inject} {after : Job} (s : Stepped layout old new (jobs.Inject i) after) where
  abbrev injected : Inject
  injected = s.follows.0

  frame-is : injected.frame ≡ i.frame
  frame-is = ap (λ (k : Inject). k.frame) s.follows.2.0

  -- what it adds by where it is then
  abbrev AddsAt : InjectAt → InjectAt → Type 0
  AddsAt x y = Grows (λ (m : Mark). m.stamp.who) marking_of old.marks new.marks i.who (marked_at i.frame x) (marked_at i.frame y) × AddsFailure i.who old new (failed_at x) (failed_at y) × (counts_owed new + owed_at x ≡ counts_owed old + owed_at y)

  look-adds : Steps layout i.who (steps.Load places.Stop) None old new s.found s.got → AddsAt inject_at.LoadStop (injects.loaded layout.recovery i.alloc i.who i.frame s.found)
  look-adds own = by (is_stopped s.found) layout.recovery
    where
      same : Alike old new
      same = leaves own tt

      by : (b c : Bool) → AddsAt inject_at.LoadStop (cond b inject_at.Stopped (inject_at.Fail (fails.begin i.alloc i.who i.frame None false c)))
      by true c = (inl (same.marks, refl), inl (deeds-same i.who tt own, refl), ap (λ (n : ℕ). n + 0) same.owed)
      by false true = (inl (same.marks, refl), inl (deeds-same i.who tt own, refl), ap (λ (n : ℕ). n + 0) same.owed)
      by false false = (inl (same.marks, refl), inl (deeds-same i.who tt own, refl), ap (λ (n : ℕ). n + 0) same.owed)

  fail-step : (f g : Fail) (turn : _) → injects.IsFailing layout old i.who i.frame f → fails.plan f ≡ Some s.step → Steps layout i.who s.step (logs (fails.put f)) old new s.found s.got → fails.Follows (fails.bare f) s.found s.got g turn → AddsAt (inject_at.Fail f) (inject_at.Fail g)
  fail-step f g turn has e made follows = (
    subst (λ (w : Who). Grows (λ (m : Mark). m.stamp.who) marking_of old.marks new.marks w (fail_done.marked_at i.frame false f.at) (fail_done.marked_at i.frame false g.at)) has.own
        (subst (λ (n : Frame). Grows (λ (m : Mark). m.stamp.who) marking_of old.marks new.marks f.who (fail_done.marked_at n false f.at) (fail_done.marked_at n false g.at)) has.frame_is
        (subst (λ (h : Bool). Grows (λ (m : Mark). m.stamp.who) marking_of old.marks new.marks f.who (fail_done.marked_at f.frame h f.at) (fail_done.marked_at f.frame h g.at)) has.software adds.marked)),
    subst (λ (w : Who). AddsFailure w old new (fail_done.failed_at None f.at) (fail_done.failed_at None g.at)) has.own
        (subst (λ (t : Option Thread). AddsFailure f.who old new (fail_done.failed_at t f.at) (fail_done.failed_at t g.at)) has.unrequired adds.failed),
    adds.counted,
  )
    where
      adds : fail_done.Adds old new f.who f.frame f.hardware f.required f.at g.at
      adds = fail-adds layout old new f s.step s.found s.got has.fail e (subst (λ (w : Who). Steps layout w s.step (logs (fails.put f)) old new s.found s.got) (sym has.own) made) g turn follows

  inject-adds : AddsAt i.at injected.at
  inject-adds = which i.at s.fits.1.at s.planned s.made s.follows.2.1
    where
      which : (x : InjectAt) → injects.FitsAt layout old i.who i.frame x → injects.plan_at x ≡ Some s.step → Steps layout i.who s.step (logs (injects.put_at x)) old new s.found s.got
          → injects.FollowsAt layout i.alloc i.who i.frame (injects.bare_at x) s.found s.got injected.at s.turn → AddsAt x injected.at
      which inject_at.LoadStop has e made follows = subst (AddsAt inject_at.LoadStop) (sym follows.0) (look-adds (steps-planned e made))
      which (inject_at.Fail f) has e made follows = subst (AddsAt (inject_at.Fail f)) (sym follows.next_is) (fail-step f follows.after s.turn has e made follows.follows)
      which inject_at.Stopped has e made follows = absurd (none-some s.step e)

  inject-done : HasDone old new i.who (jobs.Inject i) after
  inject-done = subst (HasDone old new i.who (jobs.Inject i)) (sym s.follows.1) (adds-done (record {
    marked = subst (λ (n : Frame). Grows (λ (m : Mark). m.stamp.who) marking_of old.marks new.marks i.who (marked_at i.frame i.at) (marked_at n injected.at)) (sym frame-is) inject-adds.0;
    failed = failures-grow i.who old new inject-adds.1;
    counted = inject-adds.2;
  }) (inject-left s).rest refl)

-- ---- a frame that is taken out of use

module _ {layout : Layout} {old new : View} {o : Soft} {after : Job} (s : Stepped layout old new (jobs.Soft o) after) where
  abbrev softened : Soft
  softened = s.follows.0

  soft-done-so : HasDone old new o.who (jobs.Soft o) after
  soft-done-so = subst (HasDone old new o.who (jobs.Soft o)) (sym s.follows.1) (record {
    marked = subst (λ (n : Frame). Grows (λ (m : Mark). m.stamp.who) marking_of old.marks new.marks o.who (soft_done.marked_at o.frame o.at) (soft_done.marked_at n softened.at)) (sym (ap (λ (k : Soft). k.frame) s.follows.2.0)) adds.marked;
    failed = unfailed refl;
    set = inl (left.rest.settings, refl);
    counted = counted;
  })
    where
      adds : soft_done.Adds old new o.who o.frame o.at softened.at
      adds = soft-adds layout old new o s.step s.found s.got s.fits s.planned s.made softened s.turn s.follows.2

      left : Left old new
      left = soft-leaves o s.planned s.made

      counted : counts_owed old ≡ soft_done.owed_at o.at → counts_owed new ≡ soft_done.owed_at softened.at
      counted has = let sum : counts_owed new + soft_done.owed_at o.at ≡ counts_owed old + soft_done.owed_at softened.at = adds.counted in omega (arith, sum, has)

-- ---- a frame whose poison is taken back

module _ {layout : Layout} {old new : View} {u : Unpoison} {after : Job} (s : Stepped layout old new (jobs.Unpoison u) after) where
  unpoison-done-so : HasDone old new u.who (jobs.Unpoison u) after
  unpoison-done-so = subst (HasDone old new u.who (jobs.Unpoison u)) (sym s.follows.0) (record {
    marked = adds.marked;
    failed = unfailed refl;
    set = inl (left.rest.settings, refl);
    counted = counted;
  })
    where
      adds : unpoison_done.Adds old new u.who u.frame u.at (unpoisons.next_at u.at s.found)
      adds = unpoison-adds layout old new u s.step s.found s.got s.fits.1 s.planned s.made

      left : Left old new
      left = unpoison-leaves u s.planned s.made

      counted : counts_owed old ≡ unpoison_done.owed_at u.at → counts_owed new ≡ unpoison_done.owed_at (unpoisons.next_at u.at s.found)
      counted has = let sum : counts_owed new + unpoison_done.owed_at u.at ≡ counts_owed old + unpoison_done.owed_at (unpoisons.next_at u.at s.found) = adds.counted in omega (arith, sum, has)

pub done : {layout : Layout} {old new : View} {j after : Job} → Stepped layout old new j after → HasDone old new (who j) j after
done {j = jobs.Instruction i} s = instruction-done s
done {j = jobs.Copying c} s = copying-done-so s
done {j = jobs.Evict e} s = nothing s (leaves s.made (quiet-step (evict e.at) s.planned)) (refl, refl, refl) (subst IsBlank (sym s.follows.1) (refl, refl, refl)) (ap policies_now s.follows.1)
done {j = jobs.Fsync f} s = fsync-done s
done {j = jobs.Prctl p} s = prctl-done s
done {j = jobs.Fork f} s = fork-done s
done {j = jobs.Denied d} s = denied-done s
done {j = jobs.Log l} s = nothing s (leaves s.made (quiet-step (read l.read.at) s.planned)) (refl, refl, refl) (subst IsBlank (sym s.follows.0) (refl, refl, refl)) (ap policies_now s.follows.0)
done {j = jobs.Raise r} s = raise-done-so s
done {j = jobs.Scrub c} s = scrub-done-so s
done {j = jobs.Spoil p} s = spoil-done s
done {j = jobs.Nested n} s = nested-done s
done {j = jobs.Inject i} s = inject-done s
done {j = jobs.Soft o} s = soft-done-so s
done {j = jobs.Unpoison u} s = unpoison-done-so s

-- ---- at its beginning a command has done nothing

pub unset-policies-at-start : (j : Job) → IsAtStop j → policies_now j ≡ []
unset-policies-at-start (jobs.Prctl p) start = ap (λ (x : PrctlAt). map (λ (policy : Policy). (p.thread, policy)) (set_at x)) start
unset-policies-at-start (jobs.Fork f) start = ap (given_at f.targets) start
unset-policies-at-start _ start = refl

pub unmarked-at-start : (j : Job) → IsAtStop j → marked_now j ≡ []
unmarked-at-start (jobs.Instruction i) start = ap (λ (l : List EventOutcome). instruction_done.marked_by l ++ instruction_done.marked_at i.at) start.3 ∙ ap instruction_done.marked_at start.1
unmarked-at-start (jobs.Copying c) start =
    ap (λ (l : List EventOutcome). instruction_done.marked_by l ++ copying_done.marked_at c.instruction c.at) start.2.3 ∙ ap (copying_done.marked_at c.instruction) start.0 ∙ ap instruction_done.marked_at start.2.1
unmarked-at-start (jobs.Raise r) start = ap (λ (l : List EventOutcome). filter_map marked_in l ++ raise_done.marked_at r.at) start.1 ∙ ap raise_done.marked_at start.0
unmarked-at-start (jobs.Scrub c) start = ap (λ (l : List EventOutcome). filter_map marked_in l ++ scrub_done.marked_at c.at) start.1 ∙ ap scrub_done.marked_at start.0
unmarked-at-start (jobs.Inject i) start = ap (marked_at i.frame) start
unmarked-at-start (jobs.Soft s) start = ap (soft_done.marked_at s.frame) start
unmarked-at-start (jobs.Unpoison u) start = ap (unpoison_done.marked_at u.frame) start
unmarked-at-start _ start = refl

pub unfailed-at-start : (j : Job) → IsAtStop j → failed_now j ≡ []
unfailed-at-start (jobs.Instruction i) start = ap (λ (l : List EventOutcome). instruction_done.failed_by (Some i.request.thread) l ++ instruction_done.failed_at i.at) start.3 ∙ ap instruction_done.failed_at start.1
unfailed-at-start (jobs.Copying c) start =
    ap (λ (l : List EventOutcome). instruction_done.failed_by (Some c.store.thread) l ++ copying_done.failed_at c.instruction c.at) start.2.3 ∙ ap (copying_done.failed_at c.instruction) start.0 ∙ ap instruction_done.failed_at start.2.1
unfailed-at-start (jobs.Raise r) start = ap (λ (l : List EventOutcome). filter_map (failed_told (thread_of r.raiser)) l ++ raise_done.failed_at r.at) start.1 ∙ ap raise_done.failed_at start.0
unfailed-at-start (jobs.Scrub c) start = ap (λ (l : List EventOutcome). filter_map (failed_told None) l ++ scrub_done.failed_at c.at) start.1 ∙ ap scrub_done.failed_at start.0
unfailed-at-start (jobs.Inject i) start = ap failed_at start
unfailed-at-start _ start = refl

pub unowed-at-start : (j : Job) → IsAtStop j → owed_now j ≡ 0
unowed-at-start (jobs.Instruction i) start = ap instruction_done.owed_at start.1
unowed-at-start (jobs.Copying c) start = ap (copying_done.owed_at c.instruction) start.0 ∙ ap instruction_done.owed_at start.2.1
unowed-at-start (jobs.Raise r) start = ap raise_done.owed_at start.0
unowed-at-start (jobs.Scrub c) start = ap scrub_done.owed_at start.0
unowed-at-start (jobs.Inject i) start = ap owed_at start
unowed-at-start (jobs.Soft s) start = ap soft_done.owed_at start
unowed-at-start (jobs.Unpoison u) start = ap unpoison_done.owed_at start
unowed-at-start _ start = refl

-- ---- once it is answered

-- it has counted each frame that it marked
pub unowed-at-end : (j : Job) {a : Answer} → answer j ≡ Some a → owed_now j ≡ 0
unowed-at-end (jobs.Instruction i) is = ap instruction_done.owed_at (instruction-over i (mapped _ (instructions.answer i) is).1)
unowed-at-end (jobs.Copying c) is = (copy_ends.all-told c (mapped _ (copyings.answer c) is).1).1
unowed-at-end (jobs.Raise r) is = ap raise_done.owed_at (raise-over r (mapped _ (raises.answer r) is).1)
unowed-at-end (jobs.Scrub c) is = ap scrub_done.owed_at (scrub-over c (mapped _ (scrubs.answer c) is).1)
unowed-at-end (jobs.Soft s) is = ap soft_done.owed_at (soft-over s (mapped _ (softs.answer s) is).1)
unowed-at-end (jobs.Unpoison u) is = ap unpoison_done.owed_at (unpoison-over u (mapped _ (unpoisons.answer u) is).1)
unowed-at-end (jobs.Inject i) {a} is = which i.at is
  where
    by : (y : FailAt) → option_map fail_answer (fails.answer_at y) ≡ Some a → fail_done.owed_at y ≡ 0
    by (fail_at.Over answer) is_ = refl
    by _ is_ = absurd (none-some a is_)

    which : (x : InjectAt) → option_map fail_answer (injects.answer_at x) ≡ Some a → owed_at x ≡ 0
    which inject_at.LoadStop is_ = refl
    which (inject_at.Fail f) is_ = by f.at is_
    which inject_at.Stopped is_ = refl
unowed-at-end _ is = refl

-- an eviction makes no failure
none-among : (l : List Made) → EachMember (λ (m : Made). ⊥) l → l ≡ []
none-among [] each = refl
none-among (m ∷ ms) each = absurd (each 0 m refl)

evict-unfailed : (page : Page) (place : ℕ) (what : Eviction) → failed_of page place (entry_of what) ≡ None
evict-unfailed page place (evictions.Free slot) = refl
evict-unfailed page place evictions.Drop = refl
evict-unfailed page place evictions.Sync = refl
evict-unfailed page place evictions.Out = refl

evict-failures : (layout : Layout) (view : View) (who : Who) (page : Page) (what : Eviction) (x : EvictAnswer) → IsCaused [] layout view who page what x → failures_by who view ≡ []
evict-failures layout view who page what evict_answers.Stopped caused = ap (filter_map failed_in) caused.0
evict-failures layout view who page what (evict_answers.Refused refusal at) caused = ap (filter_map failed_in) caused.0
evict-failures layout view who page what (evict_answers.Done at) caused =
    let has = caused.1 in
    ap (filter_map failed_in) (has.all ∙ ap (λ (l : List Made). l ++ has.last ∷ []) (none-among has.before has.such))
    ∙ ap (λ (o : Option Failed). cons_option o []) (ap (failed_of has.last.page has.last.place) has.at.2 ∙ evict-unfailed has.last.page has.last.place what)

-- nor does a command that takes a frame out of use
soft-failures : (layout : Layout) (view : View) (who : Who) (frame : Frame) (x : SoftAnswer) → offline.IsCaused [] layout view who frame x → failures_by who view ≡ []
soft-failures layout view who frame soft_answers.Stopped caused = ap (filter_map failed_in) caused.0
soft-failures layout view who frame soft_answers.Kernel caused = ap (filter_map failed_in) caused.0
soft-failures layout view who frame soft_answers.Already caused = ap (filter_map failed_in) caused.0
soft-failures layout view who frame (soft_answers.HasBad mask) caused = ap (filter_map failed_in) caused.0
soft-failures layout view who frame soft_answers.NoFrame caused = ap (filter_map failed_in) caused.0
soft-failures layout view who frame (soft_answers.TakenFree cycle) caused = ap (filter_map failed_in) caused.0
soft-failures layout view who frame (soft_answers.Moved to place cycle) caused =
    let has = caused.0 in
    ap (filter_map failed_in) (has.all ∙ ap (λ (l : List Made). l ++ has.last ∷ []) (none-among has.before has.such))
    ∙ ap (λ (o : Option Failed). cons_option o []) (ap (failed_of has.last.page has.last.place) has.at.2)

-- its failures are those that its entries tell; a command whose memory can't fail had made no entry before
pub failures-at-end : {base : List Made} (layout : Layout) (view : View) (j : Job) {a : Answer} → FitsFrom base layout view j → (can_fail j ≡ false → base ≡ []) → answer j ≡ Some a → (can_fail j ≡ true → failures_by (who j) view ≡ failed_now j) → failures_by (who j) view ≡ failed_now j
failures-at-end layout view (jobs.Instruction i) fits none is has = has refl
failures-at-end layout view (jobs.Copying c) fits none is has = has refl
failures-at-end layout view (jobs.Raise r) fits none is has = has refl
failures-at-end layout view (jobs.Scrub c) fits none is has = has refl
failures-at-end layout view (jobs.Inject i) fits none is has = has refl
failures-at-end layout view (jobs.Evict e) fits none is has = let own = mapped _ (evicts.answer e) is in
    evict-failures layout view e.who e.page e.what own.0 (evict-caused e (subst (λ (b : List Made). FitsFrom b layout view (jobs.Evict e)) (none refl) fits) own.1).1
failures-at-end layout view (jobs.Fsync f) fits none is has = ap (filter_map failed_in) fits.1.made_none
failures-at-end layout view (jobs.Prctl p) fits none is has = ap (filter_map failed_in) fits.1.made
failures-at-end layout view (jobs.Denied p) fits none is has = ap (filter_map failed_in) fits.1.made
failures-at-end layout view (jobs.Fork f) fits none is has = ap (filter_map failed_in) fits.1.made
failures-at-end layout view (jobs.Log l) fits none is has = ap (filter_map failed_in) fits.1.read.made
failures-at-end layout view (jobs.Spoil s) fits none is has = ap (filter_map failed_in) fits.1.made
failures-at-end layout view (jobs.Nested n) fits none is has = ap (filter_map failed_in) fits.1.made
failures-at-end layout view (jobs.Soft s) fits none is has = let own = mapped _ (softs.answer s) is in
    soft-failures layout view s.who s.frame own.0 (soft-ended s (subst (λ (b : List Made). FitsFrom b layout view (jobs.Soft s)) (none refl) fits) own.1).1
failures-at-end layout view (jobs.Unpoison u) fits none is has = ap (filter_map failed_in) fits.1.made

-- ---- what a view lists of a command

module _ {A B : Type 0} (by : A → Who) (told : A → B) (test : Who → Bool) where
  abbrev of_command : List A → List B
  of_command l = map told (filter (λ (x : A). test (by x)) l)

  -- what the view lists of the command grows as the command does it
  pub grown : (old new : List A) (who : Who) (before after : List B) → test who ≡ true → Grows by told old new who before after → map told (filter (λ (x : A). test (by x)) old) ≡ before → map told (filter (λ (x : A). test (by x)) new) ≡ after
  grown old new who before after own (inl (same, alike)) was = ap of_command same ∙ was ∙ sym alike
  grown old new who before after own (inr (x, more, is, longer)) was =
      ap of_command more ∙ ap (map told) (filter-append (λ (y : A). test (by y)) old (x ∷ [])) ∙ map-append told (filter (λ (y : A). test (by y)) old) (filter (λ (y : A). test (by y)) (x ∷ []))
      ∙ ap (λ (b : Bool). of_command old ++ map told (cond b (x ∷ []) [])) (ap test is ∙ own) ∙ ap (λ (l : List B). l ++ told x ∷ []) was ∙ sym longer

  -- it lists nothing of a command of which no member is
  pub none-listed : (l : List A) → EachMember (λ (x : A). test (by x) ≡ false) l → map told (filter (λ (x : A). test (by x)) l) ≡ []
  none-listed [] each = refl
  none-listed (x ∷ xs) each = ap (λ (b : Bool). map told (cond b (x ∷ filter (λ (y : A). test (by y)) xs) (filter (λ (y : A). test (by y)) xs))) (each 0 x refl) ∙ none-listed xs (λ i y at. each (suc i) y at)
