-- What a step of a command leaves of what a view lists: the policies set and the damage stay, but for a command
-- that makes one of these; and the stops stay, or the command stops the machine itself.
use Rattle.std.proofs.Common.{◌≡◌, ◌⊎◌, inl, inr, ℕ, ◌==◌, Bool, true, false, cond, List, [], ◌∷◌, ◌++◌, Option, Some, None, refl, sym, ap, ◌∙◌, subst, true≢false}
use Rattle.std.proofs.lemmas.Option.{none-some}
use Rattle.hwp_cpu_command.specs.hwp_geom.declared.Frame.{Frame}
use Rattle.hwp_cpu_command.specs.hwp_geom.declared.Layout.{Layout}
use Rattle.hwp_cpu_command.specs.hwp_geom.declared.Who.{Who}
use Rattle.hwp_cpu_command.specs.hwp_page.History.{BodyValue}
use Rattle.hwp_cpu_command.specs.hwp_words.Stops.{is_stopped}
use Rattle.hwp_cpu_command.specs.hwp_core_rule.declared.Made.{Made}
use Rattle.hwp_cpu_command.specs.hwp_core_rule.declared.SharedWord.TheVariants as places
use Rattle.hwp_cpu_command.specs.hwp_core_rule.declared.Step.{Step}
use Rattle.hwp_cpu_command.specs.hwp_core_rule.declared.Step.TheVariants as steps
use Rattle.hwp_cpu_command.specs.hwp_core_rule.declared.View.{View}
use Rattle.hwp_cpu_command.specs.hwp_core_rule.declared.Turn.{Turn}
use Rattle.hwp_cpu_command.specs.hwp_core_rule.Calls.{Steps, logs}
use Rattle.hwp_cpu_command.proofs.of_hwp_core_rule.tasks.StepLeaves.{steps-planned}
use Rattle.hwp_cpu_command.specs.hwp_cpu_control.declared.Nested.{Nested}
use Rattle.hwp_cpu_command.specs.hwp_cpu_control.declared.NestedAnswer.TheVariants as nested_answers
use Rattle.hwp_cpu_command.specs.hwp_cpu_control.declared.Fork.{Fork}
use Rattle.hwp_cpu_command.specs.hwp_cpu_control.declared.fork.ForkAt.{ForkAt}
use Rattle.hwp_cpu_command.specs.hwp_cpu_control.declared.fork.ForkAt.TheVariants as fork_at
use Rattle.hwp_cpu_command.specs.hwp_cpu_control.Forks as forks
use Rattle.hwp_cpu_command.specs.hwp_cpu_control.declared.Denied.{Denied}
use Rattle.hwp_cpu_command.specs.hwp_cpu_control.declared.denied.DeniedAt.{DeniedAt}
use Rattle.hwp_cpu_command.specs.hwp_cpu_control.declared.denied.DeniedAt.TheVariants as denied_at
use Rattle.hwp_cpu_command.specs.hwp_cpu_control.Denieds as denieds
use Rattle.hwp_cpu_command.specs.hwp_cpu_control.declared.Prctl.{Prctl}
use Rattle.hwp_cpu_command.specs.hwp_cpu_control.declared.Spoil.{Spoil}
use Rattle.hwp_cpu_command.specs.hwp_cpu_control.declared.nested.NestedAt.{NestedAt}
use Rattle.hwp_cpu_command.specs.hwp_cpu_control.declared.nested.NestedAt.TheVariants as nested_at
use Rattle.hwp_cpu_command.specs.hwp_cpu_control.declared.prctl.PrctlAt.{PrctlAt}
use Rattle.hwp_cpu_command.specs.hwp_cpu_control.declared.prctl.PrctlAt.TheVariants as prctl_at
use Rattle.hwp_cpu_command.specs.hwp_cpu_control.declared.spoil.SpoilAt.{SpoilAt}
use Rattle.hwp_cpu_command.specs.hwp_cpu_control.declared.spoil.SpoilAt.TheVariants as spoil_at
use Rattle.hwp_cpu_command.specs.hwp_cpu_control.Nesteds as nesteds
use Rattle.hwp_cpu_command.specs.hwp_cpu_control.Prctls as prctls
use Rattle.hwp_cpu_command.specs.hwp_cpu_control.Spoils as spoils
use Rattle.hwp_cpu_command.specs.hwp_evict.declared.Fsync.{Fsync}
use Rattle.hwp_cpu_command.specs.hwp_evict.declared.fsync.FsyncAt.{FsyncAt}
use Rattle.hwp_cpu_command.specs.hwp_evict.declared.fsync.FsyncAt.TheVariants as fsync_at
use Rattle.hwp_cpu_command.specs.hwp_evict.Fsyncs as fsyncs
use Rattle.hwp_cpu_command.specs.hwp_claim_frame.declared.claim.Claim.{Claim}
use Rattle.hwp_cpu_command.specs.hwp_claim_frame.declared.claim.ClaimAt.{ClaimAt}
use Rattle.hwp_cpu_command.specs.hwp_claim_frame.declared.claim.ClaimAt.TheVariants as claim_at
use Rattle.hwp_cpu_command.specs.hwp_claim_frame.Claims as claims
use Rattle.hwp_cpu_command.specs.hwp_claim.declared.fail.Fail.{Fail}
use Rattle.hwp_cpu_command.specs.hwp_claim.declared.fail.FailAt.{FailAt}
use Rattle.hwp_cpu_command.specs.hwp_claim.declared.fail.FailAt.TheVariants as fail_at
use Rattle.hwp_cpu_command.specs.hwp_claim.declared.FailAnswer.TheVariants as fail_answers
use Rattle.hwp_cpu_command.specs.hwp_claim.declared.inject.Inject.{Inject}
use Rattle.hwp_cpu_command.specs.hwp_claim.declared.inject.InjectAt.{InjectAt}
use Rattle.hwp_cpu_command.specs.hwp_claim.declared.inject.InjectAt.TheVariants as inject_at
use Rattle.hwp_cpu_command.specs.hwp_claim.Fails as fails
use Rattle.hwp_cpu_command.specs.hwp_claim.Injects as injects
use Rattle.hwp_cpu_command.proofs.of_hwp_claim.of_hwp_claim_frame.Quiet.{IsQuiet, PlansQuiet, leaves}
use Rattle.hwp_cpu_command.specs.hwp_fault.Accesses as accesses
use Rattle.hwp_cpu_command.specs.hwp_claim.Checks.{Check}
use Rattle.hwp_cpu_command.specs.hwp_claim.declared.Handler.{Handler}
use Rattle.hwp_cpu_command.specs.hwp_claim.Handlers as handlers
use Rattle.hwp_cpu_command.specs.hwp_claim.Told.{halts}
use Rattle.hwp_cpu_command.specs.hwp_cpu_access.declared.Instruction.{Instruction}
use Rattle.hwp_cpu_command.specs.hwp_cpu_access.declared.instruction.InstructionAt.{InstructionAt}
use Rattle.hwp_cpu_command.specs.hwp_cpu_access.declared.instruction.InstructionAt.TheVariants as instruction_at
use Rattle.hwp_cpu_command.specs.hwp_cpu_access.Fits as instruction_fits
use Rattle.hwp_cpu_command.specs.hwp_cpu_access.Instructions as instructions
use Rattle.hwp_cpu_command.proofs.of_hwp_cpu_access.CheckLaws.{halts-more}
use Rattle.hwp_cpu_command.proofs.of_hwp_cpu_access.Quiet.{access}
use Rattle.hwp_cpu_command.specs.hwp_fork.Cows as cows
use Rattle.hwp_cpu_command.specs.hwp_cpu_access.declared.Copying.{Copying}
use Rattle.hwp_cpu_command.specs.hwp_cpu_access.declared.copying.CopyingAt.{CopyingAt}
use Rattle.hwp_cpu_command.specs.hwp_cpu_access.declared.copying.CopyingAt.TheVariants as copying_at
use Rattle.hwp_cpu_command.specs.hwp_cpu_access.Copyings as copyings
use Rattle.hwp_cpu_command.specs.hwp_cpu_access.CopyFits as copying_fits
use Rattle.hwp_cpu_command.specs.hwp_cpu_access.Runs as copying_runs
use Rattle.hwp_cpu_command.proofs.of_hwp_cpu_access.CowSteps.{request-who}
use Rattle.hwp_cpu_command.specs.hwp_scrub.declared.Raise.{Raise}
use Rattle.hwp_cpu_command.specs.hwp_scrub.declared.raise.RaiseAt.{RaiseAt}
use Rattle.hwp_cpu_command.specs.hwp_scrub.declared.raise.RaiseAt.TheVariants as raise_at
use Rattle.hwp_cpu_command.specs.hwp_scrub.RaiseFits as raise_fits
use Rattle.hwp_cpu_command.specs.hwp_scrub.Raises as raises
use Rattle.hwp_cpu_command.specs.hwp_scrub.declared.Scrub.{Scrub}
use Rattle.hwp_cpu_command.specs.hwp_scrub.declared.scrub.ScrubAt.{ScrubAt}
use Rattle.hwp_cpu_command.specs.hwp_scrub.declared.scrub.ScrubAt.TheVariants as scrub_at
use Rattle.hwp_cpu_command.specs.hwp_scrub.Fits as scrub_fits
use Rattle.hwp_cpu_command.specs.hwp_scrub.Scrubs as scrubs
use Rattle.hwp_cpu_command.proofs.of_hwp_scrub.VisitLaws.{halts-both}
use Rattle.hwp_cpu_command.specs.declared.job.Job.{Job}
use Rattle.hwp_cpu_command.specs.declared.job.Job.TheVariants as jobs
use Rattle.hwp_cpu_command.specs.Jobs.{plan}
use Rattle.hwp_cpu_command.specs.Stays.{HasInstructionStopped, HasStopped, IsInstructionStopping, Stepped, StopsItself}
use Rattle.hwp_cpu.proofs.commands.TaskLeaves.{HandlerLeft, HasHalted, Rest, fail-left, handler-left, quiet-rest, soft-leaves, stop-rest, stops-by, unpoison-leaves}
use Rattle.hwp_cpu.proofs.commands.Quiet.{evict, read}

pub quiet-step : {o : Option Step} {step : Step} → PlansQuiet o → o ≡ Some step → IsQuiet step
quiet-step quiet is = subst PlansQuiet is quiet

-- the stops stay, or the command stops the machine itself
abbrev pub StopsLeft : Job → Job → View → View → Type 0
StopsLeft j after old new = (new.stops ≡ old.stops) ⊎ StopsItself j after old new

pub record IsLeft (j after : Job) (old new : View) : Type 0 where
  pub rest : Rest old new
  pub stops : StopsLeft j after old new

module _ {layout : Layout} {old new : View} {j after : Job} (s : Stepped layout old new j after) where
  by-quiet : PlansQuiet (plan j) → IsLeft j after old new
  by-quiet quiet = let same = leaves s.made (quiet-step quiet s.planned) in record { rest = quiet-rest same; stops = inl same.stops }

  by-load : {step : Step} → IsQuiet step → Some step ≡ Some s.step → IsLeft j after old new
  by-load {step} quiet e = let same = leaves (steps-planned {other = step} e s.made) quiet in record { rest = quiet-rest same; stops = inl same.stops }

-- ---- machine checks

-- an access, alone or as one of many of its command, makes the step that came
pub record InstructionStep (layout : Layout) (old new : View) (i after : Instruction) : Type 0 where
  pub base : List Made
  pub earlier : List Check
  pub step : Step
  pub found : ℕ
  pub got : Option BodyValue
  pub turn : Turn
  pub fits : instruction_fits.FitsBehind base earlier layout old i
  pub planned : instructions.plan i ≡ Some step
  pub made : Steps layout i.request.who step (logs (instructions.put i)) old new found got
  pub follows : instructions.Follows layout (instructions.bare i) found got after turn

-- it stopped the machine for an event of its machine check
pub record InstructionHalted (i after : Instruction) (old new : View) : Type 0 where
  pub stopping : IsInstructionStopping i
  pub has : HasInstructionStopped after
  pub stops_are : new.stops ≡ old.stops ++ i.request.who ∷ []

pub record InstructionLeft (i after : Instruction) (old new : View) : Type 0 where
  pub rest : Rest old new
  pub stops : (new.stops ≡ old.stops) ⊎ InstructionHalted i after old new

module _ {layout : Layout} {old new : View} {i after : Instruction} (s : InstructionStep layout old new i after) where
  abbrev checks : List Check
  checks = s.earlier ++ s.fits.checks

  instruction-handled : (frame : Frame) (h : Handler) → i.at ≡ instruction_at.Handle frame h → instruction_fits.IsHandling s.base layout old i checks frame h → handlers.plan h ≡ Some s.step → Steps layout i.request.who s.step (logs (handlers.put h)) old new s.found s.got
      → instructions.FollowsAt layout (instructions.bare i) (instruction_at.Handle frame (handlers.bare h)) s.found s.got after s.turn → InstructionLeft i after old new
  instruction-handled frame h at is e made follows = record { rest = left.rest; stops = by left.stops }
    where
      left : HandlerLeft h follows.handler old new
      left = handler-left h s.turn is.has.handler e (subst (λ (w : Who). Steps layout w s.step (logs (handlers.put h)) old new s.found s.got) (sym is.has.own) made) follows.follows

      halted : HasHalted h follows.handler old new → HasInstructionStopped after
      halted has = subst HasInstructionStopped (sym (follows.next_is ∙ ap (instructions.after_handler_by (instructions.bare i) frame follows.handler) has.over))
          (refl, halts-more i.lines.told follows.handler.events.told is.has.lets.halts_none ∙ has.halts_is)

      by : (new.stops ≡ old.stops) ⊎ HasHalted h follows.handler old new → (new.stops ≡ old.stops) ⊎ InstructionHalted i after old new
      by (inl same) = inl same
      by (inr has) = inr (record { stopping = (frame, h, at, has.stopping); has = halted has; stops_are = has.stops_are ∙ ap (λ (w : Who). old.stops ++ w ∷ []) is.has.own })

  pub instruction-leaves : InstructionLeft i after old new
  instruction-leaves = which i.at refl s.fits.at s.planned s.made s.follows
    where
      quietly : (put : Option BodyValue) → Steps layout i.request.who s.step (logs put) old new s.found s.got → IsQuiet s.step → InstructionLeft i after old new
      quietly put made quiet = let same = leaves made quiet in record { rest = quiet-rest same; stops = inl same.stops }

      which : (x : InstructionAt) → i.at ≡ x → instruction_fits.FitsAt s.base layout old i checks x → instructions.plan_at x ≡ Some s.step → Steps layout i.request.who s.step (logs (instructions.put_at x)) old new s.found s.got
          → instructions.FollowsAt layout (instructions.bare i) (instructions.bare_at x) s.found s.got after s.turn → InstructionLeft i after old new
      which (instruction_at.Access a) at has e made follows = quietly (accesses.put a) made (quiet-step (access a.request a.at) e)
      which (instruction_at.Handle frame h) at has e made follows = instruction-handled frame h at has e made follows
      which (instruction_at.LoadFrame frame) at has e made follows = quietly None made (quiet-step {o = Some (steps.Load (places.Frame frame))} tt e)
      which (instruction_at.LoadStop frame) at has e made follows = quietly None made (quiet-step {o = Some (steps.Load places.Stop)} tt e)
      which instruction_at.GiveUp at has e made follows = quietly None made (quiet-step {o = Some steps.GiveUp} tt e)
      which (instruction_at.Paused pause) at has e made follows = absurd (none-some s.step e)
      which (instruction_at.Over answer) at has e made follows = absurd (none-some s.step e)

module _ {layout : Layout} {old new : View} {i : Instruction} {after : Job} (s : Stepped layout old new (jobs.Instruction i) after) where
  pub instruction-left : IsLeft (jobs.Instruction i) after old new
  instruction-left = record { rest = left.rest; stops = by left.stops }
    where
      left : InstructionLeft i s.follows.0 old new
      left = instruction-leaves (record { base = s.base; earlier = []; step = s.step; found = s.found; got = s.got; turn = s.turn; fits = s.fits; planned = s.planned; made = s.made; follows = s.follows.2 })

      by : (new.stops ≡ old.stops) ⊎ InstructionHalted i s.follows.0 old new → StopsLeft (jobs.Instruction i) after old new
      by (inl same) = inl same
      by (inr halted) = inr (record { stopping = halted.stopping; has = subst HasStopped (sym s.follows.1) halted.has; stops_are = halted.stops_are })

-- a copy, whichever access of it goes on
module _ {layout : Layout} {old new : View} {c : Copying} {after : Job} (s : Stepped layout old new (jobs.Copying c) after) where
  copy-accessed : c.at ≡ copying_at.Access → copying_fits.IsAccessing s.base layout old c s.fits.runs → instructions.plan c.instruction ≡ Some s.step → Steps layout c.store.who s.step (logs (instructions.put c.instruction)) old new s.found s.got
      → copyings.AccessStepped layout (copyings.bare_at c copying_at.Access) s.found s.got s.follows.0 s.turn → IsLeft (jobs.Copying c) after old new
  copy-accessed at has e made follows = record { rest = left.rest; stops = by left.stops }
    where
      own : c.instruction.request.who ≡ c.store.who
      own = (request-who c.store c.page (cows.sub_of c.cow) has.request_is).0

      left : InstructionLeft c.instruction follows.instruction old new
      left = instruction-leaves (record {
        base = s.base ++ (copying_runs.made_by s.fits.runs ++ has.since);
        earlier = copying_runs.checks_by s.fits.runs;
        step = s.step;
        found = s.found;
        got = s.got;
        turn = s.turn;
        fits = has.instruction;
        planned = e;
        made = subst (λ (w : Who). Steps layout w s.step (logs (instructions.put c.instruction)) old new s.found s.got) (sym own) made;
        follows = follows.follows;
      })

      same : HasInstructionStopped follows.instruction → s.follows.0 ≡ record c { instruction = follows.instruction; at = copying_at.Access }
      same has = follows.next_is ∙ ap (copyings.after_access (record (copyings.bare_at c copying_at.Access) { instruction = follows.instruction })) has.0

      by : (new.stops ≡ old.stops) ⊎ InstructionHalted c.instruction follows.instruction old new → StopsLeft (jobs.Copying c) after old new
      by (inl still) = inl still
      by (inr halted) = inr (record {
        stopping = (at, halted.stopping);
        has = subst HasStopped (sym (s.follows.1 ∙ ap jobs.Copying (same halted.has))) (refl, halted.has);
        stops_are = halted.stops_are ∙ ap (λ (w : Who). old.stops ++ w ∷ []) own;
      })

  pub copying-left : IsLeft (jobs.Copying c) after old new
  copying-left = which c.at refl s.fits.at s.planned s.made s.follows.2
    where
      which : (x : CopyingAt) → c.at ≡ x → copying_fits.FitsAt s.base layout old c s.fits.runs x → copyings.plan_at c.instruction x ≡ Some s.step → Steps layout c.store.who s.step (logs (copyings.put_at c.instruction x)) old new s.found s.got
          → copyings.FollowsAt layout (copyings.bare_at c x) (copyings.bare_at c x).at s.found s.got s.follows.0 s.turn → IsLeft (jobs.Copying c) after old new
      which copying_at.Access at has e made follows = copy-accessed at has e made follows
      which (copying_at.Free f stored) at has e made follows = let same = leaves made (quiet-step (evict f.at) e) in record { rest = quiet-rest same; stops = inl same.stops }
      which (copying_at.Over answer) at has e made follows = absurd (none-some s.step e)

module _ {layout : Layout} {old new : View} {r : Raise} {after : Job} (s : Stepped layout old new (jobs.Raise r) after) where
  abbrev raised : Raise
  raised = s.follows.0

  raise-handled : (h : Handler) → r.at ≡ raise_at.Handle h → raise_fits.HasHandler layout old r h → handlers.plan h ≡ Some s.step → Steps layout r.who s.step (logs (handlers.put h)) old new s.found s.got
      → raises.FollowsAt layout (raises.bare r) (raise_at.Handle (handlers.bare h)) s.found s.got raised s.turn → IsLeft (jobs.Raise r) after old new
  raise-handled h at is e made follows = record { rest = left.rest; stops = by left.stops }
    where
      left : HandlerLeft h follows.handler old new
      left = handler-left h s.turn is.handler e (subst (λ (w : Who). Steps layout w s.step (logs (handlers.put h)) old new s.found s.got) (sym is.own) made) follows.follows

      halted : HasHalted h follows.handler old new → HasStopped (jobs.Raise raised)
      halted has = subst (λ (k : Raise). HasStopped (jobs.Raise k)) (sym (follows.next_is ∙ ap (raises.after_handler_by (raises.bare r) follows.handler) has.over))
          (refl, ap (λ (l : _). halts (l ++ follows.handler.events.told)) is.told_none ∙ has.halts_is)

      by : (new.stops ≡ old.stops) ⊎ HasHalted h follows.handler old new → StopsLeft (jobs.Raise r) after old new
      by (inl same) = inl same
      by (inr has) = inr (record { stopping = (h, at, has.stopping); has = subst HasStopped (sym s.follows.1) (halted has); stops_are = has.stops_are ∙ ap (λ (w : Who). old.stops ++ w ∷ []) is.own })

  pub raise-left : IsLeft (jobs.Raise r) after old new
  raise-left = which r.at refl s.fits.1.at s.planned s.made s.follows.2
    where
      which : (x : RaiseAt) → r.at ≡ x → raise_fits.FitsAt layout old r x → raises.plan_at x ≡ Some s.step → Steps layout r.who s.step (logs (raises.put_at x)) old new s.found s.got
          → raises.FollowsAt layout (raises.bare r) (raises.bare_at x) s.found s.got raised s.turn → IsLeft (jobs.Raise r) after old new
      which raise_at.LoadStop at has e made follows = by-load s tt e
      which (raise_at.LoadProcess raiser) at has e made follows = by-load s tt e
      which (raise_at.Handle h) at has e made follows = raise-handled h at has.0 e made follows
      which raise_at.GiveUp at has e made follows = by-load s tt e
      which (raise_at.Over answer) at has e made follows = absurd (none-some s.step e)

module _ {layout : Layout} {old new : View} {c : Scrub} {after : Job} (s : Stepped layout old new (jobs.Scrub c) after) where
  abbrev scrubbed : Scrub
  scrubbed = s.follows.0

  scrub-handled : (frame : Frame) (h : Handler) → c.at ≡ scrub_at.Handle frame h → scrub_fits.HasHandler layout old c frame h → handlers.plan h ≡ Some s.step → Steps layout c.who s.step (logs (handlers.put h)) old new s.found s.got
      → scrubs.FollowsAt layout (scrubs.bare c) (scrub_at.Handle frame (handlers.bare h)) s.found s.got scrubbed s.turn → IsLeft (jobs.Scrub c) after old new
  scrub-handled frame h at is e made follows = record { rest = left.rest; stops = by left.stops }
    where
      left : HandlerLeft h follows.handler old new
      left = handler-left h s.turn is.handler e (subst (λ (w : Who). Steps layout w s.step (logs (handlers.put h)) old new s.found s.got) (sym is.own) made) follows.follows

      halted : HasHalted h follows.handler old new → HasStopped (jobs.Scrub scrubbed)
      halted has = subst (λ (k : Scrub). HasStopped (jobs.Scrub k)) (sym (follows.next_is ∙ ap (scrubs.after_handler_by (scrubs.bare c) frame follows.handler) has.over))
          (refl, halts-both c.lines.told follows.handler.events.told (ap halts is.told_is ∙ is.visited.halts_none) ∙ has.halts_is)

      by : (new.stops ≡ old.stops) ⊎ HasHalted h follows.handler old new → StopsLeft (jobs.Scrub c) after old new
      by (inl same) = inl same
      by (inr has) = inr (record { stopping = (frame, h, at, has.stopping); has = subst HasStopped (sym s.follows.1) (halted has); stops_are = has.stops_are ∙ ap (λ (w : Who). old.stops ++ w ∷ []) is.own })

  pub scrub-left : IsLeft (jobs.Scrub c) after old new
  scrub-left = which c.at refl s.fits.1.at s.planned s.made s.follows.2
    where
      which : (x : ScrubAt) → c.at ≡ x → scrub_fits.FitsAt layout old c x → scrubs.plan_at x ≡ Some s.step → Steps layout c.who s.step (logs (scrubs.put_at x)) old new s.found s.got
          → scrubs.FollowsAt layout (scrubs.bare c) (scrubs.bare_at x) s.found s.got scrubbed s.turn → IsLeft (jobs.Scrub c) after old new
      which scrub_at.LoadStop at has e made follows = by-load s tt e
      which (scrub_at.LoadBad frame) at has e made follows = by-load s tt e
      which (scrub_at.Handle frame h) at has e made follows = scrub-handled frame h at has.0 e made follows
      which (scrub_at.LoadWeak frame) at has e made follows = by-load s tt e
      which scrub_at.GiveUp at has e made follows = by-load s tt e
      which (scrub_at.Over answer) at has e made follows = absurd (none-some s.step e)

module _ {layout : Layout} {old new : View} {n : Nested} {after : Job} (s : Stepped layout old new (jobs.Nested n) after) where
  pub nested-left : IsLeft (jobs.Nested n) after old new
  nested-left = which n.at refl s.planned
    where
      by : n.at ≡ nested_at.Stop → ((s.found == 0) ≡ true) × (new.stops ≡ old.stops ++ n.who ∷ []) ⊎ (new.stops ≡ old.stops) → StopsLeft (jobs.Nested n) after old new
      by at (inr same) = inl same
      by at (inl (zero, more)) = inr (record {
        stopping = at;
        has = subst HasStopped (sym s.follows.0) (ap (λ (x : NestedAt). nesteds.next_at x s.found) at
            ∙ ap (λ (b : Bool). nested_at.Over (cond b (Some nested_answers.Shutdown) (cond (is_stopped s.found) (Some nested_answers.Stopped) None))) zero);
        stops_are = more;
      })

      which : (x : NestedAt) → n.at ≡ x → nesteds.plan_at n.who x ≡ Some s.step → IsLeft (jobs.Nested n) after old new
      which nested_at.LoadStop at e = by-load s tt e
      which nested_at.Stop at e = let own = steps-planned {other = steps.Stop n.who.cpu} e s.made in record { rest = stop-rest own; stops = by at (stops-by own) }
      which (nested_at.Over answer) at e = absurd (none-some s.step e)

-- ---- a memory failure

-- on a machine that doesn't recover, a failure stops the machine
stopping-claim : (f : Fail) {step : Step} → injects.recovers_at f.at ≡ false → fails.plan f ≡ Some step → (c : Claim) × (f.at ≡ fail_at.Claim c) × (c.at ≡ claim_at.Stop)
stopping-claim f {step} lost planned = which f.at refl lost planned
  where
    by : (c : Claim) → f.at ≡ fail_at.Claim c → (x : ClaimAt) → c.at ≡ x → injects.recovers_in x ≡ false → claims.plan_at c.who c.frame c.hardware x ≡ Some step → (d : Claim) × (f.at ≡ fail_at.Claim d) × (d.at ≡ claim_at.Stop)
    by c is claim_at.Stop at no_ e = (c, is, at)
    by c is claim_at.GaveUp at no_ e = absurd (none-some step e)
    by c is claim_at.Stopped at no_ e = absurd (none-some step e)
    by c is _ at no_ e = absurd (true≢false no_)

    which : (x : FailAt) → f.at ≡ x → injects.recovers_at x ≡ false → fails.plan_at x ≡ Some step → (c : Claim) × (f.at ≡ fail_at.Claim c) × (c.at ≡ claim_at.Stop)
    which (fail_at.Claim c) is no_ e = by c is c.at refl no_ e
    which (fail_at.Act cycle a) is no_ e = absurd (true≢false no_)
    which (fail_at.Over answer) is no_ e = absurd (none-some step e)

module _ {layout : Layout} {old new : View} {i : Inject} {after : Job} (s : Stepped layout old new (jobs.Inject i) after) where
  abbrev injected : Inject
  injected = s.follows.0

  module _ (f : Fail) (at : i.at ≡ inject_at.Fail f) (has : injects.IsFailing layout old i.who i.frame f) (follows : injects.FailsOn (fails.bare f) s.found s.got injected.at s.turn) where
    -- the claim found the machine not stopped
    stop-follows : (c : Claim) → f.at ≡ fail_at.Claim c → c.at ≡ claim_at.Stop → (s.found == 0) ≡ true → HasStopped after
    stop-follows c is stop zero = subst HasStopped (sym s.follows.1) (follows.after, follows.next_is, which)
      where
        next_at : claims.next_at c.who c.frame (claims.bare_at c.at) s.found s.got ≡ claim_at.Stopped
        next_at = ap (λ (x : ClaimAt). claims.next_at c.who c.frame (claims.bare_at x) s.found s.got) stop
            ∙ ap (λ (b : Bool). cond b claim_at.Stopped (cond (is_stopped s.found) claim_at.Stopped claim_at.GaveUp)) zero

        claimed : fails.AfterClaim f.who f.frame f.required (claims.next (claims.bare c) s.found s.got) follows.after.at
        claimed = (subst (λ (x : FailAt). fails.FollowsAt f.who f.frame f.required (fails.bare_at x) s.found s.got follows.after.at s.turn) is follows.follows.1).0

        which : follows.after.at ≡ fail_at.Over fail_answers.Stopped
        which = subst (λ (x : ClaimAt). fails.AfterClaimBy f.who f.frame f.required (claims.next (claims.bare c) s.found s.got) (claims.answer_at x) follows.after.at) next_at claimed

    by-stop : (c : Claim) → f.at ≡ fail_at.Claim c → c.at ≡ claim_at.Stop → fails.plan f ≡ Some s.step → Steps layout i.who s.step (logs (fails.put f)) old new s.found s.got → IsLeft (jobs.Inject i) after old new
    by-stop c is stop e made = record { rest = stop-rest own; stops = by (stops-by own) }
      where
        own_is : c.who ≡ i.who
        own_is = (subst (fails.FitsAt layout old f.who f.frame f.required f.hardware) is has.fail.at).own ∙ has.own

        planned : Some (steps.Stop c.who.cpu) ≡ Some s.step
        planned = sym (ap fails.plan_at is ∙ ap (claims.plan_at c.who c.frame c.hardware) stop) ∙ e

        own : Steps layout i.who (steps.Stop i.who.cpu) None old new s.found s.got
        own = subst (λ (w : Who). Steps layout i.who (steps.Stop w.cpu) None old new s.found s.got) own_is
            (subst (λ (b : _). Steps layout i.who (steps.Stop c.who.cpu) (logs b) old new s.found s.got) (ap fails.put_at is ∙ ap claims.put_at stop) (steps-planned planned made))

        by : ((s.found == 0) ≡ true) × (new.stops ≡ old.stops ++ i.who ∷ []) ⊎ (new.stops ≡ old.stops) → StopsLeft (jobs.Inject i) after old new
        by (inr same) = inl same
        by (inl (zero, more)) = inr (record { stopping = (f, c, at, is, stop); has = stop-follows c is stop zero; stops_are = more })

    inject-failed : fails.plan f ≡ Some s.step → Steps layout i.who s.step (logs (fails.put f)) old new s.found s.got → IsLeft (jobs.Inject i) after old new
    inject-failed e made = which (injects.recovers_at f.at) refl
      where
        which : (b : Bool) → injects.recovers_at f.at ≡ b → IsLeft (jobs.Inject i) after old new
        which true recovers = let left = fail-left f recovers e made in record { rest = left.rest; stops = inl left.stops }
        which false lost = let c = stopping-claim f lost e in by-stop c.0 c.1 c.2 e made

  pub inject-left : IsLeft (jobs.Inject i) after old new
  inject-left = which i.at refl s.fits.1.at s.planned s.made s.follows.2.1
    where
      which : (x : InjectAt) → i.at ≡ x → injects.FitsAt layout old i.who i.frame x → injects.plan_at x ≡ Some s.step → Steps layout i.who s.step (logs (injects.put_at x)) old new s.found s.got
          → injects.FollowsAt layout i.alloc i.who i.frame (injects.bare_at x) s.found s.got injected.at s.turn → IsLeft (jobs.Inject i) after old new
      which inject_at.LoadStop at has e made follows = by-load s tt e
      which (inject_at.Fail f) at has e made follows = inject-failed f at has follows e made
      which inject_at.Stopped at has e made follows = absurd (none-some s.step e)

-- ---- commands that set a policy, tell losses or damage a line

module _ {layout : Layout} {old new : View} {f : Fsync} {after : Job} (s : Stepped layout old new (jobs.Fsync f) after) where
  pub fsync-left : (new.spoiled ≡ old.spoiled) × (new.stops ≡ old.stops)
  fsync-left = which f.at s.planned
    where
      which : (x : FsyncAt) → fsyncs.plan_at f.file x ≡ Some s.step → (new.spoiled ≡ old.spoiled) × (new.stops ≡ old.stops)
      which fsync_at.LoadStop e = let same = leaves (steps-planned e s.made) tt in (same.spoiled, same.stops)
      which fsync_at.Report e = let own = steps-planned e s.made in (ap (λ (v : View). v.spoiled) own.told.next, ap (λ (v : View). v.stops) own.told.next)
      which (fsync_at.Over answer number) e = absurd (none-some s.step e)

module _ {layout : Layout} {old new : View} {p : Prctl} {after : Job} (s : Stepped layout old new (jobs.Prctl p) after) where
  pub prctl-left : (new.spoiled ≡ old.spoiled) × (new.stops ≡ old.stops)
  prctl-left = which p.at s.planned
    where
      which : (x : PrctlAt) → prctls.plan_at p.thread p.process x ≡ Some s.step → (new.spoiled ≡ old.spoiled) × (new.stops ≡ old.stops)
      which prctl_at.LoadStop e = let same = leaves (steps-planned e s.made) tt in (same.spoiled, same.stops)
      which prctl_at.LoadProcess e = let same = leaves (steps-planned e s.made) tt in (same.spoiled, same.stops)
      which prctl_at.LoadPolicy e = let same = leaves (steps-planned e s.made) tt in (same.spoiled, same.stops)
      which (prctl_at.SetPolicy policy settings) e = let own = steps-planned e s.made in (ap (λ (v : View). v.spoiled) own.told.next, ap (λ (v : View). v.stops) own.told.next)
      which (prctl_at.Over answer) e = absurd (none-some s.step e)

module _ {layout : Layout} {old new : View} {d : Denied} {after : Job} (s : Stepped layout old new (jobs.Denied d) after) where
  pub denied-left : (new.spoiled ≡ old.spoiled) × (new.stops ≡ old.stops)
  denied-left = which d.at s.planned
    where
      which : (x : DeniedAt) → denieds.plan_at d.process x ≡ Some s.step → (new.spoiled ≡ old.spoiled) × (new.stops ≡ old.stops)
      which denied_at.LoadStop e = let same = leaves (steps-planned e s.made) tt in (same.spoiled, same.stops)
      which denied_at.LoadProcess e = let same = leaves (steps-planned e s.made) tt in (same.spoiled, same.stops)
      which (denied_at.Over answer) e = absurd (none-some s.step e)

module _ {layout : Layout} {old new : View} {f : Fork} {after : Job} (s : Stepped layout old new (jobs.Fork f) after) where
  pub fork-left : (new.spoiled ≡ old.spoiled) × (new.stops ≡ old.stops)
  fork-left = which f.at s.planned
    where
      which : (x : ForkAt) → forks.plan_at f.thread f.process x ≡ Some s.step → (new.spoiled ≡ old.spoiled) × (new.stops ≡ old.stops)
      which fork_at.LoadStop e = let same = leaves (steps-planned e s.made) tt in (same.spoiled, same.stops)
      which fork_at.LoadProcess e = let same = leaves (steps-planned e s.made) tt in (same.spoiled, same.stops)
      which fork_at.LoadPolicy e = let same = leaves (steps-planned e s.made) tt in (same.spoiled, same.stops)
      which (fork_at.SetPolicy policy target before) e = let own = steps-planned e s.made in (ap (λ (v : View). v.spoiled) own.told.next, ap (λ (v : View). v.stops) own.told.next)
      which (fork_at.Over answer) e = absurd (none-some s.step e)

module _ {layout : Layout} {old new : View} {p : Spoil} {after : Job} (s : Stepped layout old new (jobs.Spoil p) after) where
  pub spoil-left : new.stops ≡ old.stops
  spoil-left = which p.at s.planned
    where
      which : (x : SpoilAt) → spoils.plan_at p.frame p.line p.damage x ≡ Some s.step → new.stops ≡ old.stops
      which spoil_at.LoadStop e = (leaves (steps-planned e s.made) tt).stops
      which spoil_at.Spoil e = ap (λ (v : View). v.stops) (steps-planned e s.made).told.next
      which (spoil_at.Over answer) e = absurd (none-some s.step e)

-- ---- the others

pub evict-left : {layout : Layout} {old new : View} {e : _} {after : Job} → Stepped layout old new (jobs.Evict e) after → IsLeft (jobs.Evict e) after old new
evict-left {e = e} s = by-quiet s (evict e.at)

pub log-left : {layout : Layout} {old new : View} {l : _} {after : Job} → Stepped layout old new (jobs.Log l) after → IsLeft (jobs.Log l) after old new
log-left {l = l} s = by-quiet s (read l.read.at)

pub soft-left : {layout : Layout} {old new : View} {o : _} {after : Job} → Stepped layout old new (jobs.Soft o) after → IsLeft (jobs.Soft o) after old new
soft-left {o = o} s = let left = soft-leaves o s.planned s.made in record { rest = left.rest; stops = inl left.stops }

pub unpoison-left : {layout : Layout} {old new : View} {u : _} {after : Job} → Stepped layout old new (jobs.Unpoison u) after → IsLeft (jobs.Unpoison u) after old new
unpoison-left {u = u} s = let left = unpoison-leaves u s.planned s.made in record { rest = left.rest; stops = inl left.stops }
