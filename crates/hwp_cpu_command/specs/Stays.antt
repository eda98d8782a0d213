-- What stays true from one command of a processor to the next: the stop of the machine, and damage.
use Rattle.std.specs.Prelude.{◌≡◌, ◌⊎◌, ℕ, true, List, [], ◌∷◌, ◌++◌, Option, Some, None}
use Rattle.hwp_cpu_control.specs.hwp_geom.declared.Frame.{Frame}
use Rattle.hwp_cpu_control.specs.hwp_geom.declared.Layout.{Layout}
use Rattle.hwp_cpu_control.specs.hwp_geom.declared.Who.{Who}
use Rattle.hwp_cpu_control.specs.hwp_page.History.{BodyValue}
use Rattle.hwp_cpu_control.specs.hwp_words.Stops.{is_stopped}
use Rattle.hwp_cpu_control.specs.hwp_core_rule.declared.Made.{Made}
use Rattle.hwp_cpu_control.specs.hwp_core_rule.declared.SharedWord.TheVariants as places
use Rattle.hwp_cpu_control.specs.hwp_core_rule.declared.Sight.{Sight}
use Rattle.hwp_cpu_control.specs.hwp_core_rule.declared.Spoiled.{Spoiled}
use Rattle.hwp_cpu_control.specs.hwp_core_rule.declared.Step.{Step}
use Rattle.hwp_cpu_control.specs.hwp_core_rule.declared.View.{View}
use Rattle.hwp_cpu_control.specs.hwp_core_rule.Lists.{SomeMember}
use Rattle.hwp_cpu_control.specs.hwp_core_rule.declared.Turn.{Turn}
use Rattle.hwp_cpu_control.specs.hwp_core_rule.Calls.{Steps, logs}
use Rattle.hwp_cpu_row.specs.hwp_report_text.declared.Answer.TheVariants as answers
use Rattle.hwp_cpu_control.specs.declared.NestedAnswer.TheVariants as nested_answers
use Rattle.hwp_cpu_control.specs.declared.SpoilAnswer.TheVariants as spoil_answers
use Rattle.hwp_cpu_control.specs.declared.denied.DeniedAt.TheVariants as denied_at
use Rattle.hwp_cpu_control.specs.declared.nested.NestedAt.TheVariants as nested_at
use Rattle.hwp_cpu_control.specs.declared.prctl.PrctlAt.TheVariants as prctl_at
use Rattle.hwp_cpu_control.specs.declared.fork.ForkAt.TheVariants as fork_at
use Rattle.hwp_cpu_control.specs.declared.read_stop.ReadStopAt.TheVariants as read_stop_at
use Rattle.hwp_cpu_control.specs.declared.spoil.SpoilAt.TheVariants as spoil_at
use Rattle.hwp_evict.specs.declared.evict.EvictAt.TheVariants as evict_at
use Rattle.hwp_evict.specs.declared.fsync.FsyncAt.TheVariants as fsync_at
use Rattle.hwp_cpu_access.specs.hwp_fault.declared.Access.{Access}
use Rattle.hwp_cpu_access.specs.hwp_fault.declared.access.AccessAt.TheVariants as access_at
use Rattle.hwp_cpu_row.specs.hwp_claim_frame.declared.claim.Claim.{Claim}
use Rattle.hwp_cpu_row.specs.hwp_claim_frame.declared.claim.ClaimAt.TheVariants as claim_at
use Rattle.hwp_cpu_row.specs.hwp_claim.declared.fail.Fail.{Fail}
use Rattle.hwp_cpu_row.specs.hwp_claim.declared.fail.FailAt.TheVariants as fail_at
use Rattle.hwp_cpu_row.specs.hwp_claim.declared.FailAnswer.TheVariants as fail_answers
use Rattle.hwp_cpu_row.specs.hwp_claim.declared.inject.InjectAt.TheVariants as inject_at
use Rattle.hwp_cpu_row.specs.hwp_claim.declared.Handler.{Handler}
use Rattle.hwp_cpu_row.specs.hwp_claim.declared.handler.HandlerAt.TheVariants as handler_at
use Rattle.hwp_cpu_row.specs.hwp_claim.Told.{halts}
use Rattle.hwp_cpu_access.specs.declared.InstructionAnswer.TheVariants as instruction_answers
use Rattle.hwp_cpu_access.specs.declared.instruction.InstructionAt.TheVariants as instruction_at
use Rattle.hwp_cpu_access.specs.Instructions as instructions
use Rattle.hwp_cpu_access.specs.declared.Instruction.{Instruction}
use Rattle.hwp_cpu_access.specs.declared.copying.CopyingAt.TheVariants as copying_at
use Rattle.hwp_cpu_access.specs.CopyFits.{begun}
use Rattle.hwp_scrub.specs.declared.RaiseAnswer.TheVariants as raise_answers
use Rattle.hwp_scrub.specs.declared.raise.RaiseAt.TheVariants as raise_at
use Rattle.hwp_scrub.specs.Raises as raises
use Rattle.hwp_scrub.specs.declared.ScrubAnswer.TheVariants as scrub_answers
use Rattle.hwp_scrub.specs.declared.scrub.ScrubAt.TheVariants as scrub_at
use Rattle.hwp_scrub.specs.Scrubs as scrubs
use Rattle.hwp_soft.specs.declared.soft.SoftAt.TheVariants as soft_at
use Rattle.hwp_soft.specs.declared.unpoison.UnpoisonAt.TheVariants as unpoison_at
use Rattle.hwp_cpu_command.specs.declared.job.Job.{Job}
use Rattle.hwp_cpu_command.specs.declared.job.Job.TheVariants as jobs
use Rattle.hwp_cpu_command.specs.Jobs.{FitsFrom, Next, answer, bare, plan, put, told_of, who}

-- the command, which had made some entries before its task began or went on, made the step that came, and what follows is told
pub record Stepped (layout : Layout) (old new : View) (j after : Job) : Type 0 where
  pub step : Step
  pub found : ℕ
  pub got : Option BodyValue
  pub turn : Turn
  pub base : List Made
  pub fits : FitsFrom base layout old j
  pub planned : plan j ≡ Some step
  pub made : Steps layout (who j) step (logs (put j)) old new found got
  pub follows : Next layout (bare j) found got after turn

-- ---- the stop

-- a step showed that a processor had stopped the machine, or a command of this one stopped it
abbrev pub IsHalted : View → Type 0
IsHalted view = SomeMember (λ (s : Sight). (s.place ≡ places.Stop) × (is_stopped s.word ≡ true)) view.sights ⊎ SomeMember (λ (w : Who). Unit {0}) view.stops

-- of an access, whether it goes on alone or copies for a store: it has yet to look whether the machine has stopped, and has told nothing
abbrev pub IsInstructionAtStop : Instruction → Type 0
IsInstructionAtStop i = (a : Access) × (i.at ≡ instruction_at.Access a) × (a.at ≡ access_at.LoadStop) × (i.lines.told ≡ [])

-- its step is to stop the machine, for an event of its machine check
abbrev pub IsInstructionStopping : Instruction → Type 0
IsInstructionStopping i = (frame : Frame) × (h : Handler) × (i.at ≡ instruction_at.Handle frame h) × (h.at ≡ handler_at.Stop)

-- it found the machine stopped by that step, or stopped it
abbrev pub HasInstructionStopped : Instruction → Type 0
HasInstructionStopped i = (instructions.answer i ≡ Some instruction_answers.Stopped) × (halts i.lines.told ≡ true)

-- its next step gives it up, or it has given up
abbrev pub HasInstructionGivenUp : Instruction → Type 0
HasInstructionGivenUp i = (i.at ≡ instruction_at.GiveUp) ⊎ (i.at ≡ instruction_at.Over None)

-- the command has yet to look whether the machine has stopped, and has told nothing
abbrev pub IsAtStop : Job → Type 0
IsAtStop (jobs.Instruction i) = IsInstructionAtStop i
IsAtStop (jobs.Copying c) = (c.at ≡ copying_at.Access) × (c.cow ≡ begun c.cow) × IsInstructionAtStop c.instruction
IsAtStop (jobs.Evict e) = e.at ≡ evict_at.LoadStop
IsAtStop (jobs.Fsync f) = f.at ≡ fsync_at.LoadStop
IsAtStop (jobs.Prctl p) = p.at ≡ prctl_at.LoadStop
IsAtStop (jobs.Fork f) = f.at ≡ fork_at.LoadStop
IsAtStop (jobs.Log l) = l.read.at ≡ read_stop_at.LoadStop
IsAtStop (jobs.Raise r) = (r.at ≡ raise_at.LoadStop) × (r.lines.told ≡ [])
IsAtStop (jobs.Scrub s) = (s.at ≡ scrub_at.LoadStop) × (s.lines.told ≡ [])
IsAtStop (jobs.Spoil s) = s.at ≡ spoil_at.LoadStop
IsAtStop (jobs.Nested n) = n.at ≡ nested_at.LoadStop
IsAtStop (jobs.Inject i) = i.at ≡ inject_at.LoadStop
IsAtStop (jobs.Soft s) = s.at ≡ soft_at.LoadStop
IsAtStop (jobs.Unpoison u) = u.at ≡ unpoison_at.LoadStop
IsAtStop (jobs.Denied d) = d.at ≡ denied_at.LoadStop

-- on a machine that has stopped the command has no other answer: it has yet to look, or is answered `stopped`
abbrev pub EndsStopped : Job → Type 0
EndsStopped j = IsAtStop j ⊎ (answer j ≡ Some answers.Stopped)

-- and it has told of no event
abbrev pub EndsAtOnce : Job → Type 0
EndsAtOnce j = EndsStopped j × (told_of j ≡ [])

-- the step of the command is to stop the machine: for an event of its machine check, as a machine check inside a machine check, or
-- for a failure on a machine that doesn't recover
abbrev pub IsStopping : Job → Type 0
IsStopping (jobs.Instruction i) = IsInstructionStopping i
IsStopping (jobs.Copying c) = (c.at ≡ copying_at.Access) × IsInstructionStopping c.instruction
IsStopping (jobs.Raise r) = (h : Handler) × (r.at ≡ raise_at.Handle h) × (h.at ≡ handler_at.Stop)
IsStopping (jobs.Scrub s) = (frame : Frame) × (h : Handler) × (s.at ≡ scrub_at.Handle frame h) × (h.at ≡ handler_at.Stop)
IsStopping (jobs.Nested n) = n.at ≡ nested_at.Stop
IsStopping (jobs.Inject i) = (f : Fail) × (c : Claim) × (i.at ≡ inject_at.Fail f) × (f.at ≡ fail_at.Claim c) × (c.at ≡ claim_at.Stop)
IsStopping _ = ⊥

-- the command that could stop the machine found it stopped by that step, or stopped it
abbrev pub HasStopped : Job → Type 0
HasStopped (jobs.Instruction i) = HasInstructionStopped i
HasStopped (jobs.Copying c) = (c.at ≡ copying_at.Access) × HasInstructionStopped c.instruction
HasStopped (jobs.Raise r) = (raises.answer r ≡ Some raise_answers.Stopped) × (halts r.lines.told ≡ true)
HasStopped (jobs.Scrub s) = (scrubs.answer s ≡ Some scrub_answers.Stopped) × (halts s.lines.told ≡ true)
HasStopped (jobs.Nested n) = n.at ≡ nested_at.Over (Some nested_answers.Shutdown)
HasStopped (jobs.Inject i) = (f : Fail) × (i.at ≡ inject_at.Fail f) × (f.at ≡ fail_at.Over fail_answers.Stopped)
HasStopped _ = ⊥

-- the command stopped the machine with this step
pub record StopsItself (j after : Job) (old new : View) : Type 0 where
  pub stopping : IsStopping j
  pub has : HasStopped after
  pub stops_are : new.stops ≡ old.stops ++ who j ∷ []

-- ---- memory that ran out beside the command

-- its next step gives it up, or it has given up
abbrev pub HasGivenUp : Job → Type 0
HasGivenUp (jobs.Instruction i) = HasInstructionGivenUp i
HasGivenUp (jobs.Copying c) = (c.at ≡ copying_at.Access) × HasInstructionGivenUp c.instruction
HasGivenUp (jobs.Raise r) = (r.at ≡ raise_at.GiveUp) ⊎ (r.at ≡ raise_at.Over None)
HasGivenUp (jobs.Scrub s) = (s.at ≡ scrub_at.GiveUp) ⊎ (s.at ≡ scrub_at.Over None)
HasGivenUp _ = ⊥

-- ---- damage

-- the command made this damage to a line
abbrev pub HasSpoiled : Job → Spoiled → Type 0
HasSpoiled (jobs.Spoil s) spoiled = (s.at ≡ spoil_at.Over spoil_answers.Done) × (s.who ≡ spoiled.stamp.who) × (s.frame ≡ spoiled.frame) × (s.line ≡ spoiled.line) × (s.damage ≡ spoiled.damage)
HasSpoiled _ spoiled = ⊥
