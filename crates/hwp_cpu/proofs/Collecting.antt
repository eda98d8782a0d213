-- The commands behind whose answer frames may be due: a machine check that was raised, and a scrub.
use Rattle.hwp_cpu.proofs.causes.OnTheWay.{prior-begins}
use Rattle.hwp_cpu.specs.Beside.{ArePriorWith, CanCollect}
use Rattle.hwp_cpu.specs.Serving.{left_so_far}
use Rattle.hwp_cpu_row.specs.hwp_core_rule.declared.Made.{Made}
use Rattle.hwp_cpu_command.proofs.OfKind.{of-copying, of-fork, of-instruction, of-evict, of-soft, of-inject, of-scrub, of-prctl, of-nested, of-fsync, of-unpoison, of-raise, of-spoil, of-log}
use Rattle.std.proofs.Common.{Bool, sym, true≢false, Some, refl, None, List, ℕ, inr, false, Option, slice_get, ◌⊎◌, ap, ◌≡◌, true, inl, ◌∙◌, []}
use Rattle.hwp_cpu_command.specs.declared.job.Job.{Job}
use Rattle.hwp_law_served.specs.Causes.{IsAnswerCaused, FoundStopped}
use Rattle.hwp_cpu_row.specs.hwp_report_text.declared.Answer.{Answer}
use Rattle.hwp_cpu_command.specs.FileHandles.{handles_after}
use Rattle.hwp_cpu_command.specs.hwp_words.Stops.{is_stopped}
use Rattle.hwp_law_served.specs.Offlinings.{left_among, left_itself}
use Rattle.hwp_cpu_command.specs.Done.{can_fail}
use Rattle.hwp_cpu_row.specs.declared.FrameChange.{FrameChange}
use Rattle.hwp_cpu_row.specs.hwp_geom.declared.FileNo.{FileNo}
use Rattle.hwp_cpu_command.specs.Jobs.{denial_of, told_of}
use Rattle.hwp_cpu_row.specs.hwp_script_words.declared.Command.{Command}
use Rattle.hwp_cpu_command.specs.Runs.{Runs, RunsAs, RunsDenied}
use Rattle.hwp_cpu.proofs.causes.HandleNumbers.{IsNumbered}
use Rattle.hwp_cpu_command.specs.Stays.{IsHalted}
use Rattle.hwp_cpu_row.specs.hwp_geom.declared.Layout.{Layout}
use Rattle.hwp_cpu_row.specs.hwp_geom.declared.VSlot.{VSlot}
use Rattle.hwp_cpu_command.specs.hwp_cpu_access.declared.Copying.{Copying}
use Rattle.hwp_cpu_command.specs.hwp_cpu_access.declared.Instruction.{Instruction}
use Rattle.hwp_cpu_row.specs.hwp_claim.declared.EventOutcome.{EventOutcome}
use Rattle.std.proofs.lemmas.Bool.{both_ways}
use Rattle.hwp_cpu_row.specs.hwp_geom.declared.Who.{Who}
use Rattle.hwp_cpu_row.specs.hwp_core_rule.declared.View.{View}
use Rattle.hwp_cpu_row.specs.hwp_script_words.declared.Command.TheVariants as commands
use Rattle.hwp_cpu_command.specs.declared.job.Job.TheVariants as kinds
use Rattle.hwp_cpu_row.specs.hwp_report_text.declared.Answer.TheVariants as answers
use Rattle.hwp_cpu.proofs.causes.DeniedCauses.{access-by, runs-kind}
use Rattle.hwp_cpu_row.specs.hwp_law.Commands.{Access, access_of}
use Rattle.std.proofs.lemmas.Option.{none-some}
use Rattle.hwp_cpu.proofs.commands.CommandRuns.{runs-admitted}

abbrev is_copying : Job → Bool
is_copying (kinds.Copying y) = true
is_copying _ = false

abbrev pub IsAccess : Job → Type 0
IsAccess j = ((i : Instruction) × (j ≡ kinds.Instruction i)) ⊎ ((y : Copying) × (j ≡ kinds.Copying y))

-- a command is such a one, or an access or a copy, or tells of no event
plain-kind : (layout : Layout) (who : Who) (command : Command) (j : Job) → RunsAs layout who command None j → CanCollect command ⊎ (IsAccess j ⊎ (told_of j ≡ []))
plain-kind layout who (commands.Load thread slot line) j runs = inr (inl (inl (let task = of-instruction j runs.job_is in (task.0, task.1))))
plain-kind layout who (commands.Fetch thread slot line) j runs = inr (inl (inl (let task = of-instruction j runs.job_is in (task.0, task.1))))
plain-kind layout who (commands.KLoad thread slot line) j runs = inr (inl (inl (let task = of-instruction j runs.job_is in (task.0, task.1))))
plain-kind layout who (commands.Store thread slot line word) j runs = inr (inl (inl (let task = of-instruction j runs.job_is in (task.0, task.1))))
plain-kind layout who (commands.RaiseUser thread ripv eipv) j runs = inl tt
plain-kind layout who (commands.RaiseKernel ripv eipv) j runs = inl tt
plain-kind layout who (commands.Scrub first last) j runs = inl tt
plain-kind layout who (commands.Free slot) j runs = inr (inr (ap told_of (of-evict j runs.1.job_is).1))
plain-kind layout who (commands.Drop page) j runs = inr (inr (ap told_of (of-evict j runs.job_is).1))
plain-kind layout who (commands.Sync page) j runs = inr (inr (ap told_of (of-evict j runs.job_is).1))
plain-kind layout who (commands.Out page) j runs = inr (inr (ap told_of (of-evict j runs.job_is).1))
plain-kind layout who (commands.Fsync file) j runs = inr (inr (ap told_of (of-fsync j runs.2).1))
plain-kind layout who (commands.Open file) j runs = inr (inr (ap told_of (of-fsync j runs.2).1))
plain-kind layout who (commands.Prctl thread args) j runs = inr (inr (ap told_of (of-prctl j runs.job_is).1))
plain-kind layout who (commands.Fork thread child) j runs = inr (inr (ap told_of (of-fork j runs.job_is).1))
plain-kind layout who (commands.Bad frame line) j runs = inr (inr (ap told_of (of-spoil j runs.job_is).1))
plain-kind layout who (commands.Weak frame line) j runs = inr (inr (ap told_of (of-spoil j runs.job_is).1))
plain-kind layout who (commands.Log status addr misc) j runs = inr (inr (ap told_of (of-log j runs.job_is).1))
plain-kind layout who (commands.Watch threshold window) j runs = inr (inr (ap told_of (of-log j runs.job_is).1))
plain-kind layout who commands.RaiseNested j runs = inr (inr (ap told_of (of-nested j runs).1))
plain-kind layout who (commands.Inject frame) j runs = inr (inr (ap told_of (of-inject j runs.job_is).1))
plain-kind layout who (commands.Soft frame) j runs = inr (inr (ap told_of (of-soft j runs.job_is).1))
plain-kind layout who (commands.Unpoison frame) j runs = inr (inr (ap told_of (of-unpoison j runs.job_is).1))

pub copy-kind : (layout : Layout) (who : Who) (command : Command) (from : VSlot) (j : Job) → RunsAs layout who command (Some from) j → (y : Copying) × (j ≡ kinds.Copying y)
copy-kind layout who (commands.Store thread slot line word) from j runs = let task = of-copying j runs.job_is in (task.0, task.1)
copy-kind layout who command from j runs = absurd runs

pub tells-kind : (layout : Layout) (who : Who) (command : Command) (copies : Option VSlot) (j : Job) → Runs layout who command copies j → CanCollect command ⊎ (IsAccess j ⊎ (told_of j ≡ []))
tells-kind layout who command copies j (inl denied) = inr (inr (ap told_of (runs-kind j denied).1))
tells-kind layout who command None j (inr runs) = plain-kind layout who command j runs
tells-kind layout who command (Some from) j (inr runs) = inr (inl (inr (copy-kind layout who command from j runs)))

-- it takes no frame out of use itself
pub copy-leaves-none : (layout : Layout) (who : Who) (command : Command) (from : VSlot) (j : Job) (a : Answer) → RunsAs layout who command (Some from) j → left_itself command a ≡ None
copy-leaves-none layout who (commands.Store thread slot line word) from j a runs = refl
copy-leaves-none layout who command from j a runs = absurd runs

-- where a command copies nothing its task is no copy, and what left frames beside it stands before its own entries
of-kind : (base : List Made) (view : View) {j k : Job} → j ≡ k → left_so_far base view k ≡ left_among base → left_so_far base view j ≡ left_among base
of-kind base view is left = ap (left_so_far base view) is ∙ left

pub left-plain : (layout : Layout) (who : Who) (command : Command) (j : Job) → RunsAs layout who command None j → (base : List Made) (view : View) → left_so_far base view j ≡ left_among base
left-plain layout who (commands.Load thread slot line) j runs base view = of-kind base view (of-instruction j runs.job_is).1 refl
left-plain layout who (commands.Fetch thread slot line) j runs base view = of-kind base view (of-instruction j runs.job_is).1 refl
left-plain layout who (commands.KLoad thread slot line) j runs base view = of-kind base view (of-instruction j runs.job_is).1 refl
left-plain layout who (commands.Store thread slot line word) j runs base view = of-kind base view (of-instruction j runs.job_is).1 refl
left-plain layout who (commands.Free slot) j runs base view = of-kind base view (of-evict j runs.1.job_is).1 refl
left-plain layout who (commands.Drop page) j runs base view = of-kind base view (of-evict j runs.job_is).1 refl
left-plain layout who (commands.Sync page) j runs base view = of-kind base view (of-evict j runs.job_is).1 refl
left-plain layout who (commands.Out page) j runs base view = of-kind base view (of-evict j runs.job_is).1 refl
left-plain layout who (commands.Fsync file) j runs base view = of-kind base view (of-fsync j runs.2).1 refl
left-plain layout who (commands.Open file) j runs base view = of-kind base view (of-fsync j runs.2).1 refl
left-plain layout who (commands.Prctl thread args) j runs base view = of-kind base view (of-prctl j runs.job_is).1 refl
left-plain layout who (commands.Fork thread child) j runs base view = of-kind base view (of-fork j runs.job_is).1 refl
left-plain layout who (commands.Bad frame line) j runs base view = of-kind base view (of-spoil j runs.job_is).1 refl
left-plain layout who (commands.Weak frame line) j runs base view = of-kind base view (of-spoil j runs.job_is).1 refl
left-plain layout who (commands.Scrub first last) j runs base view = of-kind base view (of-scrub j runs.job_is).1 refl
left-plain layout who (commands.Log status addr misc) j runs base view = of-kind base view (of-log j runs.job_is).1 refl
left-plain layout who (commands.Watch threshold window) j runs base view = of-kind base view (of-log j runs.job_is).1 refl
left-plain layout who (commands.RaiseUser thread ripv eipv) j runs base view = of-kind base view (of-raise j runs.job_is).1 refl
left-plain layout who (commands.RaiseKernel ripv eipv) j runs base view = of-kind base view (of-raise j runs.job_is).1 refl
left-plain layout who commands.RaiseNested j runs base view = of-kind base view (of-nested j runs).1 refl
left-plain layout who (commands.Inject frame) j runs base view = of-kind base view (of-inject j runs.job_is).1 refl
left-plain layout who (commands.Soft frame) j runs base view = of-kind base view (of-soft j runs.job_is).1 refl
left-plain layout who (commands.Unpoison frame) j runs base view = of-kind base view (of-unpoison j runs.job_is).1 refl

-- nor of an access that its guest doesn't admit
pub left-denied : (layout : Layout) (who : Who) (command : Command) (copies : Option VSlot) (j : Job) → RunsDenied layout who command copies j → (base : List Made) (view : View) → left_so_far base view j ≡ left_among base
left-denied layout who command copies j denied base view = of-kind base view (runs-kind j denied).1 refl

-- an access copies nothing, where a copy is a task of its own
pub access-plain : (layout : Layout) (who : Who) (command : Command) (copies : Option VSlot) (j : Job) → Runs layout who command copies j → (i : Instruction) → j ≡ kinds.Instruction i → copies ≡ None
access-plain layout who command copies j (inl denied) i is = absurd (none-some _ (sym (ap denial_of is) ∙ ap denial_of (runs-kind j denied).1))
access-plain layout who command None j (inr runs) i is = refl
access-plain layout who command (Some from) j (inr runs) i is = absurd (true≢false (sym (ap is_copying (copy-kind layout who command from j runs).1) ∙ ap is_copying is))

-- and a command that copies nothing is no copy
pub plain-copies : (layout : Layout) (who : Who) (command : Command) (j : Job) → Runs layout who command None j → (y : Copying) → j ≡ kinds.Copying y → ⊥
plain-copies layout who command j runs y is = which runs
  where
    no-kind : {k : Job} → j ≡ k → is_copying k ≡ false → ⊥
    no-kind other none = true≢false (sym (ap is_copying is) ∙ ap is_copying other ∙ none)

    by : (x : Command) → RunsAs layout who x None j → ⊥
    by (commands.Load thread slot line) r = no-kind (of-instruction j r.job_is).1 refl
    by (commands.Fetch thread slot line) r = no-kind (of-instruction j r.job_is).1 refl
    by (commands.KLoad thread slot line) r = no-kind (of-instruction j r.job_is).1 refl
    by (commands.Store thread slot line word) r = no-kind (of-instruction j r.job_is).1 refl
    by (commands.Free slot) r = no-kind (of-evict j r.1.job_is).1 refl
    by (commands.Drop page) r = no-kind (of-evict j r.job_is).1 refl
    by (commands.Sync page) r = no-kind (of-evict j r.job_is).1 refl
    by (commands.Out page) r = no-kind (of-evict j r.job_is).1 refl
    by (commands.Fsync file) r = no-kind (of-fsync j r.2).1 refl
    by (commands.Open file) r = no-kind (of-fsync j r.2).1 refl
    by (commands.Prctl thread args) r = no-kind (of-prctl j r.job_is).1 refl
    by (commands.Fork thread child) r = no-kind (of-fork j r.job_is).1 refl
    by (commands.Bad frame line) r = no-kind (of-spoil j r.job_is).1 refl
    by (commands.Weak frame line) r = no-kind (of-spoil j r.job_is).1 refl
    by (commands.Scrub first last) r = no-kind (of-scrub j r.job_is).1 refl
    by (commands.Log status addr misc) r = no-kind (of-log j r.job_is).1 refl
    by (commands.Watch threshold window) r = no-kind (of-log j r.job_is).1 refl
    by (commands.RaiseUser thread ripv eipv) r = no-kind (of-raise j r.job_is).1 refl
    by (commands.RaiseKernel ripv eipv) r = no-kind (of-raise j r.job_is).1 refl
    by commands.RaiseNested r = no-kind (of-nested j r).1 refl
    by (commands.Inject frame) r = no-kind (of-inject j r.job_is).1 refl
    by (commands.Soft frame) r = no-kind (of-soft j r.job_is).1 refl
    by (commands.Unpoison frame) r = no-kind (of-unpoison j r.job_is).1 refl

    which : Runs layout who command None j → ⊥
    which (inl denied) = no-kind (runs-kind j denied).1 refl
    which (inr r) = by command r

-- no access is such a one
no-collect : (command : Command) {at : Access} → access_of command ≡ Some at → CanCollect command → ⊥
no-collect command is = access-by (λ (c : Command). CanCollect c → ⊥) (λ thread slot line can. can) (λ thread slot line can. can) (λ thread slot line can. can) (λ thread slot line word can. can) command is

-- such a one copies nothing
pub collects-plain : (layout : Layout) (who : Who) (command : Command) (copies : Option VSlot) (j : Job) → Runs layout who command copies j → CanCollect command → copies ≡ None
collects-plain layout who command None j runs can = refl
collects-plain layout who (commands.Store thread slot line word) (Some from) j runs can = absurd can
collects-plain layout who command (Some from) j (inl denied) can = absurd (no-collect command denied.1.access can)
collects-plain layout who command (Some from) j (inr runs) can = absurd runs

-- its memory can fail
raise-fails : (layout : Layout) (who : Who) (command : Command) (j : Job) → RunsAs layout who command None j → CanCollect command → can_fail j ≡ true
raise-fails layout who (commands.RaiseUser thread ripv eipv) j runs can = ap can_fail (of-raise j runs.job_is).1
raise-fails layout who (commands.RaiseKernel ripv eipv) j runs can = ap can_fail (of-raise j runs.job_is).1
raise-fails layout who (commands.Scrub first last) j runs can = ap can_fail (of-scrub j runs.job_is).1
raise-fails layout who command j runs can = absurd can

pub collect-fails : (layout : Layout) (who : Who) (command : Command) (j : Job) → Runs layout who command None j → CanCollect command → can_fail j ≡ true
collect-fails layout who command j (inl denied) can = absurd (no-collect command denied.1.access can)
collect-fails layout who command j (inr runs) can = raise-fails layout who command j runs can

-- its guest isn't asked
pub collects-undenied : (layout : Layout) (who : Who) (command : Command) (j : Job) → Runs layout who command None j → CanCollect command → {due : Answer} → denial_of j ≡ Some due → ⊥
collects-undenied layout who command j (inl denied) can is = no-collect command denied.1.access can
collects-undenied layout who command j (inr runs) can {due} is = none-some due (sym (runs-admitted layout who command None j runs) ∙ is)

-- it takes no frame out of use itself
pub collect-left : (command : Command) (a : Answer) → CanCollect command → left_itself command a ≡ None
collect-left (commands.RaiseUser thread ripv eipv) a can = refl
collect-left (commands.RaiseKernel ripv eipv) a can = refl
collect-left (commands.Scrub first last) a can = refl
collect-left command a can = absurd can

-- each handle stays as it was
raise-numbers : (layout : Layout) (view : View) (who : Who) (command : Command) (j : Job) (a : Answer) (handles : List ℕ) (file : FileNo) (m : ℕ) → RunsAs layout who command None j → CanCollect command → slice_get handles file.0 ≡ Some m → IsNumbered layout view who command a file m (handles_after j handles)
raise-numbers layout view who (commands.RaiseUser thread ripv eipv) j a handles file m runs can there = record { has = ap (λ (x : Job). slice_get (handles_after x handles) file.0) (of-raise j runs.job_is).1 ∙ there; knows = λ told. absurd (both_ways false refl told) }
raise-numbers layout view who (commands.RaiseKernel ripv eipv) j a handles file m runs can there = record { has = ap (λ (x : Job). slice_get (handles_after x handles) file.0) (of-raise j runs.job_is).1 ∙ there; knows = λ told. absurd (both_ways false refl told) }
raise-numbers layout view who (commands.Scrub first last) j a handles file m runs can there = record { has = ap (λ (x : Job). slice_get (handles_after x handles) file.0) (of-scrub j runs.job_is).1 ∙ there; knows = λ told. absurd (both_ways false refl told) }
raise-numbers layout view who command j a handles file m runs can there = absurd can

pub collect-numbers : (layout : Layout) (view : View) (who : Who) (command : Command) (j : Job) (a : Answer) (handles : List ℕ) (file : FileNo) (m : ℕ) → Runs layout who command None j → CanCollect command → slice_get handles file.0 ≡ Some m → IsNumbered layout view who command a file m (handles_after j handles)
collect-numbers layout view who command j a handles file m (inl denied) can there = absurd (no-collect command denied.1.access can)
collect-numbers layout view who command j a handles file m (inr runs) can there = raise-numbers layout view who command j a handles file m runs can there

-- where it is answered `stopped`, the machine has stopped
halts : (layout : Layout) (view : View) (who : Who) (command : Command) → FoundStopped layout view who command → IsHalted view
halts layout view who command found = elim found.stopped [
  | inl saw ↦ inl (saw.saw.0, saw.saw.1, saw.saw.2, (saw.saw.3.1, ap is_stopped saw.saw.3.2 ∙ saw.stopped))
  | inr own ↦ inr (own.0, own.1, own.2, tt)
]

pub collect-halted : (layout : Layout) (earlier : List (Command × Answer)) (view : View) (who : Who) (command : Command) (told : List EventOutcome) (own : Option FrameChange) → CanCollect command → IsAnswerCaused layout earlier view who command told own answers.Stopped → IsHalted view
collect-halted layout earlier view who (commands.RaiseUser thread ripv eipv) told own can caused = halts layout view who (commands.RaiseUser thread ripv eipv) caused
collect-halted layout earlier view who (commands.RaiseKernel ripv eipv) told own can caused = halts layout view who (commands.RaiseKernel ripv eipv) caused
collect-halted layout earlier view who (commands.Scrub first last) told own can caused = halts layout view who (commands.Scrub first last) caused
collect-halted layout earlier view who command told own can caused = absurd can

-- no entry stands before its own task's
pub prior-at-first : (layout : Layout) (command : Command) (copies : Option VSlot) → ArePriorWith layout command copies []
prior-at-first layout command None = prior-begins layout command
prior-at-first layout command (Some from) = refl
