-- What is so of each kind of command.
use Rattle.std.proofs.Common.{◌≡◌, ℕ, true, sym, ap, ◌∙◌, subst, [], List, false, Option, None, Some, inl, inr}
use Rattle.hwp_cpu_row.specs.hwp_geom.declared.Damage.{Damage}
use Rattle.hwp_cpu_row.specs.hwp_geom.declared.Damage.TheVariants as damages
use Rattle.hwp_cpu_row.specs.hwp_geom.declared.Frame.{Frame}
use Rattle.hwp_cpu_row.specs.hwp_geom.declared.Layout.{Layout}
use Rattle.hwp_cpu_row.specs.hwp_geom.declared.VSlot.{VSlot}
use Rattle.hwp_cpu_row.specs.hwp_geom.declared.Who.{Who}
use Rattle.hwp_cpu_row.specs.hwp_script_words.declared.Command.{Command}
use Rattle.hwp_cpu_row.specs.hwp_script_words.declared.Command.TheVariants as commands
use Rattle.hwp_cpu_row.specs.hwp_core_rule.declared.Spoiled.{Spoiled}
use Rattle.hwp_cpu_row.specs.hwp_core_rule.declared.View.{View}
use Rattle.hwp_cpu_row.specs.hwp_core_rule.Calls.{IsOnTurn}
use Rattle.hwp_cpu_command.specs.hwp_cpu_control.declared.Spoil.{Spoil}
use Rattle.hwp_cpu_command.specs.hwp_cpu_control.Spoils as spoils
use Rattle.hwp_cpu_row.specs.hwp_claim.Told.{halts}
use Rattle.hwp_cpu_command.specs.hwp_cpu_access.declared.Instruction.{Instruction}
use Rattle.hwp_cpu_command.specs.hwp_cpu_access.declared.Copying.{Copying}
use Rattle.hwp_cpu_command.specs.hwp_scrub.declared.Raise.{Raise}
use Rattle.hwp_cpu_command.specs.hwp_scrub.declared.Scrub.{Scrub}
use Rattle.hwp_cpu_command.specs.declared.job.Job.{Job}
use Rattle.hwp_cpu_command.specs.declared.job.Job.TheVariants as kinds
use Rattle.hwp_cpu_command.specs.Jobs as jobs
use Rattle.hwp_cpu_command.specs.Runs.{Runs, RunsAs, anew}
use Rattle.hwp_cpu_command.specs.Stays as stays
use Rattle.hwp_cpu_command.proofs.OfKind.{of-copying, of-evict, of-fork, of-fsync, of-inject, of-instruction, of-log, of-nested, of-prctl, of-raise, of-scrub, of-soft, of-spoil, of-unpoison}
use Rattle.hwp_cpu.proofs.commands.CommandStops.{unrecovered}
use Rattle.hwp_law_served.specs.Served.{CanStop, spoiling}
use Rattle.hwp_cpu_command.specs.Done.{can_fail}
use Rattle.hwp_cpu.specs.Beside.{ArePrior, ArePriorWith}
use Rattle.hwp_cpu_row.specs.hwp_core_rule.declared.Made.{Made}
use Rattle.std.proofs.lemmas.Bool.{both_ways}
use Rattle.hwp_cpu.proofs.causes.DeniedCauses.{runs-kind}

-- a command that fits is that of the turn
pub on-turn : (base : List Made) (layout : Layout) (view : View) (j : Job) → jobs.FitsFrom base layout view j → IsOnTurn view (jobs.who j)
on-turn base layout view (kinds.Instruction i) fits = fits.on_turn
on-turn base layout view (kinds.Copying y) fits = fits.on_turn
on-turn base layout view (kinds.Evict e) fits = fits.on_turn
on-turn base layout view (kinds.Fsync f) fits = fits.1.on_turn
on-turn base layout view (kinds.Prctl p) fits = fits.1.on_turn
on-turn base layout view (kinds.Denied p) fits = fits.1.on_turn
on-turn base layout view (kinds.Fork g) fits = fits.1.on_turn
on-turn base layout view (kinds.Log l) fits = fits.1.read.on_turn
on-turn base layout view (kinds.Raise r) fits = fits.1.on_turn
on-turn base layout view (kinds.Scrub s) fits = fits.1.on_turn
on-turn base layout view (kinds.Spoil s) fits = fits.1.on_turn
on-turn base layout view (kinds.Nested n) fits = fits.1.on_turn
on-turn base layout view (kinds.Inject i) fits = fits.1.on_turn
on-turn base layout view (kinds.Soft s) fits = fits.on_turn
on-turn base layout view (kinds.Unpoison u) fits = fits.1.on_turn

-- ---- a command of which memory can't fail

-- had made no entry before its own task
plain-none : (layout : Layout) (who : Who) (command : Command) (j : Job) (base : List Made) → RunsAs layout who command None j → ArePrior layout command base → can_fail j ≡ false → base ≡ []
plain-none layout who (commands.Load thread slot line) j base runs prior cannot = absurd (both_ways (can_fail j) cannot (ap can_fail (of-instruction j runs.job_is).1))
plain-none layout who (commands.Fetch thread slot line) j base runs prior cannot = absurd (both_ways (can_fail j) cannot (ap can_fail (of-instruction j runs.job_is).1))
plain-none layout who (commands.KLoad thread slot line) j base runs prior cannot = absurd (both_ways (can_fail j) cannot (ap can_fail (of-instruction j runs.job_is).1))
plain-none layout who (commands.Store thread slot line word) j base runs prior cannot = absurd (both_ways (can_fail j) cannot (ap can_fail (of-instruction j runs.job_is).1))
plain-none layout who (commands.Free slot) j base runs prior cannot = prior
plain-none layout who (commands.Drop page) j base runs prior cannot = prior
plain-none layout who (commands.Sync page) j base runs prior cannot = prior
plain-none layout who (commands.Out page) j base runs prior cannot = prior
plain-none layout who (commands.Fsync file) j base runs prior cannot = prior
plain-none layout who (commands.Open file) j base runs prior cannot = prior
plain-none layout who (commands.Prctl thread args) j base runs prior cannot = prior
plain-none layout who (commands.Fork thread child) j base runs prior cannot = prior
plain-none layout who (commands.Bad frame line) j base runs prior cannot = prior
plain-none layout who (commands.Weak frame line) j base runs prior cannot = prior
plain-none layout who (commands.Scrub first last) j base runs prior cannot = prior
plain-none layout who (commands.Log status addr misc) j base runs prior cannot = prior
plain-none layout who (commands.Watch threshold window) j base runs prior cannot = prior
plain-none layout who (commands.RaiseUser thread ripv eipv) j base runs prior cannot = prior
plain-none layout who (commands.RaiseKernel ripv eipv) j base runs prior cannot = prior
plain-none layout who (commands.Inject frame) j base runs prior cannot = prior
plain-none layout who (commands.Soft frame) j base runs prior cannot = prior
plain-none layout who (commands.Unpoison frame) j base runs prior cannot = prior
plain-none layout who commands.RaiseNested j base runs prior cannot = prior

pub prior-none : (layout : Layout) (view : View) (who : Who) (command : Command) (copies : Option VSlot) (j : Job) (base : List Made) → Runs layout who command copies j → jobs.FitsFrom base layout view j → ArePriorWith layout command copies base → can_fail j ≡ false → base ≡ []
prior-none layout view who command copies j base (inl denied) fits prior cannot = (subst (jobs.FitsFrom base layout view) (runs-kind j denied).1 fits).0
prior-none layout view who command None j base (inr runs) fits prior cannot = plain-none layout who command j base runs prior cannot
prior-none layout view who command (Some from) j base (inr runs) fits prior cannot = prior

-- ---- a command that stops the machine

-- by an event of its machine checks
module _ (j : Job) (has : stays.HasStopped j) where
  instruction-halts : {x : Instruction} → anew j ≡ kinds.Instruction x → halts (jobs.told_of j) ≡ true
  instruction-halts is = let task = of-instruction j is in ap (λ (k : Job). halts (jobs.told_of k)) task.1 ∙ (subst stays.HasStopped task.1 has).1

  copying-halts : {x : Copying} → anew j ≡ kinds.Copying x → halts (jobs.told_of j) ≡ true
  copying-halts is = let task = of-copying j is in ap (λ (k : Job). halts (jobs.told_of k)) task.1 ∙ (subst stays.HasStopped task.1 has).1.1

  raise-halts : {x : Raise} → anew j ≡ kinds.Raise x → halts (jobs.told_of j) ≡ true
  raise-halts is = let task = of-raise j is in ap (λ (k : Job). halts (jobs.told_of k)) task.1 ∙ (subst stays.HasStopped task.1 has).1

  scrub-halts : {x : Scrub} → anew j ≡ kinds.Scrub x → halts (jobs.told_of j) ≡ true
  scrub-halts is = let task = of-scrub j is in ap (λ (k : Job). halts (jobs.told_of k)) task.1 ∙ (subst stays.HasStopped task.1 has).1

-- is one that can
plain-stop : (base : List Made) (layout : Layout) (view : View) (who : Who) (command : Command) (j : Job) → RunsAs layout who command None j → jobs.FitsFrom base layout view j → stays.HasStopped j → CanStop layout command (jobs.told_of j)
plain-stop base layout view who (commands.Load thread slot line) j runs fits has = instruction-halts j has runs.job_is
plain-stop base layout view who (commands.Fetch thread slot line) j runs fits has = instruction-halts j has runs.job_is
plain-stop base layout view who (commands.KLoad thread slot line) j runs fits has = instruction-halts j has runs.job_is
plain-stop base layout view who (commands.Store thread slot line word) j runs fits has = instruction-halts j has runs.job_is
plain-stop base layout view who (commands.RaiseUser thread ripv eipv) j runs fits has = raise-halts j has runs.job_is
plain-stop base layout view who (commands.RaiseKernel ripv eipv) j runs fits has = raise-halts j has runs.job_is
plain-stop base layout view who (commands.Scrub first last) j runs fits has = scrub-halts j has runs.job_is
plain-stop base layout view who commands.RaiseNested j runs fits has = tt
plain-stop base layout view who (commands.Inject frame) j runs fits has = let task = of-inject j runs.job_is in unrecovered layout view task.0 (subst (jobs.FitsFrom base layout view) task.1 fits).1 (subst stays.HasStopped task.1 has)
plain-stop base layout view who (commands.Free slot) j runs fits has = absurd (subst stays.HasStopped (of-evict j runs.1.job_is).1 has)
plain-stop base layout view who (commands.Drop page) j runs fits has = absurd (subst stays.HasStopped (of-evict j runs.job_is).1 has)
plain-stop base layout view who (commands.Sync page) j runs fits has = absurd (subst stays.HasStopped (of-evict j runs.job_is).1 has)
plain-stop base layout view who (commands.Out page) j runs fits has = absurd (subst stays.HasStopped (of-evict j runs.job_is).1 has)
plain-stop base layout view who (commands.Fsync file) j runs fits has = absurd (subst stays.HasStopped (of-fsync j runs.2).1 has)
plain-stop base layout view who (commands.Open file) j runs fits has = absurd (subst stays.HasStopped (of-fsync j runs.2).1 has)
plain-stop base layout view who (commands.Prctl thread args) j runs fits has = absurd (subst stays.HasStopped (of-prctl j runs.job_is).1 has)
plain-stop base layout view who (commands.Fork thread child) j runs fits has = absurd (subst stays.HasStopped (of-fork j runs.job_is).1 has)
plain-stop base layout view who (commands.Log status addr misc) j runs fits has = absurd (subst stays.HasStopped (of-log j runs.job_is).1 has)
plain-stop base layout view who (commands.Watch threshold window) j runs fits has = absurd (subst stays.HasStopped (of-log j runs.job_is).1 has)
plain-stop base layout view who (commands.Bad frame line) j runs fits has = absurd (subst stays.HasStopped (of-spoil j runs.job_is).1 has)
plain-stop base layout view who (commands.Weak frame line) j runs fits has = absurd (subst stays.HasStopped (of-spoil j runs.job_is).1 has)
plain-stop base layout view who (commands.Soft frame) j runs fits has = absurd (subst stays.HasStopped (of-soft j runs.job_is).1 has)
plain-stop base layout view who (commands.Unpoison frame) j runs fits has = absurd (subst stays.HasStopped (of-unpoison j runs.job_is).1 has)

copy-stop : (layout : Layout) (who : Who) (command : Command) (from : VSlot) (j : Job) → RunsAs layout who command (Some from) j → stays.HasStopped j → CanStop layout command (jobs.told_of j)
copy-stop layout who (commands.Store thread slot line word) from j runs has = copying-halts j has runs.job_is
copy-stop layout who command from j runs has = absurd runs

pub can-stop : (base : List Made) (layout : Layout) (view : View) (who : Who) (command : Command) (copies : Option VSlot) (j : Job) → Runs layout who command copies j → jobs.FitsFrom base layout view j → stays.HasStopped j → CanStop layout command (jobs.told_of j)
can-stop base layout view who command copies j (inl denied) fits has = absurd (subst stays.HasStopped (runs-kind j denied).1 has)
can-stop base layout view who command None j (inr runs) fits has = plain-stop base layout view who command j runs fits has
can-stop base layout view who command (Some from) j (inr runs) fits has = copy-stop layout who command from j runs has

-- ---- a command that spoils a line

-- is the command for that
module _ (j : Job) (s : Spoiled) (has : stays.HasSpoiled j s) where
  abbrev Is : Who → Command → Type 0
  Is who command = (s.stamp.who ≡ who) × (command ≡ spoiling s.damage s.frame s.line)

  spoil-is : {who : Who} {frame : Frame} {line : ℕ} (damage : Damage) → anew j ≡ kinds.Spoil (spoils.begin who frame line damage) → Is who (spoiling damage frame line)
  spoil-is {who} {frame} {line} damage is = (
    sym its.1 ∙ ap (λ (x : Spoil). x.who) task.2,
    ap (λ (d : Damage). spoiling d frame line) (sym (ap (λ (x : Spoil). x.damage) task.2) ∙ its.4) ∙ ap (λ (f : Frame). spoiling s.damage f line) (sym (ap (λ (x : Spoil). x.frame) task.2) ∙ its.2)
        ∙ ap (spoiling s.damage s.frame) (sym (ap (λ (x : Spoil). x.line) task.2) ∙ its.3),
  )
    where
      task : (x : Spoil) × (j ≡ kinds.Spoil x) × (spoils.begin x.who x.frame x.line x.damage ≡ spoils.begin who frame line damage)
      task = of-spoil j is

      its : stays.HasSpoiled (kinds.Spoil task.0) s
      its = subst (λ (k : Job). stays.HasSpoiled k s) task.1 has

  none : {k : Job} → j ≡ k → stays.HasSpoiled k s
  none is = subst (λ (x : Job). stays.HasSpoiled x s) is has

plain-spoils : (layout : Layout) (who : Who) (command : Command) (j : Job) (s : Spoiled) → RunsAs layout who command None j → stays.HasSpoiled j s → (s.stamp.who ≡ who) × (command ≡ spoiling s.damage s.frame s.line)
plain-spoils layout who (commands.Bad frame line) j s runs has = spoil-is j s has damages.Bad runs.job_is
plain-spoils layout who (commands.Weak frame line) j s runs has = spoil-is j s has damages.Weak runs.job_is
plain-spoils layout who (commands.Load thread slot line) j s runs has = absurd (none j s has (of-instruction j runs.job_is).1)
plain-spoils layout who (commands.Fetch thread slot line) j s runs has = absurd (none j s has (of-instruction j runs.job_is).1)
plain-spoils layout who (commands.KLoad thread slot line) j s runs has = absurd (none j s has (of-instruction j runs.job_is).1)
plain-spoils layout who (commands.Store thread slot line word) j s runs has = absurd (none j s has (of-instruction j runs.job_is).1)
plain-spoils layout who (commands.Free slot) j s runs has = absurd (none j s has (of-evict j runs.1.job_is).1)
plain-spoils layout who (commands.Drop page) j s runs has = absurd (none j s has (of-evict j runs.job_is).1)
plain-spoils layout who (commands.Sync page) j s runs has = absurd (none j s has (of-evict j runs.job_is).1)
plain-spoils layout who (commands.Out page) j s runs has = absurd (none j s has (of-evict j runs.job_is).1)
plain-spoils layout who (commands.Fsync file) j s runs has = absurd (none j s has (of-fsync j runs.2).1)
plain-spoils layout who (commands.Open file) j s runs has = absurd (none j s has (of-fsync j runs.2).1)
plain-spoils layout who (commands.Prctl thread args) j s runs has = absurd (none j s has (of-prctl j runs.job_is).1)
plain-spoils layout who (commands.Fork thread child) j s runs has = absurd (none j s has (of-fork j runs.job_is).1)
plain-spoils layout who (commands.Log status addr misc) j s runs has = absurd (none j s has (of-log j runs.job_is).1)
plain-spoils layout who (commands.Watch threshold window) j s runs has = absurd (none j s has (of-log j runs.job_is).1)
plain-spoils layout who (commands.RaiseUser thread ripv eipv) j s runs has = absurd (none j s has (of-raise j runs.job_is).1)
plain-spoils layout who (commands.RaiseKernel ripv eipv) j s runs has = absurd (none j s has (of-raise j runs.job_is).1)
plain-spoils layout who (commands.Scrub first last) j s runs has = absurd (none j s has (of-scrub j runs.job_is).1)
plain-spoils layout who commands.RaiseNested j s runs has = absurd (none j s has (of-nested j runs).1)
plain-spoils layout who (commands.Inject frame) j s runs has = absurd (none j s has (of-inject j runs.job_is).1)
plain-spoils layout who (commands.Soft frame) j s runs has = absurd (none j s has (of-soft j runs.job_is).1)
plain-spoils layout who (commands.Unpoison frame) j s runs has = absurd (none j s has (of-unpoison j runs.job_is).1)

copy-spoils : (layout : Layout) (who : Who) (command : Command) (from : VSlot) (j : Job) (s : Spoiled) → RunsAs layout who command (Some from) j → stays.HasSpoiled j s → ⊥
copy-spoils layout who (commands.Store thread slot line word) from j s runs has = none j s has (of-copying j runs.job_is).1
copy-spoils layout who command from j s runs has = absurd runs

pub spoils-line : (layout : Layout) (who : Who) (command : Command) (copies : Option VSlot) (j : Job) (s : Spoiled) → Runs layout who command copies j → stays.HasSpoiled j s → (s.stamp.who ≡ who) × (command ≡ spoiling s.damage s.frame s.line)
spoils-line layout who command copies j s (inl denied) has = absurd (none j s has (runs-kind j denied).1)
spoils-line layout who command None j s (inr runs) has = plain-spoils layout who command j s runs has
spoils-line layout who command (Some from) j s (inr runs) has = absurd (copy-spoils layout who command from j s runs has)
