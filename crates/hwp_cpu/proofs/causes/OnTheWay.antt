-- What an access that pauses has made may stand before the entry that answers it.
use Rattle.std.proofs.Common.{◌≡◌, inl, inr, true, false, List, [], Option, Some, None, is_some, refl, sym, ap, ◌∙◌, subst}
use Rattle.std.proofs.lemmas.Bool.{both_ways}
use Rattle.std.proofs.lemmas.Option.{none-some}
use Rattle.hwp_law_served.specs.hwp_geom.declared.Layout.{Layout}
use Rattle.hwp_law_served.specs.hwp_geom.declared.Who.{Who}
use Rattle.hwp_law_served.specs.hwp_core_rule.declared.Made.{Made}
use Rattle.hwp_law_served.specs.hwp_core_rule.declared.View.{View}
use Rattle.hwp_law_served.specs.hwp_core_rule.Lists.{EachMember}
use Rattle.hwp_law_served.proofs.of_hwp_core_rule.Lists.{each-push}
use Rattle.hwp_law_served.specs.hwp_core_rule.Known.{deeds}
use Rattle.hwp_law_served.specs.hwp_script_words.declared.Command.{Command}
use Rattle.hwp_law_served.specs.hwp_script_words.declared.Command.TheVariants as commands
use Rattle.hwp_law_served.specs.hwp_law.Commands.{Access, access, access_of, can_fail}
use Rattle.hwp_cpu_command.specs.hwp_fault.declared.Request.{Request}
use Rattle.hwp_cpu_command.specs.hwp_cpu_access.declared.Instruction.{Instruction}
use Rattle.hwp_cpu_command.specs.hwp_cpu_access.declared.Pause.{Pause}
use Rattle.hwp_cpu_command.specs.hwp_cpu_access.declared.Pause.TheVariants as pauses
use Rattle.hwp_cpu_command.specs.hwp_cpu_access.Fits.{HasOnlyBefore, IsLeft}
use Rattle.hwp_cpu_command.specs.hwp_cpu_access.Fits as instruction_fits
use Rattle.hwp_cpu_command.specs.hwp_cpu_access.Instructions as instructions
use Rattle.hwp_cpu_command.proofs.of_hwp_cpu_access.InstructionLaws.{paused}
use Rattle.hwp_cpu_command.specs.declared.Job.{Job}
use Rattle.hwp_cpu_command.specs.declared.Job.TheVariants as jobs
use Rattle.hwp_cpu_command.specs.Jobs as all
use Rattle.hwp_cpu_command.specs.Jobs.{FitsFrom}
use Rattle.hwp_cpu_command.specs.Runs.{Runs, RunsAs, anew}
use Rattle.hwp_cpu_command.proofs.OfKind.{of-evict, of-fork, of-fsync, of-inject, of-instruction, of-log, of-nested, of-prctl, of-raise, of-scrub, of-soft, of-spoil, of-unpoison}
use Rattle.hwp_law_served.specs.Causes.{HasOnlyMet, IsMet}
use Rattle.hwp_cpu.specs.Beside.{AddsBeside, ArePrior, ArePriorTo}
use Rattle.hwp_cpu.proofs.causes.AccessCauses.{only-before, only-met, prior-before}
use Rattle.hwp_cpu.proofs.causes.DeniedCauses.{runs-kind}

-- of a command that copies nothing a task that pauses is an access, and so is its command
pub record IsAccessOf (command : Command) (by : Who) (j : Job) : Type 0 where
  pub task : Instruction
  pub job_is : j ≡ jobs.Instruction task
  pub of : access_of command ≡ Some (access task.request.thread task.request.slot task.request.line)
  pub fails : can_fail command ≡ true
  pub by_is : task.request.who ≡ by

of-access : {command : Command} {by : Who} (j : Job) {x : Instruction} → anew j ≡ jobs.Instruction x → access_of command ≡ Some (access x.request.thread x.request.slot x.request.line) → can_fail command ≡ true → x.request.who ≡ by → IsAccessOf command by j
of-access {command} {by} j {x} is of fails own = record {
  task = task.0;
  job_is = task.1;
  of = of ∙ ap (λ (i : Instruction). Some (access i.request.thread i.request.slot i.request.line)) (sym task.2);
  fails = fails;
  by_is = ap (λ (i : Instruction). i.request.who) task.2 ∙ own;
}
  where
    task : (i : Instruction) × (j ≡ jobs.Instruction i) × (instructions.begin i.alloc i.request i.origin i.mode i.before.value i.collects ≡ x)
    task = of-instruction j is

unpaused : {A : Type 0} {j k : Job} → j ≡ k → all.pauses k ≡ false → all.pauses j ≡ true → A
unpaused {A} {j} {k} is none paused = absurd (both_ways (all.pauses j) (ap all.pauses is ∙ none) paused)

as-access : (layout : Layout) (by : Who) (command : Command) (j : Job) → RunsAs layout by command None j → all.pauses j ≡ true → IsAccessOf command by j
as-access layout by (commands.Load thread slot line) j runs p = of-access j runs.job_is refl refl refl
as-access layout by (commands.Fetch thread slot line) j runs p = of-access j runs.job_is refl refl refl
as-access layout by (commands.KLoad thread slot line) j runs p = of-access j runs.job_is refl refl refl
as-access layout by (commands.Store thread slot line word) j runs p = of-access j runs.job_is refl refl refl
as-access layout by (commands.Free slot) j runs p = unpaused (of-evict j runs.1.job_is).1 refl p
as-access layout by (commands.Drop page) j runs p = unpaused (of-evict j runs.job_is).1 refl p
as-access layout by (commands.Sync page) j runs p = unpaused (of-evict j runs.job_is).1 refl p
as-access layout by (commands.Out page) j runs p = unpaused (of-evict j runs.job_is).1 refl p
as-access layout by (commands.Fsync file) j runs p = unpaused (of-fsync j runs.2).1 refl p
as-access layout by (commands.Open file) j runs p = unpaused (of-fsync j runs.2).1 refl p
as-access layout by (commands.Prctl thread args) j runs p = unpaused (of-prctl j runs.job_is).1 refl p
as-access layout by (commands.Fork thread child) j runs p = unpaused (of-fork j runs.job_is).1 refl p
as-access layout by (commands.Bad frame line) j runs p = unpaused (of-spoil j runs.job_is).1 refl p
as-access layout by (commands.Weak frame line) j runs p = unpaused (of-spoil j runs.job_is).1 refl p
as-access layout by (commands.Scrub first last) j runs p = unpaused (of-scrub j runs.job_is).1 refl p
as-access layout by (commands.Log status addr misc) j runs p = unpaused (of-log j runs.job_is).1 refl p
as-access layout by (commands.Watch threshold window) j runs p = unpaused (of-log j runs.job_is).1 refl p
as-access layout by (commands.RaiseUser thread ripv eipv) j runs p = unpaused (of-raise j runs.job_is).1 refl p
as-access layout by (commands.RaiseKernel ripv eipv) j runs p = unpaused (of-raise j runs.job_is).1 refl p
as-access layout by commands.RaiseNested j runs p = unpaused (of-nested j runs).1 refl p
as-access layout by (commands.Inject frame) j runs p = unpaused (of-inject j runs.job_is).1 refl p
as-access layout by (commands.Soft frame) j runs p = unpaused (of-soft j runs.job_is).1 refl p
as-access layout by (commands.Unpoison frame) j runs p = unpaused (of-unpoison j runs.job_is).1 refl p

pub runs-access : (layout : Layout) (by : Who) (command : Command) (j : Job) → Runs layout by command None j → all.pauses j ≡ true → IsAccessOf command by j
runs-access layout by command j (inl denied) p = unpaused (runs-kind j denied).1 refl p
runs-access layout by command j (inr runs) p = as-access layout by command j runs p

-- the pause
paused-at : (i : Instruction) → is_some (instructions.pause i) ≡ true → (p : Pause) × (instructions.pause i ≡ Some p)
paused-at i is = which (instructions.pause i) is
  where
    which : (o : Option Pause) → is_some o ≡ true → (p : Pause) × (o ≡ Some p)
    which (Some p) some = (p, refl)
    which None none = absurd (both_ways false refl none)

-- what it had made before may stand there
prior-entries : (command : Command) {a : Access} (layout : Layout) (base : List Made) → access_of command ≡ Some a → ArePrior layout command base → EachMember (IsMet layout command) base
prior-entries command layout base of prior = subst (λ (o : Option Access). ArePriorTo o layout command base) of prior

pub on-the-way : (base : List Made) (layout : Layout) (view : View) {by : Who} {command : Command} (j : Job) → IsAccessOf command by j → FitsFrom base layout view j → ArePrior layout command base → all.pauses j ≡ true → HasOnlyMet layout view by command
on-the-way base layout view {by} {command} j k fits prior pauses_now =
    subst (λ (w : Who). HasOnlyMet layout view w command) k.by_is
    (only-met layout view r task_fits.names command k.of k.fails (deeds r.who view) (only-before layout view r task_fits.names base (prior-before layout view r task_fits.names command k.of base (prior-entries command layout base k.of prior)) (which now.0 (paused k.task now.0 task_fits now.1).left)))
  where
    r : Request
    r = k.task.request

    task_fits : instruction_fits.FitsFrom base layout view k.task
    task_fits = subst (FitsFrom base layout view) k.job_is fits

    now : (p : Pause) × (instructions.pause k.task ≡ Some p)
    now = paused-at k.task (sym (ap all.pauses k.job_is) ∙ pauses_now)

    which : (q : Pause) → IsLeft base layout view r k.task.lines.told q → HasOnlyBefore base view r
    which (pauses.Sigbus place) left = left.only
    which (pauses.Wait frame) left = left.1
    which pauses.Again left = left.1

-- it stays so while frames are taken out of use beside it
pub met-beside : (layout : Layout) {old new : View} {by : Who} (command : Command) → AddsBeside by old new → HasOnlyMet layout old by command → HasOnlyMet layout new by command
met-beside layout {old} {new} {by} command more only = elim more.adds [
  | inl same ↦ subst (EachMember (IsMet layout command)) (sym same) only
  | inr one ↦ subst (EachMember (IsMet layout command)) (sym one.1) (each-push (IsMet layout command) (deeds by old) one.0 (inr (inr one.2)) only)
]

-- so all that its command has made may stand before its entry when it goes on
pub prior-behind : (layout : Layout) (view : View) {by : Who} {command : Command} {j : Job} → IsAccessOf command by j → HasOnlyMet layout view by command → ArePrior layout command (deeds by view)
prior-behind layout view {by} {command} k only = subst (λ (o : Option Access). ArePriorTo o layout command (deeds by view)) (sym k.of) only

-- a command has nothing before it begins
pub prior-begins : (layout : Layout) (command : Command) → ArePrior layout command []
prior-begins layout command = which (access_of command)
  where
    which : (o : Option Access) → ArePriorTo o layout command []
    which None = refl
    which (Some a) = λ i m there. absurd (none-some m there)
