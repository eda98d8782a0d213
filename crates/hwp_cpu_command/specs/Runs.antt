-- Which command a task is of, whatever state it is in, and what a processor has where a command begins.
use Rattle.std.specs.Prelude.{◌≡◌, ◌≢◌, ◌⊎◌, ◌==◌, Bool, true, false, [], Option, Some, slice_get}
use Rattle.hwp_cpu_control.specs.hwp_geom.declared.Layout.{Layout}
use Rattle.hwp_cpu_control.specs.hwp_geom.declared.Proc.{Proc}
use Rattle.hwp_cpu_control.specs.hwp_geom.declared.Thread.{Thread}
use Rattle.hwp_cpu_control.specs.hwp_geom.declared.ThreadDecl.{ThreadDecl}
use Rattle.hwp_cpu_control.specs.hwp_geom.declared.VSlot.{VSlot}
use Rattle.hwp_cpu_control.specs.hwp_geom.declared.Who.{Who}
use Rattle.hwp_cpu_row.specs.hwp_script_words.declared.Command.{Command}
use Rattle.hwp_cpu_row.specs.hwp_script_words.declared.Command.TheVariants as commands
use Rattle.hwp_cpu_control.specs.hwp_core_rule.declared.View.{View}
use Rattle.hwp_cpu_control.specs.hwp_core_rule.parts.Policies.{settings_of}
use Rattle.hwp_cpu_control.specs.hwp_core_rule.Calls.{IsOnTurn}
use Rattle.hwp_cpu_control.specs.hwp_core_rule.Hands.{hand_of, empty}
use Rattle.hwp_cpu_control.specs.hwp_core_rule.Known.{HasMadeNone}
use Rattle.hwp_cpu_row.specs.hwp_claim_frame.Claims.{HasMarkedNone}
use Rattle.hwp_cpu_control.specs.declared.Denial.{Denial}
use Rattle.hwp_cpu_control.specs.Denieds as denieds
use Rattle.hwp_cpu_control.specs.Nesteds as nesteds
use Rattle.hwp_cpu_control.specs.Forks as forks
use Rattle.hwp_cpu_control.specs.Prctls as prctls
use Rattle.hwp_cpu_control.specs.Prctls.{HasSettingLeft}
use Rattle.hwp_cpu_control.specs.Spoils as spoils
use Rattle.hwp_evict.specs.Evicts as evicts
use Rattle.hwp_evict.specs.Fsyncs as fsyncs
use Rattle.hwp_cpu_row.specs.hwp_claim.Injects as injects
use Rattle.hwp_cpu_access.specs.Instructions as instructions
use Rattle.hwp_cpu_access.specs.Copyings as copyings
use Rattle.hwp_scrub.specs.Logs as logs
use Rattle.hwp_scrub.specs.Raises as raises
use Rattle.hwp_scrub.specs.Scrubs as scrubs
use Rattle.hwp_soft.specs.Softs as softs
use Rattle.hwp_soft.specs.Unpoisons as unpoisons
use Rattle.hwp_soft.specs.Unpoisons.{HasRevivalLeft}
use Rattle.hwp_cpu_command.specs.declared.job.Job.{Job}
use Rattle.hwp_cpu_command.specs.declared.job.Job.TheVariants as jobs
use Rattle.hwp_cpu_command.specs.Begins.{BeginsAs, IsDenied}
use Rattle.hwp_cpu_command.specs.Jobs.{banks_before}

-- the task of the same command at its beginning
abbrev pub anew : Job → Job
anew (jobs.Instruction i) = jobs.Instruction (instructions.begin i.alloc i.request i.origin i.mode i.before.value i.collects)
anew (jobs.Copying c) = jobs.Copying (copyings.begin c.instruction.alloc c.store c.cow.x c.cow.v c.page c.instruction.before.value c.instruction.collects)
anew (jobs.Evict e) = jobs.Evict (evicts.begin e.who e.page e.what)
anew (jobs.Fsync f) = jobs.Fsync (fsyncs.begin f.who f.file f.handle f.opens)
anew (jobs.Prctl p) = jobs.Prctl (prctls.begin p.who p.thread p.process p.arguments)
anew (jobs.Fork f) = jobs.Fork (forks.begin f.who f.thread f.process f.targets)
anew (jobs.Log l) = jobs.Log (logs.begin l.read.who l.change l.before.value)
anew (jobs.Raise r) = jobs.Raise (raises.begin r.alloc r.who r.raiser r.mcg r.before.value)
anew (jobs.Scrub s) = jobs.Scrub (scrubs.begin s.alloc s.who s.first s.last s.before.value)
anew (jobs.Spoil s) = jobs.Spoil (spoils.begin s.who s.frame s.line s.damage)
anew (jobs.Nested n) = jobs.Nested (nesteds.begin n.who)
anew (jobs.Inject i) = jobs.Inject (injects.begin i.alloc i.who i.frame)
anew (jobs.Soft s) = jobs.Soft (softs.begin s.who s.frame)
anew (jobs.Unpoison u) = jobs.Unpoison (unpoisons.begin u.who u.frame)
anew (jobs.Denied d) = jobs.Denied (denieds.begin d.who d.process d.why)

-- whether it was told that its processor collects corrected errors
abbrev pub collects_now : Job → Bool
collects_now (jobs.Instruction i) = i.collects
collects_now (jobs.Copying c) = c.instruction.collects
collects_now _ = false

-- the task is of the command, which copies from the translation where there is one: begun anew, it is what the command begins as, where the banks hold what they held then
abbrev pub RunsAs : Layout → Who → Command → Option VSlot → Job → Type 0
RunsAs layout who command copies j = BeginsAs layout who command copies (banks_before j []) (collects_now j) (anew j)

-- or of an access that its guest doesn't admit
abbrev pub RunsDenied : Layout → Who → Command → Option VSlot → Job → Type 0
RunsDenied layout who command copies j = (why : Denial) × IsDenied layout who command copies why (anew j)

abbrev pub Runs : Layout → Who → Command → Option VSlot → Job → Type 0
Runs layout who command copies j = RunsDenied layout who command copies j ⊎ RunsAs layout who command copies j

-- the processor holds nothing and owes no loss, and may begin the command, which has made no entry and marked no frame yet; each
-- thread can be set once more, and a poison taken back once more
pub record AtRest (view : View) (who : Who) : Type 0 where
  pub on_turn : IsOnTurn view who
  pub hand_is : hand_of view ≡ empty
  pub paid : view.owed.losses ≡ []
  pub made : HasMadeNone view who
  pub unmarked : HasMarkedNone view who
  pub left : (thread : Thread) → HasSettingLeft thread view
  pub revivals : HasRevivalLeft who.cpu view

-- no thread of the child has been set, and each is one of the processor and isn't the one that forks
abbrev pub IsFresh : Layout → View → Who → Thread → Proc → Type 0
IsFresh layout view who thread child =
    (t : Thread) (d : ThreadDecl) → slice_get layout.threads t.0 ≡ Some d → (d.process.0 == child.0) ≡ true → ((d.cpu ≡ who.cpu) × (t.0 ≢ thread.0)) × (settings_of t view.settings ≡ [])

-- what a fork asks where it begins
abbrev pub CanFork : Layout → View → Who → Command → Type 0
CanFork layout view who (commands.Fork thread child) = IsFresh layout view who thread child
CanFork layout view who _ = Unit {0}
