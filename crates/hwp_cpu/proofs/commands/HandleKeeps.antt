-- A step of a command leaves the number of its handle, and what the processor's handles are while it runs.
use Rattle.std.proofs.Common.{ℕ, ◌-◌, ◌==◌, Bool, true, false, cond, List, Option, sym, subst}
use Rattle.hwp_cpu_command.specs.hwp_geom.declared.Layout.{Layout}
use Rattle.hwp_cpu_command.specs.hwp_page.History.{BodyValue}
use Rattle.hwp_cpu_command.specs.hwp_words.Stops.{is_stopped}
use Rattle.hwp_cpu_command.specs.hwp_core_rule.declared.Turn.{Turn}
use Rattle.hwp_cpu_command.specs.hwp_evict.declared.FsyncAnswer.TheVariants as fsync_answers
use Rattle.hwp_cpu_command.specs.hwp_evict.declared.fsync.FsyncAt.{FsyncAt}
use Rattle.hwp_cpu_command.specs.hwp_evict.declared.fsync.FsyncAt.TheVariants as fsync_at
use Rattle.hwp_cpu_command.specs.hwp_evict.Fsyncs as fsyncs
use Rattle.hwp_cpu_command.specs.declared.job.Job.{Job}
use Rattle.hwp_cpu_command.specs.declared.job.Job.TheVariants as jobs
use Rattle.hwp_cpu_command.specs.FileHandles.{HasHandle, IsToldBy}
use Rattle.hwp_cpu_command.specs.Jobs.{Next, bare}

-- where the task opens the handle it answers so, and else not
by-stop : (handle : ℕ) (opens stopped : Bool) → IsToldBy opens (cond stopped (fsync_at.Over fsync_answers.Stopped handle) fsync_at.Report)
by-stop handle true true = tt
by-stop handle true false = tt
by-stop handle false true = tt
by-stop handle false false = tt

by-word : (handle found : ℕ) (seen : Bool) → IsToldBy false (fsync_at.Over (cond seen fsync_answers.Done (fsync_answers.Eio (found - handle))) found)
by-word handle found true = tt
by-word handle found false = tt

stays-told : (handle found : ℕ) (opens : Bool) (x : FsyncAt) → IsToldBy opens x → IsToldBy opens (fsyncs.next_at handle opens x found)
stays-told handle found opens fsync_at.LoadStop told = by-stop handle opens (is_stopped found)
stays-told handle found true fsync_at.Report told = tt
stays-told handle found false fsync_at.Report told = by-word handle found (found == handle)
stays-told handle found opens (fsync_at.Over answer number) told = told

pub handle-stays : (layout : Layout) (handles : List ℕ) (j after : Job) (found : ℕ) (got : Option BodyValue) (turn : Turn) → Next layout (bare j) found got after turn → HasHandle handles j → HasHandle handles after
handle-stays layout handles (jobs.Fsync f) after found got turn next has =
    subst (HasHandle handles) (sym next.0) (has.0, stays-told f.handle found f.opens f.at has.1)
handle-stays layout handles (jobs.Instruction i) after found got turn next has = subst (HasHandle handles) (sym next.1) tt
handle-stays layout handles (jobs.Copying c) after found got turn next has = subst (HasHandle handles) (sym next.1) tt
handle-stays layout handles (jobs.Evict e) after found got turn next has = subst (HasHandle handles) (sym next.1) tt
handle-stays layout handles (jobs.Raise r) after found got turn next has = subst (HasHandle handles) (sym next.1) tt
handle-stays layout handles (jobs.Scrub s) after found got turn next has = subst (HasHandle handles) (sym next.1) tt
handle-stays layout handles (jobs.Inject i) after found got turn next has = subst (HasHandle handles) (sym next.1) tt
handle-stays layout handles (jobs.Soft s) after found got turn next has = subst (HasHandle handles) (sym next.1) tt
handle-stays layout handles (jobs.Prctl p) after found got turn next has = subst (HasHandle handles) (sym next.0) tt
handle-stays layout handles (jobs.Denied p) after found got turn next has = subst (HasHandle handles) (sym next.0) tt
handle-stays layout handles (jobs.Fork f) after found got turn next has = subst (HasHandle handles) (sym next.0) tt
handle-stays layout handles (jobs.Log l) after found got turn next has = subst (HasHandle handles) (sym next.0) tt
handle-stays layout handles (jobs.Spoil s) after found got turn next has = subst (HasHandle handles) (sym next.0) tt
handle-stays layout handles (jobs.Nested n) after found got turn next has = subst (HasHandle handles) (sym next.0) tt
handle-stays layout handles (jobs.Unpoison u) after found got turn next has = subst (HasHandle handles) (sym next.0) tt
