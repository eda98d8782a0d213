-- The kind of task that a command runs as, whatever state it is in.
use Rattle.std.proofs.Common.{◌≡◌, ℕ, eq-eqb, ◌==◌, false, refl, ap}
use Rattle.std.proofs.lemmas.Bool.{both_ways}
use Rattle.hwp_cpu_control.specs.declared.Denied.{Denied}
use Rattle.hwp_cpu_control.specs.declared.Nested.{Nested}
use Rattle.hwp_cpu_control.specs.declared.Fork.{Fork}
use Rattle.hwp_cpu_control.specs.declared.Prctl.{Prctl}
use Rattle.hwp_cpu_control.specs.declared.Spoil.{Spoil}
use Rattle.hwp_evict.specs.declared.Evict.{Evict}
use Rattle.hwp_evict.specs.declared.Fsync.{Fsync}
use Rattle.hwp_cpu_row.specs.hwp_claim.declared.Inject.{Inject}
use Rattle.hwp_cpu_access.specs.declared.Instruction.{Instruction}
use Rattle.hwp_cpu_access.specs.declared.Copying.{Copying}
use Rattle.hwp_cpu_access.specs.Copyings as copyings
use Rattle.hwp_scrub.specs.declared.Log.{Log}
use Rattle.hwp_scrub.specs.declared.Raise.{Raise}
use Rattle.hwp_scrub.specs.declared.Scrub.{Scrub}
use Rattle.hwp_soft.specs.declared.Soft.{Soft}
use Rattle.hwp_soft.specs.declared.Unpoison.{Unpoison}
use Rattle.hwp_cpu_control.specs.Denieds as denieds
use Rattle.hwp_cpu_control.specs.Nesteds as nesteds
use Rattle.hwp_cpu_control.specs.Forks as forks
use Rattle.hwp_cpu_control.specs.Prctls as prctls
use Rattle.hwp_cpu_control.specs.Spoils as spoils
use Rattle.hwp_evict.specs.Evicts as evicts
use Rattle.hwp_evict.specs.Fsyncs as fsyncs
use Rattle.hwp_cpu_row.specs.hwp_claim.Injects as injects
use Rattle.hwp_cpu_access.specs.Instructions as instructions
use Rattle.hwp_scrub.specs.Logs as logs
use Rattle.hwp_scrub.specs.Raises as raises
use Rattle.hwp_scrub.specs.Scrubs as scrubs
use Rattle.hwp_soft.specs.Softs as softs
use Rattle.hwp_soft.specs.Unpoisons as unpoisons
use Rattle.hwp_cpu_command.specs.declared.job.Job.{Job}
use Rattle.hwp_cpu_command.specs.declared.job.Job.TheVariants as jobs
use Rattle.hwp_cpu_command.specs.Runs.{anew}

-- tasks of two kinds differ
abbrev kind : Job → ℕ
kind (jobs.Instruction i) = 0
kind (jobs.Evict e) = 1
kind (jobs.Fsync f) = 2
kind (jobs.Prctl p) = 3
kind (jobs.Log l) = 4
kind (jobs.Raise r) = 5
kind (jobs.Scrub s) = 6
kind (jobs.Spoil s) = 7
kind (jobs.Nested n) = 8
kind (jobs.Inject i) = 9
kind (jobs.Soft s) = 10
kind (jobs.Unpoison u) = 11
kind (jobs.Copying c) = 12
kind (jobs.Fork f) = 13
kind (jobs.Denied d) = 14

differ : {j k : Job} → j ≡ k → (kind j == kind k) ≡ false → ⊥
differ {j} {k} is apart = both_ways (kind j == kind k) apart (eq-eqb (kind j) (kind k) (ap kind is))

-- what a task of the kind is, and a given value for the others
abbrev instruction_in : Instruction → Job → Instruction
instruction_in d (jobs.Instruction i) = i
instruction_in d _ = d

abbrev evict_in : Evict → Job → Evict
evict_in d (jobs.Evict e) = e
evict_in d _ = d

abbrev fsync_in : Fsync → Job → Fsync
fsync_in d (jobs.Fsync f) = f
fsync_in d _ = d

abbrev prctl_in : Prctl → Job → Prctl
prctl_in d (jobs.Prctl p) = p
prctl_in d _ = d

abbrev log_in : Log → Job → Log
log_in d (jobs.Log l) = l
log_in d _ = d

abbrev raise_in : Raise → Job → Raise
raise_in d (jobs.Raise r) = r
raise_in d _ = d

abbrev scrub_in : Scrub → Job → Scrub
scrub_in d (jobs.Scrub s) = s
scrub_in d _ = d

abbrev spoil_in : Spoil → Job → Spoil
spoil_in d (jobs.Spoil s) = s
spoil_in d _ = d

abbrev nested_in : Nested → Job → Nested
nested_in d (jobs.Nested n) = n
nested_in d _ = d

abbrev inject_in : Inject → Job → Inject
inject_in d (jobs.Inject i) = i
inject_in d _ = d

abbrev soft_in : Soft → Job → Soft
soft_in d (jobs.Soft s) = s
soft_in d _ = d

abbrev unpoison_in : Unpoison → Job → Unpoison
unpoison_in d (jobs.Unpoison u) = u
unpoison_in d _ = d

abbrev copying_in : Copying → Job → Copying
copying_in d (jobs.Copying c) = c
copying_in d _ = d

abbrev fork_in : Fork → Job → Fork
fork_in d (jobs.Fork f) = f
fork_in d _ = d

abbrev denied_in : Denied → Job → Denied
denied_in e (jobs.Denied d) = d
denied_in e _ = e

pub of-instruction : (j : Job) {x : Instruction} → anew j ≡ jobs.Instruction x → (i : Instruction) × (j ≡ jobs.Instruction i) × (instructions.begin i.alloc i.request i.origin i.mode i.before.value i.collects ≡ x)
of-instruction (jobs.Instruction i) {x} is = (i, refl, ap (instruction_in x) is)
of-instruction _ is = absurd (differ is refl)

pub of-evict : (j : Job) {x : Evict} → anew j ≡ jobs.Evict x → (e : Evict) × (j ≡ jobs.Evict e) × (evicts.begin e.who e.page e.what ≡ x)
of-evict (jobs.Evict e) {x} is = (e, refl, ap (evict_in x) is)
of-evict _ is = absurd (differ is refl)

pub of-fsync : (j : Job) {x : Fsync} → anew j ≡ jobs.Fsync x → (f : Fsync) × (j ≡ jobs.Fsync f) × (fsyncs.begin f.who f.file f.handle f.opens ≡ x)
of-fsync (jobs.Fsync f) {x} is = (f, refl, ap (fsync_in x) is)
of-fsync _ is = absurd (differ is refl)

pub of-prctl : (j : Job) {x : Prctl} → anew j ≡ jobs.Prctl x → (p : Prctl) × (j ≡ jobs.Prctl p) × (prctls.begin p.who p.thread p.process p.arguments ≡ x)
of-prctl (jobs.Prctl p) {x} is = (p, refl, ap (prctl_in x) is)
of-prctl _ is = absurd (differ is refl)

pub of-log : (j : Job) {x : Log} → anew j ≡ jobs.Log x → (l : Log) × (j ≡ jobs.Log l) × (logs.begin l.read.who l.change l.before.value ≡ x)
of-log (jobs.Log l) {x} is = (l, refl, ap (log_in x) is)
of-log _ is = absurd (differ is refl)

pub of-raise : (j : Job) {x : Raise} → anew j ≡ jobs.Raise x → (r : Raise) × (j ≡ jobs.Raise r) × (raises.begin r.alloc r.who r.raiser r.mcg r.before.value ≡ x)
of-raise (jobs.Raise r) {x} is = (r, refl, ap (raise_in x) is)
of-raise _ is = absurd (differ is refl)

pub of-scrub : (j : Job) {x : Scrub} → anew j ≡ jobs.Scrub x → (s : Scrub) × (j ≡ jobs.Scrub s) × (scrubs.begin s.alloc s.who s.first s.last s.before.value ≡ x)
of-scrub (jobs.Scrub s) {x} is = (s, refl, ap (scrub_in x) is)
of-scrub _ is = absurd (differ is refl)

pub of-spoil : (j : Job) {x : Spoil} → anew j ≡ jobs.Spoil x → (s : Spoil) × (j ≡ jobs.Spoil s) × (spoils.begin s.who s.frame s.line s.damage ≡ x)
of-spoil (jobs.Spoil s) {x} is = (s, refl, ap (spoil_in x) is)
of-spoil _ is = absurd (differ is refl)

pub of-nested : (j : Job) {x : Nested} → anew j ≡ jobs.Nested x → (n : Nested) × (j ≡ jobs.Nested n) × (nesteds.begin n.who ≡ x)
of-nested (jobs.Nested n) {x} is = (n, refl, ap (nested_in x) is)
of-nested _ is = absurd (differ is refl)

pub of-inject : (j : Job) {x : Inject} → anew j ≡ jobs.Inject x → (i : Inject) × (j ≡ jobs.Inject i) × (injects.begin i.alloc i.who i.frame ≡ x)
of-inject (jobs.Inject i) {x} is = (i, refl, ap (inject_in x) is)
of-inject _ is = absurd (differ is refl)

pub of-soft : (j : Job) {x : Soft} → anew j ≡ jobs.Soft x → (s : Soft) × (j ≡ jobs.Soft s) × (softs.begin s.who s.frame ≡ x)
of-soft (jobs.Soft s) {x} is = (s, refl, ap (soft_in x) is)
of-soft _ is = absurd (differ is refl)

pub of-unpoison : (j : Job) {x : Unpoison} → anew j ≡ jobs.Unpoison x → (u : Unpoison) × (j ≡ jobs.Unpoison u) × (unpoisons.begin u.who u.frame ≡ x)
of-unpoison (jobs.Unpoison u) {x} is = (u, refl, ap (unpoison_in x) is)
of-unpoison _ is = absurd (differ is refl)

pub of-copying : (j : Job) {x : Copying} → anew j ≡ jobs.Copying x → (c : Copying) × (j ≡ jobs.Copying c) × (copyings.begin c.instruction.alloc c.store c.cow.x c.cow.v c.page c.instruction.before.value c.instruction.collects ≡ x)
of-copying (jobs.Copying c) {x} is = (c, refl, ap (copying_in x) is)
of-copying _ is = absurd (differ is refl)

pub of-fork : (j : Job) {x : Fork} → anew j ≡ jobs.Fork x → (f : Fork) × (j ≡ jobs.Fork f) × (forks.begin f.who f.thread f.process f.targets ≡ x)
of-fork (jobs.Fork f) {x} is = (f, refl, ap (fork_in x) is)
of-fork _ is = absurd (differ is refl)

pub of-denied : (j : Job) {x : Denied} → anew j ≡ jobs.Denied x → (d : Denied) × (j ≡ jobs.Denied d) × (denieds.begin d.who d.process d.why ≡ x)
of-denied (jobs.Denied d) {x} is = (d, refl, ap (denied_in x) is)
of-denied _ is = absurd (differ is refl)
