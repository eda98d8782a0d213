-- The task that a command begins as.
use Rattle.std.specs.declared.alloc.Global.{Global}
use Rattle.std.specs.Prelude.{◌≡◌, ℕ, ◌<◌, Bool, false, true, Option, Some, None, IsSome, length, slice_get, take, ◌≤◌}
use Rattle.hwp_cpu_control.specs.hwp_geom.declared.Damage.{Damage}
use Rattle.hwp_cpu_control.specs.hwp_geom.declared.Damage.TheVariants as damages
use Rattle.hwp_cpu_control.specs.hwp_geom.declared.FileNo.{FileNo}
use Rattle.hwp_cpu_control.specs.hwp_geom.declared.Frame.{Frame}
use Rattle.hwp_cpu_control.specs.hwp_geom.declared.Layout.{Layout}
use Rattle.hwp_cpu_control.specs.hwp_geom.declared.Mode.{Mode}
use Rattle.hwp_cpu_control.specs.hwp_geom.declared.Mode.TheVariants as modes
use Rattle.hwp_cpu_control.specs.hwp_geom.declared.Page.{Page}
use Rattle.hwp_cpu_control.specs.hwp_geom.declared.Proc.{Proc}
use Rattle.hwp_cpu_control.specs.hwp_geom.declared.Thread.{Thread}
use Rattle.hwp_cpu_control.specs.hwp_geom.declared.ThreadDecl.{ThreadDecl}
use Rattle.hwp_cpu_control.specs.hwp_geom.declared.VSlot.{VSlot}
use Rattle.hwp_cpu_control.specs.hwp_geom.declared.Who.{Who}
use Rattle.hwp_cpu_control.specs.hwp_geom.Layout.{IsSound}
use Rattle.hwp_cpu_control.specs.hwp_geom.Limits.{line_limit, thread_limit}
use Rattle.hwp_cpu_row.specs.hwp_banks.declared.Origin.{Origin}
use Rattle.hwp_cpu_row.specs.hwp_banks.declared.Origin.TheVariants as origins
use Rattle.hwp_cpu_row.specs.hwp_banks.Events.{bank_count}
use Rattle.hwp_cpu_row.specs.hwp_severity.declared.McgBits.{McgBits}
use Rattle.hwp_cpu_row.specs.hwp_script_words.declared.Command.{Command}
use Rattle.hwp_cpu_row.specs.hwp_script_words.declared.Command.TheVariants as commands
use Rattle.hwp_cpu_row.specs.hwp_script_words.declared.PrctlArgs.{PrctlArgs}
use Rattle.hwp_cpu_row.specs.hwp_script_words.Valid.{IsAccess, IsCommandOf}
use Rattle.hwp_cpu_row.specs.hwp_banks.Banks.{Banks, raw_event}
use Rattle.hwp_cpu_row.specs.hwp_law.Commands.{Access, access_of, arrival_of, process_of_thread}
use Rattle.hwp_cpu_row.specs.hwp_claim.hwp_guest.declared.Admit.{Admit}
use Rattle.hwp_cpu_row.specs.hwp_claim.hwp_guest.declared.Admit.TheVariants as admissions
use Rattle.hwp_cpu_row.specs.hwp_law.Settings.{arguments}
use Rattle.hwp_cpu_control.specs.declared.Denial.{Denial}
use Rattle.hwp_cpu_control.specs.declared.Denial.TheVariants as denials
use Rattle.hwp_cpu_control.specs.Denieds as denieds
use Rattle.hwp_cpu_control.specs.Nesteds as nesteds
use Rattle.hwp_cpu_control.specs.Forks as forks
use Rattle.hwp_cpu_control.specs.declared.Targets.{Targets}
use Rattle.hwp_cpu_control.specs.Prctls as prctls
use Rattle.hwp_cpu_control.specs.Spoils as spoils
use Rattle.hwp_evict.specs.declared.Eviction.{Eviction}
use Rattle.hwp_evict.specs.declared.Eviction.TheVariants as evictions
use Rattle.hwp_evict.specs.Evictions.{IsOfKind}
use Rattle.hwp_evict.specs.Evicts as evicts
use Rattle.hwp_evict.specs.Fsyncs as fsyncs
use Rattle.hwp_cpu_access.specs.hwp_fault.declared.AccessKind.{AccessKind}
use Rattle.hwp_cpu_access.specs.hwp_fault.declared.AccessKind.TheVariants as kinds
use Rattle.hwp_cpu_access.specs.hwp_fault.declared.Request.{Request}
use Rattle.hwp_cpu_access.specs.hwp_fault.Accesses as accesses
use Rattle.hwp_cpu_row.specs.hwp_claim.Injects as injects
use Rattle.hwp_cpu_access.specs.Instructions as instructions
use Rattle.hwp_cpu_access.specs.Copyings as copyings
use Rattle.hwp_scrub.specs.declared.LocalChange.{LocalChange}
use Rattle.hwp_scrub.specs.declared.LocalChange.TheVariants as changes
use Rattle.hwp_scrub.specs.Logs as logs
use Rattle.hwp_scrub.specs.Raises as raises
use Rattle.hwp_scrub.specs.Fits.{AreFrames}
use Rattle.hwp_scrub.specs.Scrubs as scrubs
use Rattle.hwp_soft.specs.Softs as softs
use Rattle.hwp_soft.specs.Unpoisons as unpoisons
use Rattle.hwp_cpu_command.specs.declared.begin.LineAccess.{LineAccess}
use Rattle.hwp_cpu_command.specs.declared.begin.Manner.{Manner}
use Rattle.hwp_cpu_command.specs.declared.job.Job.{Job}
use Rattle.hwp_cpu_command.specs.declared.job.Job.TheVariants as jobs
use Rattle.hwp_cpu_command.specs.FileHandles.{IsChangeWithin}

abbrev pub request_of : Who → Thread → VSlot → ℕ → AccessKind → Page → Proc → Request
request_of who thread slot line kind page process = record { who = who; thread = thread; slot = slot; line = line; kind = kind; page = page; process = process }

abbrev pub begun_access : Global → Request → Origin → Mode → Banks → Bool → Job
begun_access alloc request origin mode banks collects = jobs.Instruction (instructions.begin alloc request origin mode banks collects)

-- an access by a thread, through a translation of the thread's own process to the page; it takes what the banks hold, and is told whether
-- its processor collects corrected errors
pub record BeginsAccess (layout : Layout) (who : Who) (thread : Thread) (slot : VSlot) (line : ℕ) (kind : AccessKind) (origin : Origin) (mode : Mode) (banks : Banks) (collects : Bool) (j : Job) : Type 0 where
  pub sound : IsSound layout
  pub three : length banks ≡ bank_count
  pub page : Page
  pub process : Proc
  pub names : accesses.IsDeclared layout (request_of who thread slot line kind page process)
  pub alloc : Global
  pub job_is : j ≡ begun_access alloc (request_of who thread slot line kind page process) origin mode banks collects

-- what an access asks for, and what a command does, if it is one
abbrev pub manner : AccessKind → Origin → Mode → Manner
manner kind origin mode = record { kind = kind; origin = origin; mode = mode }

abbrev pub line_access : Thread → VSlot → ℕ → Manner → LineAccess
line_access thread slot line how = record { thread = thread; slot = slot; line = line; manner = how }

abbrev pub access_in : Command → Option LineAccess
access_in (commands.Load thread slot line) = Some (line_access thread slot line (manner kinds.Load origins.Access modes.User))
access_in (commands.Fetch thread slot line) = Some (line_access thread slot line (manner kinds.Load origins.Fetch modes.User))
access_in (commands.KLoad thread slot line) = Some (line_access thread slot line (manner kinds.Load origins.Access modes.Kernel))
access_in (commands.Store thread slot line word) = Some (line_access thread slot line (manner (kinds.Store word) origins.Access modes.User))
access_in _ = None

abbrev pub BeginsLine : Layout → Who → LineAccess → Banks → Bool → Job → Type 0
BeginsLine layout who at banks collects j = BeginsAccess layout who at.thread at.slot at.line at.manner.kind at.manner.origin at.manner.mode banks collects j

-- the commands that come seldom
abbrev pub is_rare : Command → Bool
is_rare (commands.Prctl thread args) = true
is_rare (commands.Fork thread child) = true
is_rare (commands.Scrub first last) = true
is_rare (commands.Log status addr misc) = true
is_rare (commands.Watch threshold window) = true
is_rare (commands.Unpoison frame) = true
is_rare (commands.RaiseUser thread ripv eipv) = true
is_rare (commands.RaiseKernel ripv eipv) = true
is_rare commands.RaiseNested = true
is_rare _ = false

-- a load of data by the program, of an instruction, or of data by the kernel; a store
abbrev pub BeginsLoad : Layout → Who → Thread → VSlot → ℕ → Banks → Bool → Job → Type 0
BeginsLoad layout who thread slot line banks collects j = BeginsAccess layout who thread slot line kinds.Load origins.Access modes.User banks collects j

abbrev pub BeginsFetch : Layout → Who → Thread → VSlot → ℕ → Banks → Bool → Job → Type 0
BeginsFetch layout who thread slot line banks collects j = BeginsAccess layout who thread slot line kinds.Load origins.Fetch modes.User banks collects j

abbrev pub BeginsKernelLoad : Layout → Who → Thread → VSlot → ℕ → Banks → Bool → Job → Type 0
BeginsKernelLoad layout who thread slot line banks collects j = BeginsAccess layout who thread slot line kinds.Load origins.Access modes.Kernel banks collects j

abbrev pub BeginsStore : Layout → Who → Thread → VSlot → ℕ → ℕ → Banks → Bool → Job → Type 0
BeginsStore layout who thread slot line word banks collects j = BeginsAccess layout who thread slot line (kinds.Store word) origins.Access modes.User banks collects j

-- an eviction of a page of the layout that is of the command's kind
pub record BeginsEviction (layout : Layout) (who : Who) (page : Page) (what : Eviction) (j : Job) : Type 0 where
  pub within : page.0 < length layout.pages
  pub kind : IsOfKind layout page what
  pub job_is : j ≡ jobs.Evict (evicts.begin who page what)

-- a call of prctl(2) by a thread of the processor
pub record BeginsPrctl (layout : Layout) (who : Who) (thread : Thread) (args : PrctlArgs) (j : Job) : Type 0 where
  pub decl : ThreadDecl
  pub declared : slice_get layout.threads thread.0 ≡ Some decl
  pub own : decl.cpu ≡ who.cpu
  pub within : decl.process.0 < layout.procs
  pub job_is : j ≡ jobs.Prctl (prctls.begin who thread decl.process (arguments args))

-- a fork by a thread of the processor: each thread of the child gets the policy of that one
pub record BeginsFork (layout : Layout) (who : Who) (thread : Thread) (child : Proc) (j : Job) : Type 0 where
  pub decl : ThreadDecl
  pub declared : slice_get layout.threads thread.0 ≡ Some decl
  pub own : decl.cpu ≡ who.cpu
  pub within : decl.process.0 < layout.procs
  pub targets : Targets
  pub few : targets.count ≤ thread_limit
  pub room : length targets.threads ≡ thread_limit
  pub listed : take targets.count targets.threads ≡ forks.threads_of child 0 layout.threads
  pub job_is : j ≡ jobs.Fork (forks.begin who thread decl.process targets)

-- a failure of a frame of the layout
pub record BeginsInject (layout : Layout) (who : Who) (frame : Frame) (j : Job) : Type 0 where
  pub sound : IsSound layout
  pub within : frame.0 < layout.frames
  pub alloc : Global
  pub job_is : j ≡ jobs.Inject (injects.begin alloc who frame)

-- a change of the processor alone
pub record BeginsLog (layout : Layout) (who : Who) (change : LocalChange) (banks : Banks) (j : Job) : Type 0 where
  pub three : length banks ≡ bank_count
  pub within : IsChangeWithin change
  pub job_is : j ≡ jobs.Log (logs.begin who change banks)

-- a machine check by a thread of the processor, of what the banks hold
pub record BeginsRaiseUser (layout : Layout) (who : Who) (thread : Thread) (mcg : McgBits) (banks : Banks) (j : Job) : Type 0 where
  pub sound : IsSound layout
  pub three : length banks ≡ bank_count
  pub decl : ThreadDecl
  pub declared : slice_get layout.threads thread.0 ≡ Some decl
  pub own : decl.cpu ≡ who.cpu
  pub within : decl.process.0 < layout.procs
  pub alloc : Global
  pub job_is : j ≡ jobs.Raise (raises.begin alloc who (Some (record { thread = thread; process = decl.process })) mcg banks)

-- a machine check by the kernel, of what the banks hold
pub record BeginsRaiseKernel (layout : Layout) (who : Who) (mcg : McgBits) (banks : Banks) (j : Job) : Type 0 where
  pub sound : IsSound layout
  pub three : length banks ≡ bank_count
  pub alloc : Global
  pub job_is : j ≡ jobs.Raise (raises.begin alloc who None mcg banks)

-- a scrub of frames of the layout
pub record BeginsScrub (layout : Layout) (who : Who) (first last : Frame) (banks : Banks) (j : Job) : Type 0 where
  pub sound : IsSound layout
  pub frames : AreFrames layout first last
  pub alloc : Global
  pub job_is : j ≡ jobs.Scrub (scrubs.begin alloc who first last banks)

-- damage to a line of a frame of the layout
pub record BeginsSpoil (layout : Layout) (who : Who) (frame : Frame) (line : ℕ) (damage : Damage) (j : Job) : Type 0 where
  pub within : frame.0 < layout.frames
  pub inside : line < line_limit
  pub job_is : j ≡ jobs.Spoil (spoils.begin who frame line damage)

-- a frame of the layout is taken out of use
pub record BeginsSoft (layout : Layout) (who : Who) (frame : Frame) (j : Job) : Type 0 where
  pub within : frame.0 < layout.frames
  pub job_is : j ≡ jobs.Soft (softs.begin who frame)

-- the poison of a frame of the layout is taken back
pub record BeginsUnpoison (layout : Layout) (who : Who) (frame : Frame) (j : Job) : Type 0 where
  pub within : frame.0 < layout.frames
  pub job_is : j ≡ jobs.Unpoison (unpoisons.begin who frame)

-- a handle of a file of the layout, with some number, is asked what came since, or is opened
abbrev pub BeginsFsync : Layout → Who → FileNo → Bool → Job → Type 0
BeginsFsync layout who file opens j = (file.0 < layout.files) × (handle : ℕ) × (j ≡ jobs.Fsync (fsyncs.begin who file handle opens))

-- the task is at the beginning of the command, of a processor whose banks hold this, and which collects corrected errors or doesn't; a store
-- copies nothing
abbrev pub Begins : Layout → Who → Command → Banks → Bool → Job → Type 0
Begins layout who (commands.Load thread slot line) banks collects j = BeginsLoad layout who thread slot line banks collects j
Begins layout who (commands.Fetch thread slot line) banks collects j = BeginsFetch layout who thread slot line banks collects j
Begins layout who (commands.KLoad thread slot line) banks collects j = BeginsKernelLoad layout who thread slot line banks collects j
Begins layout who (commands.Store thread slot line word) banks collects j = BeginsStore layout who thread slot line word banks collects j
Begins layout who (commands.Free slot) banks collects j = (page : Page) × BeginsEviction layout who page (evictions.Free slot) j
Begins layout who (commands.Drop page) banks collects j = BeginsEviction layout who page evictions.Drop j
Begins layout who (commands.Sync page) banks collects j = BeginsEviction layout who page evictions.Sync j
Begins layout who (commands.Out page) banks collects j = BeginsEviction layout who page evictions.Out j
Begins layout who (commands.Fsync file) banks collects j = BeginsFsync layout who file false j
Begins layout who (commands.Open file) banks collects j = BeginsFsync layout who file true j
Begins layout who (commands.Prctl thread args) banks collects j = BeginsPrctl layout who thread args j
Begins layout who (commands.Fork thread child) banks collects j = BeginsFork layout who thread child j
Begins layout who (commands.Bad frame line) banks collects j = BeginsSpoil layout who frame line damages.Bad j
Begins layout who (commands.Weak frame line) banks collects j = BeginsSpoil layout who frame line damages.Weak j
Begins layout who (commands.Scrub first last) banks collects j = BeginsScrub layout who first last banks j
Begins layout who (commands.Log status addr misc) banks collects j = BeginsLog layout who (changes.Event (raw_event status addr misc)) banks j
Begins layout who (commands.Watch threshold window) banks collects j = BeginsLog layout who (changes.Watch threshold window) banks j
Begins layout who (commands.RaiseUser thread ripv eipv) banks collects j = BeginsRaiseUser layout who thread (arrival_of (commands.RaiseUser thread ripv eipv)).mcg banks j
Begins layout who (commands.RaiseKernel ripv eipv) banks collects j = BeginsRaiseKernel layout who (arrival_of (commands.RaiseKernel ripv eipv)).mcg banks j
Begins layout who commands.RaiseNested banks collects j = j ≡ jobs.Nested (nesteds.begin who)
Begins layout who (commands.Inject frame) banks collects j = BeginsInject layout who frame j
Begins layout who (commands.Soft frame) banks collects j = BeginsSoft layout who frame j
Begins layout who (commands.Unpoison frame) banks collects j = BeginsUnpoison layout who frame j

-- a store of a word through a translation, by a thread, which first copies the page of another translation of the thread's process
pub record BeginsCopying (layout : Layout) (who : Who) (thread : Thread) (slot : VSlot) (line word : ℕ) (from : VSlot) (banks : Banks) (collects : Bool) (j : Job) : Type 0 where
  pub sound : IsSound layout
  pub three : length banks ≡ bank_count
  pub page : Page
  pub process : Proc
  pub names : accesses.IsDeclared layout (request_of who thread slot line (kinds.Store word) page process)
  pub copied : Page
  pub own : accesses.IsDeclared layout (copyings.load_of (request_of who thread slot line (kinds.Store word) page process) copied from 0)
  pub alloc : Global
  pub job_is : j ≡ jobs.Copying (copyings.begin alloc (request_of who thread slot line (kinds.Store word) page process) word from copied banks collects)

-- no other command copies
abbrev pub BeginsCopy : Layout → Who → Command → VSlot → Banks → Bool → Job → Type 0
BeginsCopy layout who (commands.Store thread slot line word) from banks collects j = BeginsCopying layout who thread slot line word from banks collects j
BeginsCopy layout who _ from banks collects j = ⊥

-- the same of a command that copies from the translation, where there is one
abbrev pub BeginsAs : Layout → Who → Command → Option VSlot → Banks → Bool → Job → Type 0
BeginsAs layout who command None banks collects j = Begins layout who command banks collects j
BeginsAs layout who command (Some from) banks collects j = BeginsCopy layout who command from banks collects j

-- a store may copy from a translation of its thread's process
abbrev pub CanCopyFrom : Layout → ℕ → Command → VSlot → Type 0
CanCopyFrom layout cpu (commands.Store thread slot line word) from = IsAccess layout cpu thread from
CanCopyFrom layout cpu _ from = ⊥

abbrev pub CanCopy : Layout → ℕ → Command → Option VSlot → Type 0
CanCopy layout cpu command None = Unit {0}
CanCopy layout cpu command (Some from) = CanCopyFrom layout cpu command from

-- an access that its guest doesn't admit, for this reason, by a thread of the processor; it would have copied from the translation, where there
-- is one
pub record IsDenied (layout : Layout) (who : Who) (command : Command) (copies : Option VSlot) (why : Denial) (j : Job) : Type 0 where
  pub sound : IsSound layout
  pub named : IsCommandOf layout who.cpu.0 command
  pub can_copy : CanCopy layout who.cpu.0 command copies
  pub at : Access
  pub access : access_of command ≡ Some at
  pub process : Proc
  pub process_is : process_of_thread layout at.thread ≡ Some process
  pub within : process.0 < layout.procs
  pub job_is : j ≡ jobs.Denied (denieds.begin who process why)

-- from wherever it would have copied
abbrev pub IsDeniedAnyhow : Layout → Who → Command → Denial → Job → Type 0
IsDeniedAnyhow layout who command why j = (copies : Option VSlot) → CanCopy layout who.cpu.0 command copies → IsDenied layout who command copies why j

-- and of one that its guest admits so, or doesn't
abbrev pub BeginsWith : Layout → Who → Command → Option VSlot → Admit → Banks → Bool → Job → Type 0
BeginsWith layout who command copies admissions.Yes banks collects j = BeginsAs layout who command copies banks collects j
BeginsWith layout who command copies admissions.Bad banks collects j = IsDenied layout who command copies denials.BadFrame j
BeginsWith layout who command copies admissions.Stopped banks collects j = IsDenied layout who command copies denials.Stopped j

-- only an access can be denied
abbrev pub CanDeny : Command → Admit → Type 0
CanDeny command admissions.Yes = Unit {0}
CanDeny command _ = IsSome (access_of command)
