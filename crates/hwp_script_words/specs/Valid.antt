-- What every script has that some text gives.
use Rattle.std.specs.Prelude.{◌≡◌, ◌≢◌, ℕ, Bool, true, false, ◌<◌, ◌≤◌, ◌+◌, ◌^◌, length, take, sum_by, count_by, All, IsSomeAnd, slice_get, Option, Some, None, List, [], ◌∷◌}
use Rattle.hwp_geom.specs.Layout.{IsSound, has_twin, is_guest, is_twin, twin_of}
use Rattle.hwp_geom.specs.Limits.{line_limit, command_limit}
use Rattle.hwp_geom.specs.declared.Layout.{Layout}
use Rattle.hwp_geom.specs.declared.Proc.{Proc}
use Rattle.hwp_geom.specs.declared.Thread.{Thread}
use Rattle.hwp_geom.specs.declared.VSlot.{VSlot}
use Rattle.hwp_geom.specs.declared.Version.TheVariants as versions
use Rattle.hwp_geom.specs.declared.ThreadDecl.{ThreadDecl}
use Rattle.hwp_geom.specs.declared.TransDecl.{TransDecl}
use Rattle.hwp_geom.specs.declared.PageKind.{PageKind}
use Rattle.hwp_geom.specs.declared.PageKind.TheVariants as kinds
use Rattle.hwp_script_words.specs.declared.script.Script.{Script}
use Rattle.hwp_script_words.specs.Commands.{IsCollectorWithin, IsNewer}
use Rattle.hwp_script_words.specs.declared.command.Go.{Go}
use Rattle.hwp_script_words.specs.declared.command.Command.{Command}
use Rattle.hwp_script_words.specs.declared.command.Command.TheVariants as commands
use Rattle.hwp_script_words.specs.Forks.{has_shared_page, is_fork_of, is_wrong_fork, names_twin}
use Rattle.hwp_script_words.specs.Guests.{cannot_be_guest}
use Rattle.hwp_script_words.specs.Limits.{schedule_limit}

-- a thread of the processor
abbrev pub IsThreadOf : Layout → ℕ → Thread → Type 0
IsThreadOf layout cpu thread = IsSomeAnd (slice_get layout.threads thread.0) (λ (t : ThreadDecl). t.cpu.0 ≡ cpu)

-- a thread of the processor accesses memory through a translation of the thread's own process
abbrev pub IsAccess : Layout → ℕ → Thread → VSlot → Type 0
IsAccess layout cpu thread slot =
    IsSomeAnd (slice_get layout.threads thread.0) (λ (t : ThreadDecl). (t.cpu.0 ≡ cpu)
    × IsSomeAnd (slice_get layout.trans slot.0) (λ (v : TransDecl). v.process ≡ t.process))

-- something stands behind a page: a file
abbrev pub IsFile : PageKind → Type 0
IsFile kinds.Anon = ⊥
IsFile (kinds.File file fill) = Unit {0}

-- nothing stands behind a page
abbrev pub IsAnon : PageKind → Type 0
IsAnon kinds.Anon = Unit {0}
IsAnon (kinds.File file fill) = ⊥

-- the names of a command of the processor are declared, and fit one another; the numbers of a collector are within their ranges
abbrev pub IsCommandOf : Layout → ℕ → Command → Type 0
IsCommandOf layout cpu (commands.Load thread slot line) = IsAccess layout cpu thread slot × (line < line_limit)
IsCommandOf layout cpu (commands.Fetch thread slot line) = IsAccess layout cpu thread slot × (line < line_limit)
IsCommandOf layout cpu (commands.KLoad thread slot line) = IsAccess layout cpu thread slot × (line < line_limit)
IsCommandOf layout cpu (commands.Store thread slot line word) = IsAccess layout cpu thread slot × (line < line_limit)
IsCommandOf layout cpu (commands.Free slot) = slot.0 < length layout.trans
IsCommandOf layout cpu (commands.Drop page) = page.0 < length layout.pages
IsCommandOf layout cpu (commands.Sync page) = IsSomeAnd (slice_get layout.pages page.0) IsFile
IsCommandOf layout cpu (commands.Out page) = IsSomeAnd (slice_get layout.pages page.0) IsAnon
IsCommandOf layout cpu (commands.Fsync file) = file.0 < layout.files
IsCommandOf layout cpu (commands.Open file) = file.0 < layout.files
IsCommandOf layout cpu (commands.Prctl thread args) = IsThreadOf layout cpu thread
IsCommandOf layout cpu (commands.Bad frame line) = (frame.0 < layout.frames) × (line < line_limit)
IsCommandOf layout cpu (commands.Weak frame line) = (frame.0 < layout.frames) × (line < line_limit)
IsCommandOf layout cpu (commands.Scrub first last) = (first.0 ≤ last.0) × (last.0 < layout.frames)
IsCommandOf layout cpu (commands.Log status addr misc) = Unit {0}
IsCommandOf layout cpu (commands.RaiseUser thread ripv eipv) = IsThreadOf layout cpu thread
IsCommandOf layout cpu (commands.RaiseKernel ripv eipv) = Unit {0}
IsCommandOf layout cpu commands.RaiseNested = Unit {0}
IsCommandOf layout cpu (commands.Inject frame) = frame.0 < layout.frames
IsCommandOf layout cpu (commands.Soft frame) = frame.0 < layout.frames
IsCommandOf layout cpu (commands.Unpoison frame) = frame.0 < layout.frames
IsCommandOf layout cpu (commands.Watch threshold window) = IsCollectorWithin threshold window
IsCommandOf layout cpu (commands.Fork thread process) = IsThreadOf layout cpu thread × (process.0 < layout.procs)

-- the lists from processor number `cpu` on have commands of their processors
abbrev pub AreLists : Layout → ℕ → List (List Command) → Type 0
AreLists layout cpu [] = Unit {0}
AreLists layout cpu (list ∷ lists) = All (IsCommandOf layout cpu) list × AreLists layout (cpu + 1) lists

-- the words of a command that no declaration bounds are of 64 bits
abbrev pub HasWords : Command → Type 0
HasWords (commands.Store thread slot line word) = word < 2 ^ 64
HasWords (commands.Prctl thread args) = (args.operation < 2 ^ 64) × (args.arg2 < 2 ^ 64) × (args.arg3 < 2 ^ 64) × (args.arg4 < 2 ^ 64) × (args.arg5 < 2 ^ 64)
HasWords (commands.Log status addr misc) = (status < 2 ^ 64) × (addr < 2 ^ 64) × (misc < 2 ^ 64)
HasWords command = Unit {0}

-- the words of a file's page are of 64 bits
abbrev pub HasFill : PageKind → Type 0
HasFill kinds.Anon = Unit {0}
HasFill (kinds.File file fill) = fill < 2 ^ 64

-- two translations are of one process, and lead to two pages that have nothing behind them
abbrev pub ArePaired : Layout → VSlot → VSlot → Type 0
ArePaired layout slot twin =
    IsSomeAnd (slice_get layout.trans slot.0) (λ (v : TransDecl). IsSomeAnd (slice_get layout.trans twin.0) (λ (w : TransDecl).
    (v.process ≡ w.process) × (v.page.0 ≢ w.page.0) × IsSomeAnd (slice_get layout.pages v.page.0) IsAnon × IsSomeAnd (slice_get layout.pages w.page.0) IsAnon))

-- a translation may have this twin: no other translation leads to the twin's page, and neither has the twin one, nor is the translation one
pub record IsTwinFit (layout : Layout) (slot twin : VSlot) : Type 0 where
  pub paired : ArePaired layout slot twin
  pub alone : has_shared_page layout twin ≡ false
  pub no_twin : is_twin layout slot ≡ false
  pub last : has_twin layout twin ≡ false

-- each translation may have the twin that it has, and no two have the same
pub record AreTwinsFit (layout : Layout) : Type 0 where
  pub each : (slot twin : VSlot) → twin_of layout slot ≡ Some twin → IsTwinFit layout slot twin
  pub one : (slot other twin : VSlot) → twin_of layout slot ≡ Some twin → twin_of layout other ≡ Some twin → slot ≡ other

-- all threads of a guest run on one processor, and each has a handler
pub record AreGuestsFit (layout : Layout) : Type 0 where
  pub each : (process : Proc) → is_guest layout process ≡ true → cannot_be_guest layout.threads process.0 ≡ false

-- the command names no twin as its translation
abbrev pub NamesNoTwin : Layout → Command → Type 0
NamesNoTwin layout command = names_twin layout command ≡ false

-- each fork in the list of the processor may stand behind the commands before it
abbrev pub AreForksFit : Layout → ℕ → List Command → Type 0
AreForksFit layout cpu list = (n : ℕ) (command : Command) → slice_get list n ≡ Some command → is_wrong_fork layout cpu (take n list) command ≡ false

-- of all commands of the lists one at most is a fork of the process
abbrev pub IsEachForkedOnce : List (List Command) → Type 0
IsEachForkedOnce lists = (process : ℕ) → sum_by (count_by (is_fork_of process)) lists ≤ 1

-- no page is locked, no translation has a twin, no process is a guest, and no command is one that version Two alone has
pub record IsOlder (script : Script) : Type 0 where
  pub unlocked : All (λ (l : Bool). l ≡ false) script.layout.locked
  pub untwinned : All (λ (t : Option VSlot). t ≡ None) script.layout.twins
  pub unguested : All (λ (g : Bool). g ≡ false) script.layout.guests
  pub commands : All (All (λ (c : Command). IsNewer c → ⊥)) script.lists

-- a script that some text gives: in version One it has no `open`, no `watch`, no `fork`, no locked page, no twin and no guest; its layout
-- is sound, it has a list of each processor's commands, and a schedule of its processors; its twins are private, each fork may stand where
-- it does, and its guests run on one processor each
pub record IsValid (script : Script) : Type 0 where
  pub older : script.layout.version ≡ versions.One → IsOlder script
  pub sound : IsSound script.layout
  pub one_each : length script.lists ≡ script.layout.cpus
  pub lists : AreLists script.layout 0 script.lists
  pub few : sum_by length script.lists ≤ command_limit
  pub go : All (λ (g : Go). g.cpu.0 < script.layout.cpus) script.go
  pub few_go : length script.go ≤ schedule_limit
  pub fills : All HasFill script.layout.pages
  pub words : All (All HasWords) script.lists
  pub twins : AreTwinsFit script.layout
  pub guests : AreGuestsFit script.layout
  pub own : All (All (NamesNoTwin script.layout)) script.lists
  pub forks : (cpu : ℕ) (list : List Command) → slice_get script.lists cpu ≡ Some list → AreForksFit script.layout cpu list
  pub once : IsEachForkedOnce script.lists
