-- What the lines above a line declare.
use Rattle.std.specs.Prelude.{ℕ, ◌==◌, ◌++◌, Bool, true, false, max, length, sum, fold, filter_map, flat_map, slice_get, Option, Some, None, List, [], ◌∷◌}
use Rattle.std.specs.List.{slice_set, list_any}
use Rattle.hwp_script_lines.specs.hwp_geom.declared.Layout.{Layout}
use Rattle.hwp_script_lines.specs.hwp_geom.declared.Proc.{Proc}
use Rattle.hwp_script_lines.specs.hwp_geom.declared.VSlot.{VSlot}
use Rattle.hwp_script_lines.specs.hwp_geom.declared.ThreadDecl.{ThreadDecl}
use Rattle.hwp_script_lines.specs.hwp_geom.declared.TransDecl.{TransDecl}
use Rattle.hwp_script_lines.specs.hwp_geom.declared.PageKind.{PageKind}
use Rattle.hwp_script_lines.specs.hwp_geom.declared.PageKind.TheVariants as kinds
use Rattle.hwp_script_lines.specs.hwp_geom.declared.Version.{Version}
use Rattle.hwp_script_lines.specs.hwp_geom.declared.Version.TheVariants as versions
use Rattle.hwp_script_lines.specs.declared.ScriptLine.{ScriptLine}
use Rattle.hwp_script_lines.specs.declared.ScriptLine.TheVariants as forms
use Rattle.hwp_script_lines.specs.declared.Backing.{Backing}
use Rattle.hwp_script_lines.specs.declared.Backing.TheVariants as backings
use Rattle.hwp_script_lines.specs.declared.Go.{Go}
use Rattle.hwp_script_lines.specs.declared.Command.{Command}
use Rattle.hwp_script_lines.specs.declared.Command.TheVariants as commands
use Rattle.hwp_script_lines.specs.hwp_script_words.Forks.{is_fork_of}

-- the number of processors that a line declares
abbrev pub cpus_of : ScriptLine → Option ℕ
cpus_of (forms.Cpus n) = Some n
cpus_of f = None

-- the number of frames that a line declares
abbrev pub frames_of : ScriptLine → Option ℕ
frames_of (forms.Frames n) = Some n
frames_of f = None

-- the frame that a line gives to the kernel
abbrev pub kernel_of : ScriptLine → Option ℕ
kernel_of (forms.Kernel f) = Some f
kernel_of f = None

-- the setting `vm.memory_failure_recovery` that a line gives
abbrev pub recovery_of : ScriptLine → Option Bool
recovery_of (forms.Recovery b) = Some (b == 1)
recovery_of f = None

-- the setting `vm.memory_failure_early_kill` that a line gives
abbrev pub early_of : ScriptLine → Option Bool
early_of (forms.Early b) = Some (b == 1)
early_of f = None

-- the file that a line declares
abbrev pub file_of : ScriptLine → Option ℕ
file_of (forms.File n) = Some n
file_of f = None

-- the process that a line declares
abbrev pub proc_of : ScriptLine → Option ℕ
proc_of (forms.Proc p) = Some p
proc_of f = None

-- the thread that a line declares
abbrev pub thread_of : ScriptLine → Option ThreadDecl
thread_of (forms.Thread t p c h) = Some (record { process = record { 0 = p }; cpu = record { 0 = c }; handler = h })
thread_of f = None

-- what stands behind a page
abbrev pub kind_of : Backing → PageKind
kind_of backings.Anon = kinds.Anon
kind_of (backings.File n x) = kinds.File (record { 0 = n }) x

-- the page that a line declares
abbrev pub page_of : ScriptLine → Option PageKind
page_of (forms.Page q b locked) = Some (kind_of b)
page_of f = None

-- whether the page that a line declares is locked
abbrev pub locked_of : ScriptLine → Option Bool
locked_of (forms.Page q b locked) = Some locked
locked_of f = None

-- the translation that a line declares
abbrev pub trans_of : ScriptLine → Option TransDecl
trans_of (forms.Trans v p q) = Some (record { process = record { 0 = p }; page = record { 0 = q } })
trans_of f = None

-- the processor whose list a line begins
abbrev pub cpu_of : ScriptLine → Option ℕ
cpu_of (forms.Cpu c) = Some c
cpu_of f = None

-- the command that a line is
abbrev pub command_of : ScriptLine → Option Command
command_of (forms.Command c) = Some c
command_of f = None

-- the words of the schedule that a line has
abbrev pub words_of : ScriptLine → List Go
words_of (forms.Schedule ws) = ws
words_of f = []

-- the version after a line, from that before it
abbrev pub version_after : Version → ScriptLine → Version
version_after at (forms.Header v) = v
version_after at f = at

-- the version of the script: that of its header, and One where there is none
abbrev pub version_in : List ScriptLine → Version
version_in above = fold version_after versions.One above

-- the number of processors: 0 before its line, which stands once
abbrev pub cpus_in : List ScriptLine → ℕ
cpus_in above = sum (filter_map cpus_of above)

-- the number of frames: 0 before its line, which stands once
abbrev pub frames_in : List ScriptLine → ℕ
frames_in above = sum (filter_map frames_of above)

-- the frames of the kernel
abbrev pub kernel_in : List ScriptLine → List ℕ
kernel_in above = filter_map kernel_of above

-- the setting `vm.memory_failure_recovery`, if its line is there, which stands at most once
abbrev pub recovery_in : List ScriptLine → Option Bool
recovery_in above = slice_get (filter_map recovery_of above) 0

-- the setting `vm.memory_failure_early_kill`, if its line is there, which stands at most once
abbrev pub early_in : List ScriptLine → Option Bool
early_in above = slice_get (filter_map early_of above) 0

-- the number of files
abbrev pub files_in : List ScriptLine → ℕ
files_in above = length (filter_map file_of above)

-- the number of processes
abbrev pub procs_in : List ScriptLine → ℕ
procs_in above = length (filter_map proc_of above)

-- the threads, by their numbers
abbrev pub threads_in : List ScriptLine → List ThreadDecl
threads_in above = filter_map thread_of above

-- the pages, by their numbers
abbrev pub pages_in : List ScriptLine → List PageKind
pages_in above = filter_map page_of above

-- for each page, whether it is locked
abbrev pub locked_in : List ScriptLine → List Bool
locked_in above = filter_map locked_of above

-- the translations, by their numbers
abbrev pub trans_in : List ScriptLine → List TransDecl
trans_in above = filter_map trans_of above

-- the translation of this number
abbrev pub slot_of : ℕ → VSlot
slot_of slot = record { 0 = slot }

-- for each translation its twin, after a line, from those before it: at first it has none
abbrev pub twins_after : List (Option VSlot) → ScriptLine → List (Option VSlot)
twins_after twins (forms.Trans v p q) = twins ++ None ∷ []
twins_after twins (forms.Cow v w) = slice_set twins v (Some (slot_of w))
twins_after twins f = twins

-- for each translation its twin, by their numbers
abbrev pub twins_in : List ScriptLine → List (Option VSlot)
twins_in above = fold twins_after [] above

-- the process of this number
abbrev pub process_of : ℕ → Proc
process_of process = record { 0 = process }

-- for each process whether it is a guest, after a line, from those before it: at first it is none
abbrev pub guests_after : List Bool → ScriptLine → List Bool
guests_after guests (forms.Proc p) = guests ++ false ∷ []
guests_after guests (forms.Guest p) = slice_set guests p true
guests_after guests f = guests

-- for each process whether it is a guest, by their numbers
abbrev pub guests_in : List ScriptLine → List Bool
guests_in above = fold guests_after [] above

-- the names that lines declare, as a layout; of the settings and of the kernel's frames it says nothing
abbrev pub names_in : List ScriptLine → Layout
names_in above = record {
  version = version_in above;
  cpus = cpus_in above;
  frames = frames_in above;
  kernel = [];
  recovery = true;
  early = false;
  files = files_in above;
  procs = procs_in above;
  threads = threads_in above;
  pages = pages_in above;
  trans = trans_in above;
  locked = locked_in above;
  twins = twins_in above;
  guests = guests_in above;
}

-- the processors whose lists have begun
abbrev pub lists_in : List ScriptLine → List ℕ
lists_in above = filter_map cpu_of above

-- the number of commands
abbrev pub commands_in : List ScriptLine → ℕ
commands_in above = length (filter_map command_of above)

-- the words of the schedule
abbrev pub go_in : List ScriptLine → List Go
go_in above = flat_map words_of above

-- the processor in whose list the lines after a line stand, from that before it
abbrev pub place_after : Option ℕ → ScriptLine → Option ℕ
place_after at (forms.Cpu c) = Some c
place_after at (forms.Schedule ws) = None
place_after at forms.End = None
place_after at f = at

-- the processor in whose list the next line stands
abbrev pub place_in : List ScriptLine → Option ℕ
place_in above = fold place_after None above

-- the group of a kind of line: groups stand in rising order
abbrev pub group : ScriptLine → ℕ
group (forms.Header v) = 0
group (forms.Cpus n) = 1
group (forms.Frames n) = 2
group (forms.Kernel f) = 3
group (forms.Recovery b) = 4
group (forms.Early b) = 5
group (forms.File n) = 6
group (forms.Proc p) = 7
group (forms.Thread t p c h) = 8
group (forms.Guest p) = 9
group (forms.Page q b locked) = 10
group (forms.Trans v p q) = 11
group (forms.Cow v w) = 12
group (forms.Cpu c) = 13
group (forms.Command c) = 13
group (forms.Schedule ws) = 14
group forms.End = 15

-- the highest group
abbrev pub highest : List ScriptLine → ℕ
highest [] = 0
highest (f ∷ fs) = max (group f) (highest fs)

-- whether a line is a fork of the process
abbrev pub forks : ℕ → ScriptLine → Bool
forks process (forms.Command c) = is_fork_of process c
forks process f = false

-- whether one of the lines forked the process that the command forks
abbrev pub is_again : List ScriptLine → Command → Bool
is_again above (commands.Fork t p) = list_any (forks p.0) above
is_again above c = false
