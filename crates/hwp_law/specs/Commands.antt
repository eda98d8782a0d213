-- What commands are: which access, in which thread and process, and in which state of the processor their machine checks come.
use Rattle.std.specs.Prelude.{ℕ, Bool, true, false, List, Option, Some, None, slice_get, slice_index_or, option_and_then, option_map}
use Rattle.std.specs.List.{list_any}
use Rattle.hwp_script_words.specs.hwp_geom.declared.Frame.{Frame}
use Rattle.hwp_script_words.specs.hwp_geom.declared.Layout.{Layout}
use Rattle.hwp_script_words.specs.hwp_geom.declared.Mode.{Mode}
use Rattle.hwp_script_words.specs.hwp_geom.declared.Mode.TheVariants as modes
use Rattle.hwp_script_words.specs.hwp_geom.declared.Proc.{Proc}
use Rattle.hwp_script_words.specs.hwp_geom.declared.Thread.{Thread}
use Rattle.hwp_script_words.specs.hwp_geom.declared.ThreadDecl.{ThreadDecl}
use Rattle.hwp_script_words.specs.hwp_geom.declared.VSlot.{VSlot}
use Rattle.hwp_script_words.specs.hwp_geom.declared.Who.{Who}
use Rattle.hwp_script_words.specs.declared.Command.{Command}
use Rattle.hwp_script_words.specs.declared.Command.TheVariants as commands
use Rattle.hwp_script_words.specs.declared.Script.{Script}
use Rattle.hwp_report_text.specs.hwp_page.declared.What.{What}
use Rattle.hwp_report_text.specs.hwp_page.declared.What.TheVariants as entries
use Rattle.hwp_report_text.specs.hwp_severity.declared.Arrival.{Arrival}

-- the command of a processor with a number
abbrev pub command_at : Script → Who → Option Command
command_at script who = option_and_then (λ (list : List Command). slice_get list who.seq) (slice_get script.lists who.cpu.0)

-- an access: its thread, the translation and the line
pub record Access : Type 0 where
  pub thread : Thread
  pub slot : VSlot
  pub line : ℕ

abbrev pub access : Thread → VSlot → ℕ → Access
access thread slot line = record { thread = thread; slot = slot; line = line }

abbrev pub access_of : Command → Option Access
access_of (commands.Load thread slot line) = Some (access thread slot line)
access_of (commands.Fetch thread slot line) = Some (access thread slot line)
access_of (commands.KLoad thread slot line) = Some (access thread slot line)
access_of (commands.Store thread slot line word) = Some (access thread slot line)
access_of _ = None

-- the entry is a machine check of an access
abbrev pub is_check : What → Bool
is_check (entries.Mce slot line mask) = true
is_check _ = false

-- the thread that a command's machine check comes in
abbrev pub current_thread : Command → Option Thread
current_thread (commands.RaiseUser thread ripv eipv) = Some thread
current_thread command = option_map (λ (a : Access). a.thread) (access_of command)

-- the thread that makes the command: it no longer does when its process has ended
abbrev pub thread_of : Command → Option Thread
thread_of (commands.Prctl thread args) = Some thread
thread_of (commands.Fork thread process) = Some thread
thread_of command = current_thread command

-- the process of a thread
abbrev pub process_of_thread : Layout → Thread → Option Proc
process_of_thread layout thread = option_map (λ (t : ThreadDecl). t.process) (slice_get layout.threads thread.0)

-- the process whose thread makes the command with this number
abbrev pub process_at : Script → Who → Option Proc
process_at script who = option_and_then (process_of_thread script.layout) (option_and_then thread_of (command_at script who))

-- the command can have a memory failure
abbrev pub can_fail : Command → Bool
can_fail (commands.Inject frame) = true
can_fail (commands.Scrub first last) = true
can_fail (commands.RaiseUser thread ripv eipv) = true
can_fail (commands.RaiseKernel ripv eipv) = true
can_fail (commands.Load thread slot line) = true
can_fail (commands.Fetch thread slot line) = true
can_fail (commands.KLoad thread slot line) = true
can_fail (commands.Store thread slot line word) = true
can_fail _ = false

-- the command can take frames out of use beside its answer: each that can have a memory failure, but for `inject`
abbrev pub can_offline : Command → Bool
can_offline (commands.Inject frame) = false
can_offline command = can_fail command

-- the command gives its processor a collector of corrected errors
abbrev pub is_watch : Command → Bool
is_watch (commands.Watch threshold window) = true
is_watch _ = false

-- a processor of the script has such a command
abbrev pub has_watch : Script → Bool
has_watch script = list_any (list_any is_watch) script.lists

-- the command forks a process
abbrev pub is_fork : Command → Bool
is_fork (commands.Fork thread process) = true
is_fork _ = false

-- a processor of the script has such a command
abbrev pub has_fork : Script → Bool
has_fork script = list_any (list_any is_fork) script.lists

-- RIPV and EIPV of IA32_MCG_STATUS, and the mode of the processor
abbrev pub arrival : Bool → Bool → Mode → Arrival
arrival ripv eipv mode = record { mcg = record { ripv = ripv; eipv = eipv }; mode = mode }

-- how the machine checks of a command arrive: an access by a thread can be started again
abbrev pub arrival_of : Command → Arrival
arrival_of (commands.KLoad thread slot line) = arrival true true modes.Kernel
arrival_of (commands.Scrub first last) = arrival true true modes.Kernel
arrival_of (commands.RaiseUser thread ripv eipv) = arrival ripv eipv modes.User
arrival_of (commands.RaiseKernel ripv eipv) = arrival ripv eipv modes.Kernel
arrival_of _ = arrival true true modes.User

-- the frame is the kernel's own
abbrev pub is_kernels : Layout → Frame → Bool
is_kernels layout frame = slice_index_or layout.kernel frame.0 false
