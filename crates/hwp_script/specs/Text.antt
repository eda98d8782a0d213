-- The one text of a script.
use Rattle.std.specs.Prelude.{ℕ, ◌+◌, ◌*◌, ◌/◌, ◌++◌, Bool, true, false, List, [], ◌∷◌, length, get_or, map, take, drop, Option, None, Some}
use Rattle.std.specs.List.{range_with_len}
use Rattle.hwp_script_read.specs.hwp_geom.declared.Version.{Version}
use Rattle.hwp_script_read.specs.hwp_geom.declared.PageKind.{PageKind}
use Rattle.hwp_script_read.specs.hwp_geom.declared.ThreadDecl.{ThreadDecl}
use Rattle.hwp_script_read.specs.hwp_geom.declared.TransDecl.{TransDecl}
use Rattle.hwp_script_read.specs.hwp_geom.declared.VSlot.{VSlot}
use Rattle.hwp_script_read.specs.hwp_geom.declared.PageKind.TheVariants as kinds
use Rattle.hwp_script_read.specs.hwp_script_lines.Grammar.{bit}
use Rattle.hwp_script.specs.Printed.{forms_text}
use Rattle.hwp_script_read.specs.hwp_script_lines.declared.ScriptLine.{ScriptLine}
use Rattle.hwp_script_read.specs.hwp_script_lines.declared.Command.{Command}
use Rattle.hwp_script_read.specs.hwp_script_lines.declared.Backing.{Backing}
use Rattle.hwp_script_read.specs.hwp_script_lines.declared.Go.{Go}
use Rattle.hwp_script_read.specs.hwp_script_lines.declared.ScriptLine.TheVariants as forms
use Rattle.hwp_script_read.specs.hwp_script_lines.declared.Backing.TheVariants as backings
use Rattle.hwp_script_read.specs.declared.Script.{Script}

-- what stands behind a page, with its numbers
abbrev pub backing_of : PageKind → Backing
backing_of kinds.Anon = backings.Anon
backing_of (kinds.File n x) = backings.File n.0 x

-- the lines of each item of a list, with its number, counted from n
abbrev pub numbered : {A : Type 0} → (ℕ → A → List ScriptLine) → ℕ → List A → List ScriptLine
numbered forms_of n [] = []
numbered forms_of n (x ∷ xs) = forms_of n x ++ numbered forms_of (n + 1) xs

-- a line for each number below n
abbrev pub counted : (ℕ → ScriptLine) → ℕ → List ScriptLine
counted form_of n = map form_of (range_with_len 0 n)

-- the header, and the numbers of processors and frames
abbrev pub head_forms : Version → ℕ → ℕ → List ScriptLine
head_forms version cpus frames = forms.Header version ∷ forms.Cpus cpus ∷ forms.Frames frames ∷ []

-- a line for a frame of the kernel
abbrev pub kernel_forms : ℕ → Bool → List ScriptLine
kernel_forms n true = forms.Kernel n ∷ []
kernel_forms n false = []

-- both settings
abbrev pub setting_forms : Bool → Bool → List ScriptLine
setting_forms recovery early = forms.Recovery (bit recovery) ∷ forms.Early (bit early) ∷ []

-- a file
abbrev pub file_form : ℕ → ScriptLine
file_form n = forms.File n

-- a process
abbrev pub proc_form : ℕ → ScriptLine
proc_form n = forms.Proc n

-- a thread
abbrev pub thread_forms : ℕ → ThreadDecl → List ScriptLine
thread_forms n t = forms.Thread n t.process.0 t.cpu.0 t.handler ∷ []

-- the line of a guest
abbrev pub guest_forms : ℕ → Bool → List ScriptLine
guest_forms n true = forms.Guest n ∷ []
guest_forms n false = []

-- a page, locked if the list of locked pages says so
abbrev pub page_forms : List Bool → ℕ → PageKind → List ScriptLine
page_forms locked n kind = forms.Page n (backing_of kind) (get_or locked n false) ∷ []

-- a translation
abbrev pub trans_forms : ℕ → TransDecl → List ScriptLine
trans_forms n t = forms.Trans n t.process.0 t.page.0 ∷ []

-- the twin of a translation, if it has one
abbrev pub cow_forms : ℕ → Option VSlot → List ScriptLine
cow_forms n None = []
cow_forms n (Some twin) = forms.Cow n twin.0 ∷ []

-- a processor and its commands
abbrev pub list_forms : ℕ → List Command → List ScriptLine
list_forms n cmds = forms.Cpu n ∷ map forms.Command cmds

-- how many lines a schedule of n words has: 50 words stand on a line
abbrev pub rows_of : ℕ → ℕ
rows_of n = (n + 49) / 50

-- a line of the schedule
abbrev pub go_row : List Go → ℕ → ScriptLine
go_row go i = forms.Schedule (take 50 (drop (i * 50) go))

-- the lines of a script, in the order of their groups
abbrev pub script_forms : Script → List ScriptLine
script_forms s =
    head_forms s.layout.version s.layout.cpus s.layout.frames
    ++ numbered kernel_forms 0 s.layout.kernel
    ++ setting_forms s.layout.recovery s.layout.early
    ++ counted file_form s.layout.files
    ++ counted proc_form s.layout.procs
    ++ numbered thread_forms 0 s.layout.threads
    ++ numbered guest_forms 0 s.layout.guests
    ++ numbered (page_forms s.layout.locked) 0 s.layout.pages
    ++ numbered trans_forms 0 s.layout.trans
    ++ numbered cow_forms 0 s.layout.twins
    ++ numbered list_forms 0 s.lists
    ++ counted (go_row s.go) (rows_of (length s.go))
    ++ forms.End ∷ []

-- the text of a script
abbrev pub script_text : Script → List ℕ
script_text s = forms_text (script_forms s)
