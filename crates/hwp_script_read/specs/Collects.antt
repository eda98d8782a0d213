-- From the lines of a script to the script.
use Rattle.std.specs.Prelude.{◌≡◌, ℕ, ◌-◌, ◌==◌, ◌++◌, ◌↔◌, true, false, if◌then◌else◌, length, map, get_or, slice_get, option_to_list, Contains, Option, Some, None, List, [], ◌∷◌}
use Rattle.std.specs.List.{range_with_len, slice_set}
use Rattle.std.specs.Option.{unwrap_or}
use Rattle.hwp_script_lines.specs.declared.Script.{Script}
use Rattle.hwp_script_lines.specs.declared.Command.{Command}
use Rattle.hwp_script_lines.specs.declared.ScriptLine.{ScriptLine}
use Rattle.hwp_script_lines.specs.declared.ScriptLine.TheVariants as forms
use Rattle.hwp_script_read.specs.Context.{command_of, place_after, version_in, cpus_in, frames_in, kernel_in, recovery_in, early_in, files_in, procs_in, threads_in, pages_in, locked_in, trans_in, twins_in, guests_in, go_in}

-- the command that a line is, if it stands in the list of processor c
abbrev pub command_at : Option ℕ → ℕ → ScriptLine → Option Command
command_at None c f = None
command_at (Some place) c f = if place == c then command_of f else None

-- the commands of processor c among lines, the first of which stands in the list of the processor `place`, if in any
abbrev pub commands_from : Option ℕ → ℕ → List ScriptLine → List Command
commands_from place c [] = []
commands_from place c (f ∷ fs) = option_to_list (command_at place c f) ++ commands_from (place_after place f) c fs

-- the commands of processor c: those between its `cpu` line and the next one, the schedule, or `end`
abbrev pub commands_of : List ScriptLine → ℕ → List Command
commands_of fs c = commands_from None c fs

-- the lists with one more command of processor `place`, if it stands in a list
abbrev pub push_in : Option ℕ → Command → List (List Command) → List (List Command)
push_in None command lists = lists
push_in (Some place) command lists = slice_set lists place (get_or lists place [] ++ command ∷ [])

-- the last line is `end`
abbrev pub IsEnded : List ScriptLine → Type 0
IsEnded fs = slice_get fs (length fs - 1) ≡ Some forms.End

-- the script that the lines give: `recovery` is on and `early` off where no line says otherwise
pub record Collects (fs : List ScriptLine) (s : Script) : Type 0 where
  pub version : s.layout.version ≡ version_in fs
  pub cpus : s.layout.cpus ≡ cpus_in fs
  pub frames : s.layout.frames ≡ frames_in fs
  pub marks : length s.layout.kernel ≡ frames_in fs
  pub kernel : (frame : ℕ) → (slice_get s.layout.kernel frame ≡ Some true) ↔ Contains (kernel_in fs) frame
  pub recovery : s.layout.recovery ≡ unwrap_or (recovery_in fs) true
  pub early : s.layout.early ≡ unwrap_or (early_in fs) false
  pub files : s.layout.files ≡ files_in fs
  pub procs : s.layout.procs ≡ procs_in fs
  pub threads : s.layout.threads ≡ threads_in fs
  pub pages : s.layout.pages ≡ pages_in fs
  pub trans : s.layout.trans ≡ trans_in fs
  pub locked : s.layout.locked ≡ locked_in fs
  pub twins : s.layout.twins ≡ twins_in fs
  pub guests : s.layout.guests ≡ guests_in fs
  pub lists : s.lists ≡ map (commands_of fs) (range_with_len 0 (cpus_in fs))
  pub go : s.go ≡ go_in fs
