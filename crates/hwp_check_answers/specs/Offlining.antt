-- The lines of frames that commands took out of use: whether each is due at its place, and whether none lacks.
use Rattle.std.specs.Prelude.{◌≡◌, ◌⊎◌, ℕ, ◌+◌, ◌<◌, ◌≤◌, true, List, Option, Some, MatchOption, length, slice_get}
use Rattle.std.specs.List.{list_any}
use Rattle.hwp_check_evidence.specs.hwp_geom.declared.Cpu.{Cpu}
use Rattle.hwp_check_evidence.specs.hwp_script_words.declared.Command.{Command}
use Rattle.hwp_check_evidence.specs.hwp_script_words.declared.Script.{Script}
use Rattle.hwp_check_evidence.specs.hwp_report_text.declared.CpuLine.{CpuLine}
use Rattle.hwp_check_evidence.specs.hwp_report_text.declared.CpuLine.TheVariants as lines
use Rattle.hwp_check_evidence.specs.hwp_report_text.declared.OfflinedLine.{OfflinedLine}
use Rattle.hwp_check_evidence.specs.hwp_report_text.declared.Report.{Report}
use Rattle.hwp_check_evidence.specs.hwp_law.Commands.{is_watch}
use Rattle.hwp_check_evidence.specs.hwp_law.Lines.{offlined_of}
use Rattle.hwp_check_evidence.specs.hwp_law.Offlined.{due_of}
use Rattle.hwp_check_rules.specs.AnswerFaults.{IsDue, IsUnanswered, LacksOfflined}
use Rattle.hwp_check_rules.specs.Standing.{row_line}
use Rattle.hwp_check_answers.specs.Facts.{at_number}
use Rattle.hwp_check_answers.specs.Placing.{HasNone, HaveAnswers}

-- a line of a command tells a frame that isn't due there
pub record IsUndueLine (script : Script) (report : Report) (line : ℕ) : Type 0 where
  pub cpu : Cpu
  pub commands : List Command
  pub rows : List CpuLine
  pub row : ℕ
  pub offlined : OfflinedLine
  pub command : Command
  pub of_script : slice_get script.lists cpu.0 ≡ Some commands
  pub of_report : slice_get report.cpus cpu.0 ≡ Some rows
  pub there : slice_get rows row ≡ Some (lines.Offlined offlined)
  pub made : slice_get commands offlined.seq ≡ Some command
  pub line_is : line ≡ row_line report cpu.0 row
  pub undue : IsDue script report rows row (at_number cpu offlined.seq) offlined → ⊥

-- such a line, or the heading of a processor where a command has fewer such lines than frames that are due, or, if the processor has a
-- `watch`, no answer
abbrev pub IsOfflinedLine : Script → Report → ℕ → Type 0
IsOfflinedLine script report line = ((u : IsUnanswered script report line) × (list_any is_watch u.commands ≡ true)) ⊎ LacksOfflined script report line ⊎ IsUndueLine script report line

-- the lines before a row are due
abbrev pub AreDueTo : Script → Report → Cpu → List Command → List CpuLine → ℕ → Type 0
AreDueTo script report cpu commands rows n =
    (row : ℕ) (line : OfflinedLine) → row < n → slice_get rows row ≡ Some (lines.Offlined line) → line.seq < length commands → IsDue script report rows row (at_number cpu line.seq) line

-- all lines of a processor are, and no command has too few
pub record AreAllDue (script : Script) (report : Report) (cpu : Cpu) (commands : List Command) (rows : List CpuLine) : Type 0 where
  pub answered : list_any is_watch commands ≡ true → HaveAnswers commands rows
  pub due : AreDueTo script report cpu commands rows (length rows)
  pub enough : (seq : ℕ) → seq < length commands → length (due_of script report (at_number cpu seq)) ≤ length (offlined_of report (at_number cpu seq))

-- so it is with each processor
abbrev pub AreAllOfflined : Script → Report → Type 0
AreAllOfflined script report =
    (cpu : Cpu) (commands : List Command) (rows : List CpuLine) → slice_get script.lists cpu.0 ≡ Some commands → slice_get report.cpus cpu.0 ≡ Some rows → AreAllDue script report cpu commands rows

-- a command has too few
pub record LacksSome (script : Script) (report : Report) (cpu : Cpu) (commands : List Command) : Type 0 where
  pub seq : ℕ
  pub within : seq < length commands
  pub lacks : length (offlined_of report (at_number cpu seq)) < length (due_of script report (at_number cpu seq))

-- this is the first row with a line that isn't due, and no command has too few
pub record IsFirstUndue (script : Script) (report : Report) (cpu : Cpu) (commands : List Command) (rows : List CpuLine) (row : ℕ) : Type 0 where
  pub line : OfflinedLine
  pub there : slice_get rows row ≡ Some (lines.Offlined line)
  pub within : line.seq < length commands
  pub undue : IsDue script report rows row (at_number cpu line.seq) line → ⊥
  pub before : AreDueTo script report cpu commands rows row
  pub answered : list_any is_watch commands ≡ true → HaveAnswers commands rows
  pub enough : (seq : ℕ) → seq < length commands → length (due_of script report (at_number cpu seq)) ≤ length (offlined_of report (at_number cpu seq))

-- the first such line of a processor whose heading stands at `heading`
abbrev pub IsFirstOfflined : Script → Report → Cpu → List Command → List CpuLine → ℕ → ℕ → Type 0
IsFirstOfflined script report cpu commands rows heading line =
    (((seq : ℕ) × HasNone commands rows seq × (list_any is_watch commands ≡ true)) × (line ≡ heading)) ⊎ (LacksSome script report cpu commands × (line ≡ heading)) ⊎ ((row : ℕ) × IsFirstUndue script report cpu commands rows row × (line ≡ heading + 1 + row))

-- where a processor has a `watch`, each command has an answer; or this one has none
abbrev pub IsAnsweredIf : List Command → List CpuLine → Option ℕ → Type 0
IsAnsweredIf commands rows found = MatchOption found (list_any is_watch commands ≡ true → HaveAnswers commands rows) (λ (seq : ℕ). HasNone commands rows seq × (list_any is_watch commands ≡ true))
