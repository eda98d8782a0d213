-- The lines of files of which a report says a wrong number of losses, or an answer told one.
use Rattle.std.specs.Prelude.{◌≡◌, ℕ, ◌+◌, ◌<◌, true, false, List, Option, Some, MatchOption, length, slice_get, take}
use Rattle.hwp_check_rules.specs.hwp_geom.declared.Cpu.{Cpu}
use Rattle.hwp_check_rules.specs.hwp_geom.declared.FileNo.{FileNo}
use Rattle.hwp_check_rules.specs.hwp_script_words.declared.Command.{Command}
use Rattle.hwp_check_rules.specs.hwp_script_words.declared.Script.{Script}
use Rattle.hwp_check_rules.specs.hwp_report_text.declared.Answer.{Answer}
use Rattle.hwp_check_rules.specs.hwp_report_text.declared.CpuLine.{CpuLine}
use Rattle.hwp_check_rules.specs.hwp_report_text.declared.Report.{Report}
use Rattle.hwp_check_rules.specs.hwp_law.Lines.{answered}
use Rattle.hwp_check_rules.specs.hwp_law.Losses.{is_lost, losses_such, numbers_after, tells_number}
use Rattle.hwp_check_rules.specs.Firsts.{IsLeast}
use Rattle.hwp_check_state.specs.Told.{is_good}

-- the first line of which it is true was found, or there is none
abbrev pub IsFirst : (ℕ → Type 0) → Option ℕ → Type 0
IsFirst P found = MatchOption found ((line : ℕ) → P line → ⊥) (IsLeast P)

-- the line is that of one of so many files, and the file has another number of losses than the report says
pub record IsLostWrong (script : Script) (report : Report) (many line : ℕ) : Type 0 where
  pub file : FileNo
  pub lost : ℕ
  pub before : file.0 < many
  pub there : slice_get report.files file.0 ≡ Some lost
  pub other : lost ≡ losses_such is_lost script report file → ⊥
  pub line_is : line ≡ 4 + file.0

-- the line is that of a file of which one of a processor's first answers, so many, told a wrong number
pub record IsToldWrong (script : Script) (report : Report) (cpu : Cpu) (list : List (Command × Answer)) (many line : ℕ) : Type 0 where
  pub file : FileNo
  pub place : ℕ
  pub pair : Command × Answer
  pub within : file.0 < script.layout.files
  pub before : place < many
  pub there : slice_get {X = Command × Answer} list place ≡ Some pair
  pub tells : tells_number file pair.0 pair.1 ≡ true
  pub wrong : is_good script report file (record { cpu = cpu; seq = place }) (numbers_after file 0 (take place list)) (numbers_after file 0 (take (place + 1) list)) ≡ false
  pub line_is : line ≡ 4 + file.0

-- the same of one of so many processors
pub record IsToldWrongBy (script : Script) (report : Report) (many line : ℕ) : Type 0 where
  pub cpu : Cpu
  pub list : List Command
  pub rows : List CpuLine
  pub before : cpu.0 < many
  pub of_script : slice_get script.lists cpu.0 ≡ Some list
  pub of_report : slice_get report.cpus cpu.0 ≡ Some rows
  pub wrong : IsToldWrong script report cpu (answered list rows) (length (answered list rows)) line

abbrev pub IsFirstLost : Script → Report → Option ℕ → Type 0
IsFirstLost script report found = IsFirst (IsLostWrong script report script.layout.files) found

abbrev pub IsFirstTold : Script → Report → Option ℕ → Type 0
IsFirstTold script report found = IsFirst (IsToldWrongBy script report script.layout.cpus) found
