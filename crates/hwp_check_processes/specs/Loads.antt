-- Which lines of a processor answer a load through a frozen translation by another word than that of a full copy.
use Rattle.std.specs.Prelude.{◌≡◌, ◌≢◌, ℕ, ◌<◌, List, Option, Some, length, option_and_then, option_map, slice_get, take}
use Rattle.hwp_check_rules.specs.hwp_geom.declared.Cpu.{Cpu}
use Rattle.hwp_check_rules.specs.hwp_geom.declared.Layout.{Layout}
use Rattle.hwp_check_rules.specs.hwp_geom.declared.VSlot.{VSlot}
use Rattle.hwp_check_rules.specs.hwp_page.declared.At.{At}
use Rattle.hwp_check_rules.specs.hwp_report_text.declared.Answer.{Answer}
use Rattle.hwp_check_rules.specs.hwp_report_text.declared.Answer.TheVariants as answers
use Rattle.hwp_check_rules.specs.hwp_report_text.declared.CpuLine.{CpuLine}
use Rattle.hwp_check_rules.specs.hwp_report_text.declared.CpuLine.TheVariants as lines
use Rattle.hwp_check_rules.specs.hwp_report_text.declared.Report.{Report}
use Rattle.hwp_check_rules.specs.hwp_script_words.declared.Command.{Command}
use Rattle.hwp_check_rules.specs.hwp_script_words.declared.Script.{Script}
use Rattle.hwp_check_rules.specs.hwp_law.Lines.{answer_among, answered}
use Rattle.hwp_check_rules.specs.hwp_law.Private.{freeze_from, loaded, private_word}
use Rattle.hwp_check_rules.specs.Standing.{row_line}

-- the word by which a load of this line is to be answered, if its translation is frozen, behind these commands of its processor
abbrev pub word_expected : Layout → Report → Cpu → List (Command × Answer) → VSlot × ℕ → Option ℕ
word_expected layout report cpu earlier spot = option_map (λ (fork : ℕ). private_word layout report cpu fork spot.0 spot.1 earlier) (freeze_from layout spot.0 0 earlier)

abbrev pub expected : Layout → Report → Cpu → List (Command × Answer) → Command → Option ℕ
expected layout report cpu earlier command = option_and_then (word_expected layout report cpu earlier) (loaded command)

-- the command with this number is to be answered by another word
pub record IsWordWrong (layout : Layout) (report : Report) (cpu : Cpu) (list : List Command) (pairs : List (Command × Answer)) (seq word : ℕ) : Type 0 where
  pub command : Command
  pub own : ℕ
  pub made : slice_get list seq ≡ Some command
  pub expects : expected layout report cpu (take seq pairs) command ≡ Some own
  pub other : own ≢ word

-- the line answers a command so
pub record IsWrongRow (layout : Layout) (report : Report) (cpu : Cpu) (list : List Command) (rows : List CpuLine) (pairs : List (Command × Answer)) (line : CpuLine) : Type 0 where
  pub seq : ℕ
  pub word : ℕ
  pub at : At
  pub line_is : line ≡ lines.Answer seq (answers.Value word at)
  pub answered : answer_among rows seq ≡ Some (answers.Value word at)
  pub wrong : IsWordWrong layout report cpu list pairs seq word

-- none of the first n lines does; or this is the first that does
abbrev pub AreKept : Layout → Report → Cpu → List Command → List CpuLine → List (Command × Answer) → ℕ → Type 0
AreKept layout report cpu list rows pairs n = (row : ℕ) (line : CpuLine) → row < n → slice_get rows row ≡ Some line → IsWrongRow layout report cpu list rows pairs line → ⊥

pub record IsFirstWrong (layout : Layout) (report : Report) (cpu : Cpu) (list : List Command) (rows : List CpuLine) (pairs : List (Command × Answer)) (row : ℕ) : Type 0 where
  pub line : CpuLine
  pub there : slice_get rows row ≡ Some line
  pub wrong : IsWrongRow layout report cpu list rows pairs line
  pub before : AreKept layout report cpu list rows pairs row

-- no line of a processor does; or this line of the report is the first of the processor that does
abbrev pub AreKeptOn : Script → Report → Cpu → Type 0
AreKeptOn script report cpu =
    (list : List Command) (rows : List CpuLine) → slice_get script.lists cpu.0 ≡ Some list → slice_get report.cpus cpu.0 ≡ Some rows → AreKept script.layout report cpu list rows (answered list rows) (length rows)

pub record IsFirstOn (script : Script) (report : Report) (cpu : Cpu) (line : ℕ) : Type 0 where
  pub list : List Command
  pub rows : List CpuLine
  pub row : ℕ
  pub of_script : slice_get script.lists cpu.0 ≡ Some list
  pub of_report : slice_get report.cpus cpu.0 ≡ Some rows
  pub wrong : IsFirstWrong script.layout report cpu list rows (answered list rows) row
  pub line_is : line ≡ row_line report cpu.0 row
