-- The lines of one processor: in place, and with an answer for each command.
use Rattle.std.specs.Prelude.{◌≡◌, ℕ, ◌<◌, Bool, true, false, List, Some, length, slice_get, slice_set}
use Rattle.hwp_check_evidence.specs.hwp_script_words.declared.Command.{Command}
use Rattle.hwp_check_evidence.specs.hwp_report_text.declared.CpuLine.{CpuLine}
use Rattle.hwp_check_evidence.specs.hwp_report_text.declared.CpuLine.TheVariants as lines
use Rattle.hwp_check_rules.specs.Answered.{HasAnswer, IsInPlace, is_well_before}
use Rattle.hwp_check_rules.specs.hwp_law.Lines.{seq_of}

-- the line in this row is of the command with this number, of so many, and, if it is a guest's, right before an answer
abbrev pub IsOfNext : ℕ → ℕ → List CpuLine → ℕ → CpuLine → Type 0
IsOfNext answered commands rows row line = (seq_of line ≡ answered) × (seq_of line < commands) × (is_well_before rows row line ≡ true)

-- each line is in its place
abbrev pub AreInPlace : List Command → List CpuLine → Type 0
AreInPlace commands rows = (row : ℕ) (line : CpuLine) → slice_get rows row ≡ Some line → IsInPlace commands rows row line

-- so are the first lines
abbrev pub FirstInPlace : List Command → List CpuLine → ℕ → Type 0
FirstInPlace commands rows n = (row : ℕ) (line : CpuLine) → row < n → slice_get rows row ≡ Some line → IsInPlace commands rows row line

-- this is the first line that isn't
pub record IsFirstOut (commands : List Command) (rows : List CpuLine) (row : ℕ) : Type 0 where
  pub line : CpuLine
  pub there : slice_get rows row ≡ Some line
  pub out : IsInPlace commands rows row line → ⊥
  pub before : FirstInPlace commands rows row

-- each command has an answer
abbrev pub HaveAnswers : List Command → List CpuLine → Type 0
HaveAnswers commands rows = (seq : ℕ) → seq < length commands → HasAnswer rows seq

-- this command has none
pub record HasNone (commands : List Command) (rows : List CpuLine) (seq : ℕ) : Type 0 where
  pub within : seq < length commands
  pub lacks : HasAnswer rows seq → ⊥

-- a flag for each of so many commands tells whether it has an answer
pub record TellAnswers (n : ℕ) (rows : List CpuLine) (flags : List Bool) : Type 0 where
  pub size : length flags ≡ n
  pub right : (seq : ℕ) → slice_get flags seq ≡ Some true → HasAnswer rows seq
  pub whole : (seq : ℕ) → slice_get flags seq ≡ Some false → HasAnswer rows seq → ⊥

-- the flags after a line: an answer sets that of its command
abbrev pub marked : CpuLine → List Bool → List Bool
marked (lines.Event event) flags = flags
marked (lines.Offlined offlined) flags = flags
marked (lines.Guest guest) flags = flags
marked (lines.Answer seq answer) flags = slice_set flags seq true

-- all of these are set
abbrev pub AreSet : List Bool → Type 0
AreSet flags = (i : ℕ) (flag : Bool) → slice_get flags i ≡ Some flag → flag ≡ true
