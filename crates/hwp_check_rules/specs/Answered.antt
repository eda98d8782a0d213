-- The answers of processors, line by line: each line at its place, and each answer with its cause.
use Rattle.std.specs.Option.{option_map_or}
use Rattle.std.specs.Prelude.{◌≡◌, ℕ, ◌+◌, ◌<◌, ◌==◌, ◌&&◌, Bool, true, false, List, Some, count_by, length, slice_get, take}
use Rattle.hwp_law.specs.hwp_geom.declared.Cpu.{Cpu}
use Rattle.hwp_law.specs.hwp_geom.declared.Who.{Who}
use Rattle.hwp_law.specs.hwp_script_words.declared.Command.{Command}
use Rattle.hwp_law.specs.hwp_script_words.declared.Script.{Script}
use Rattle.hwp_law.specs.hwp_report_text.declared.Answer.{Answer}
use Rattle.hwp_law.specs.hwp_report_text.declared.CpuLine.{CpuLine}
use Rattle.hwp_law.specs.hwp_report_text.declared.CpuLine.TheVariants as lines
use Rattle.hwp_law.specs.hwp_report_text.declared.OfflinedLine.{OfflinedLine}
use Rattle.hwp_law.specs.hwp_report_text.declared.Report.{Report}
use Rattle.hwp_law.specs.Causes.{IsCaused, IsHeeded}
use Rattle.hwp_law.specs.Lines.{events_among, seq_of}

abbrev pub is_answer : CpuLine → Bool
is_answer (lines.Answer seq answer) = true
is_answer _ = false

abbrev pub is_event : CpuLine → Bool
is_event (lines.Event event) = true
is_event _ = false

abbrev pub is_offlined : CpuLine → Bool
is_offlined (lines.Offlined line) = true
is_offlined _ = false

-- the row behind a line is an answer
abbrev pub answers_next : List CpuLine → ℕ → Bool
answers_next rows row = option_map_or is_answer (slice_get rows (row + 1)) false

-- a guest's line has an answer behind it; any other line may have what it will
abbrev pub is_well_before : List CpuLine → ℕ → CpuLine → Bool
is_well_before rows row (lines.Guest guest) = answers_next rows row
is_well_before rows row _ = true

-- how many event lines of the command stand before a row
abbrev pub events_before : List CpuLine → ℕ → ℕ → ℕ
events_before rows row seq = count_by (λ (l : CpuLine). is_event l && (seq_of l == seq)) (take row rows)

-- how many of its lines of frames taken out of use do
abbrev pub offlined_before : List CpuLine → ℕ → ℕ → ℕ
offlined_before rows row seq = count_by (λ (l : CpuLine). is_offlined l && (seq_of l == seq)) (take row rows)

-- a row stands behind all event lines of the command
abbrev pub IsBehindEvents : List CpuLine → ℕ → ℕ → Type 0
IsBehindEvents rows row seq = events_before rows row seq ≡ length (events_among rows seq)

-- the line is of the command whose answer comes next: as many answers stand before it as commands before that one; and if it is a
-- guest's, the answer stands right behind it
pub record IsInPlace (commands : List Command) (rows : List CpuLine) (row : ℕ) (line : CpuLine) : Type 0 where
  pub of_next : seq_of line ≡ count_by is_answer (take row rows)
  pub of_some : seq_of line < length commands
  pub well_before : is_well_before rows row line ≡ true

-- the command has an answer
pub record HasAnswer (rows : List CpuLine) (seq : ℕ) : Type 0 where
  pub row : ℕ
  pub answer : Answer
  pub there : slice_get rows row ≡ Some (lines.Answer seq answer)

-- what a row's answer must be: the report shows its cause, which of `stopped` is that the stop line isn't `none`
pub record IsRight (script : Script) (report : Report) (who : Who) (command : Command) (answer : Answer) : Type 0 where
  pub shown : IsCaused script report who command answer
  pub heeded : IsHeeded report who answer

-- the lines of a processor: each in its place, that of a frame taken out of use behind its command's event lines, a guest's right before
-- its command's answer, an answer for each command, and each answer right
pub record AreAnswered (script : Script) (report : Report) (cpu : Cpu) (commands : List Command) (rows : List CpuLine) : Type 0 where
  pub in_place : (row : ℕ) (line : CpuLine) → slice_get rows row ≡ Some line → IsInPlace commands rows row line
  pub past : (row : ℕ) (line : OfflinedLine) → slice_get rows row ≡ Some (lines.Offlined line) → IsBehindEvents rows row line.seq
  pub each : (seq : ℕ) → seq < length commands → HasAnswer rows seq
  pub right : (row seq : ℕ) (answer : Answer) (command : Command) → slice_get rows row ≡ Some (lines.Answer seq answer) → slice_get commands seq ≡ Some command → IsRight script report (record { cpu = cpu; seq = seq }) command answer
