-- The lowest frame in which a command has fewer marks of soft offlines than lines that say so, as the lines beside answers are gone through.
use Rattle.std.specs.Prelude.{◌≡◌, ℕ, ◌+◌, ◌<◌, nat_lt, Bool, true, false, List, [], ◌∷◌, Option, Some, None, count_by, slice_get}
use Rattle.std.specs.HashMap.{HashMap}
use Rattle.hwp_check_rules.specs.hwp_geom.declared.Frame.{Frame}
use Rattle.hwp_check_rules.specs.hwp_geom.declared.Who.{Who}
use Rattle.hwp_check_rules.specs.hwp_script_words.declared.Script.{Script}
use Rattle.hwp_check_rules.specs.hwp_report_text.declared.CpuLine.{CpuLine}
use Rattle.hwp_check_rules.specs.hwp_report_text.declared.CpuLine.TheVariants as lines
use Rattle.hwp_check_rules.specs.hwp_report_text.declared.Report.{Report}
use Rattle.hwp_check_rules.specs.hwp_law.Lines.{marks_of}
use Rattle.hwp_check_rules.specs.hwp_law.Pairings.{is_soft_mark, soft_lines}
use Rattle.hwp_check_rules.specs.Firsts.{sooner_if}
use Rattle.hwp_check_rules.specs.MarkFaults.{lines_beside}
use Rattle.hwp_check_frames.specs.Beside.{marking, spot}
use Rattle.hwp_check_frames.specs.Counts.{at_key}

-- by the counts of marks, the command has fewer of them in the frame than lines that say so
abbrev pub has_few : {S : Type 0} → Script → Report → HashMap ((ℕ × ℕ) × ℕ) ℕ S → Who → Frame → Option Bool → Bool
has_few script report counts who frame None = false
has_few script report counts who frame (Some moved) = nat_lt (at_key counts (spot who frame.0 moved)) (soft_lines script report who frame moved)

-- a line beside an answer is of such a command and frame
abbrev pub is_unmarked : {S : Type 0} → Script → Report → HashMap ((ℕ × ℕ) × ℕ) ℕ S → ℕ → CpuLine → Bool
is_unmarked script report counts cpu (lines.Offlined line) = has_few script report counts (record { cpu = record { 0 = cpu }; seq = line.seq }) line.frame (marking line.result)
is_unmarked script report counts cpu (lines.Event event) = false
is_unmarked script report counts cpu (lines.Guest guest) = false
is_unmarked script report counts cpu (lines.Answer seq answer) = false

abbrev pub frame_told : CpuLine → ℕ
frame_told (lines.Offlined line) = line.frame.0
frame_told (lines.Event event) = 0
frame_told (lines.Guest guest) = 0
frame_told (lines.Answer seq answer) = 0

-- the lowest frame of the lines that ask; found is the lowest so far
abbrev pub lowest_row : (CpuLine → Bool) → Option ℕ → List CpuLine → Option ℕ
lowest_row asks found [] = found
lowest_row asks found (r ∷ rs) = lowest_row asks (sooner_if (asks r) found (frame_told r)) rs

abbrev pub lowest_cpu : (ℕ → CpuLine → Bool) → ℕ → Option ℕ → List (List CpuLine) → Option ℕ
lowest_cpu asks n found [] = found
lowest_cpu asks n found (rows ∷ rest) = lowest_cpu asks (n + 1) (lowest_row (asks n) found rows) rest

-- a line among these asks for the frame, and one of the processors from number n on
pub record IsRowAsked (asks : CpuLine → Bool) (rows : List CpuLine) (home : ℕ) : Type 0 where
  pub place : ℕ
  pub row : CpuLine
  pub there : slice_get rows place ≡ Some row
  pub so : asks row ≡ true
  pub home_is : home ≡ frame_told row

pub record IsCpuAsked (asks : ℕ → CpuLine → Bool) (n : ℕ) (cpus : List (List CpuLine)) (home : ℕ) : Type 0 where
  pub cpu : ℕ
  pub rows : List CpuLine
  pub shown : slice_get cpus cpu ≡ Some rows
  pub asked : IsRowAsked (asks (n + cpu)) rows home

-- in the frame with this number a command has fewer marks of soft offlines than lines that say so, one of them beside its answer
pub record IsSoftHome (script : Script) (report : Report) (home : ℕ) : Type 0 where
  pub frame : Frame
  pub who : Who
  pub moved : Bool
  pub beside : 0 < lines_beside report who frame.0 moved
  pub home_is : home ≡ frame.0
  pub beyond : count_by (is_soft_mark who moved) (marks_of report frame.0) < soft_lines script report who frame moved
