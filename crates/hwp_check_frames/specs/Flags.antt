-- Which frames have event lines of a command beyond its marks, as the lines of processors are gone through.
use Rattle.std.specs.Prelude.{◌≡◌, ℕ, ◌<◌, ◌==◌, ◌&&◌, ◌||◌, nat_lt, Bool, true, false, List, [], ◌∷◌, Some, is_some, length, slice_get, slice_index_or}
use Rattle.std.specs.HashMap.{HashMap}
use Rattle.hwp_check_rules.specs.hwp_banks.Addresses.{frame_at}
use Rattle.hwp_check_rules.specs.hwp_report_text.declared.CpuLine.{CpuLine}
use Rattle.hwp_check_rules.specs.hwp_report_text.declared.CpuLine.TheVariants as lines
use Rattle.hwp_check_rules.specs.hwp_report_text.declared.Report.{Report}
use Rattle.hwp_check_rules.specs.hwp_law.Records.{result_of}
use Rattle.hwp_check_frames.specs.Counts.{at_key}

-- the line says a result for the frame, and its command has more such lines than marks
abbrev pub row_flag : {S : Type 0} → HashMap ((ℕ × ℕ) × ℕ) ℕ S → HashMap ((ℕ × ℕ) × ℕ) ℕ S → ℕ → ℕ → CpuLine → Bool
row_flag own many cpu frame (lines.Event event) =
    (is_some (result_of event.acted) && (frame == frame_at event.addr)) && nat_lt (at_key own ((cpu, event.seq), frame)) (at_key many ((cpu, event.seq), frame))
row_flag own many cpu frame (lines.Answer seq answer) = false
row_flag own many cpu frame (lines.Offlined offlined) = false
row_flag own many cpu frame (lines.Guest guest) = false

abbrev pub rows_flag : {S : Type 0} → HashMap ((ℕ × ℕ) × ℕ) ℕ S → HashMap ((ℕ × ℕ) × ℕ) ℕ S → ℕ → ℕ → List CpuLine → Bool
rows_flag own many cpu frame [] = false
rows_flag own many cpu frame (r ∷ rs) = row_flag own many cpu frame r || rows_flag own many cpu frame rs

-- a frame is flagged where a line of the processors below this number says so
pub record AreFlags {S : Type 0} (report : Report) (own many : HashMap ((ℕ × ℕ) × ℕ) ℕ S) (n : ℕ) (flags : List Bool) : Type 0 where
  pub flagged : (frame : ℕ) (d : Bool) → frame < length flags → slice_index_or flags frame d ≡ true → (cpu : ℕ) × (rows : List CpuLine) × (cpu < n) × (slice_get report.cpus cpu ≡ Some rows) × (rows_flag own many cpu frame rows ≡ true)
  pub unflagged : (frame : ℕ) (d : Bool) → frame < length flags → slice_index_or flags frame d ≡ false → (cpu : ℕ) (rows : List CpuLine) → cpu < n → slice_get report.cpus cpu ≡ Some rows → rows_flag own many cpu frame rows ≡ false
