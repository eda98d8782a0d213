-- What each command's event lines with a result say, for each frame and in order, as the lines are gone through.
use Rattle.std.specs.Prelude.{◌≡◌, ℕ, ◌==◌, ◌&&◌, nat_lt, Bool, cond, List, [], ◌∷◌, ◌++◌, Option, is_some, length, slice_get, unwrap_or}
use Rattle.std.specs.HashMap.{HashMap}
use Rattle.std.specs.HashMap as hash
use Rattle.hwp_check_rules.specs.hwp_banks.Addresses.{frame_at}
use Rattle.hwp_check_rules.specs.hwp_report_text.declared.CpuLine.{CpuLine}
use Rattle.hwp_check_rules.specs.hwp_report_text.declared.CpuLine.TheVariants as lines
use Rattle.hwp_check_rules.specs.hwp_report_text.declared.Report.{Report}
use Rattle.hwp_check_rules.specs.hwp_law.Records.{result_of}
use Rattle.hwp_check_frames.specs.Counts.{at_key, is_key}
use Rattle.hwp_check_frames.specs.declared.noted.Noted.{Noted}

-- a line is named by its command, its frame, and how many such lines stand before it
abbrev pub is_place : ((ℕ × ℕ) × ℕ) × ℕ → ((ℕ × ℕ) × ℕ) × ℕ → Bool
is_place x y = is_key x.0 y.0 && (x.1 == y.1)

abbrev pub row_at : {S : Type 0} → HashMap (((ℕ × ℕ) × ℕ) × ℕ) Noted S → ((ℕ × ℕ) × ℕ) × ℕ → Option Noted
row_at m p = hash.get is_place m p

-- what a line of a processor says, where it is such
abbrev pub row_said : ℕ → (ℕ × ℕ) × ℕ → CpuLine → List Noted
row_said cpu q (lines.Event event) = cond (is_some (result_of event.acted) && is_key ((cpu, event.seq), frame_at event.addr) q) (record { row = event.row; acted = event.acted } ∷ []) []
row_said cpu q (lines.Answer seq answer) = []
row_said cpu q (lines.Offlined offlined) = []
row_said cpu q (lines.Guest guest) = []

abbrev pub rows_said : ℕ → (ℕ × ℕ) × ℕ → List CpuLine → List Noted
rows_said cpu q [] = []
rows_said cpu q (r ∷ rs) = row_said cpu q r ++ rows_said cpu q rs

-- those of the processors below this number
abbrev pub said_below : ℕ → Report → (ℕ × ℕ) × ℕ → List Noted
said_below n report q = cond (nat_lt q.0.0 n) (rows_said q.0.0 q (unwrap_or (slice_get report.cpus q.0.0) [])) []

-- what was noted is this, and how many there are
pub record AreNoted {S : Type 0} {T : Type 0} (said : (ℕ × ℕ) × ℕ → List Noted) (many : HashMap ((ℕ × ℕ) × ℕ) ℕ S) (rows : HashMap (((ℕ × ℕ) × ℕ) × ℕ) Noted T) : Type 0 where
  pub many_is : (q : (ℕ × ℕ) × ℕ) → at_key many q ≡ length (said q)
  pub row_is : (q : (ℕ × ℕ) × ℕ) (k : ℕ) → row_at rows (q, k) ≡ slice_get (said q) k
