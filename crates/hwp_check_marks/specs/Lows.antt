-- The lowest frame that each command's lines name, as the lines are gone through: its event lines with a result, for its failures; and the
-- lines beside its answer that say that the content moved, for its soft offlines.
use Rattle.std.specs.Prelude.{◌≡◌, ℕ, ◌&&◌, nat_lt, not, Bool, true, false, cond, List, [], Option, Some, None, fold, is_some, slice_get, unwrap_or}
use Rattle.std.specs.HashMap.{HashMap}
use Rattle.std.specs.HashMap as hash
use Rattle.hwp_check_rules.specs.hwp_geom.declared.Who.{Who}
use Rattle.hwp_check_rules.specs.hwp_banks.Addresses.{frame_at}
use Rattle.hwp_check_rules.specs.hwp_report_text.declared.CpuLine.{CpuLine}
use Rattle.hwp_check_rules.specs.hwp_report_text.declared.CpuLine.TheVariants as lines
use Rattle.hwp_check_rules.specs.hwp_report_text.Offlines.{offline_answer}
use Rattle.hwp_check_rules.specs.hwp_report_text.declared.Report.{Report}
use Rattle.hwp_check_rules.specs.hwp_law.Records.{is_moved, result_of}
use Rattle.hwp_check_frames.specs.Counts.{is_pair}
use Rattle.hwp_check_rules.specs.MarkFaults.{lower, lowest_said}
use Rattle.hwp_check_marks.specs.declared.lows.Homes.{Homes}

abbrev pub low_at : {S : Type 0} → HashMap (ℕ × ℕ) ℕ S → ℕ × ℕ → Option ℕ
low_at m q = hash.get is_pair m q

-- a line of a processor makes the lowest frame of a command lower
abbrev pub row_low : Bool → ℕ → ℕ × ℕ → Option ℕ → CpuLine → Option ℕ
row_low soft cpu q low (lines.Event event) = cond ((not soft && is_some (result_of event.acted)) && is_pair (cpu, event.seq) q) (Some (lower (frame_at event.addr) low)) low
row_low soft cpu q low (lines.Offlined line) = cond ((soft && is_moved (Some (offline_answer line.result))) && is_pair (cpu, line.seq) q) (Some (lower line.frame.0 low)) low
row_low soft cpu q low (lines.Answer seq answer) = low
row_low soft cpu q low (lines.Guest guest) = low

abbrev pub rows_low : Bool → ℕ → ℕ × ℕ → Option ℕ → List CpuLine → Option ℕ
rows_low soft cpu q low rows = fold (row_low soft cpu q) low rows

-- the same of the processors below this number
abbrev pub lows_below : Bool → ℕ → Report → ℕ × ℕ → Option ℕ
lows_below soft n report q = cond (nat_lt q.0 n) (rows_low soft q.0 q None (unwrap_or (slice_get report.cpus q.0) [])) None

-- these are the lowest frames of all commands
abbrev pub AreLows : {S : Type 0} → Bool → Report → HashMap (ℕ × ℕ) ℕ S → Type 0
AreLows soft report lows = (who : Who) → low_at lows (who.cpu.0, who.seq) ≡ lowest_said soft report who

-- the same of both
pub record AreHomes (report : Report) (homes : Homes) : Type 0 where
  pub failures : AreLows false report homes.failures
  pub softs : AreLows true report homes.softs
