-- How many lines of each command, beside its answer, say of a frame that a soft offline moved its content, or that it took the frame free.
use Rattle.std.specs.Prelude.{◌≡◌, ℕ, ◌+◌, ◌*◌, ◌<◌, ◌^◌, Bool, true, false, cond, List, [], ◌∷◌, Option, Some, None, sum_by}
use Rattle.std.specs.HashMap.{HashMap}
use Rattle.hwp_check_rules.specs.hwp_geom.declared.Who.{Who}
use Rattle.hwp_check_rules.specs.hwp_report_text.declared.CpuLine.{CpuLine}
use Rattle.hwp_check_rules.specs.hwp_report_text.declared.CpuLine.TheVariants as lines
use Rattle.hwp_check_rules.specs.hwp_report_text.declared.OfflineResult.{OfflineResult}
use Rattle.hwp_check_rules.specs.hwp_report_text.declared.OfflineResult.TheVariants as results
use Rattle.hwp_check_rules.specs.hwp_report_text.declared.Report.{Report}
use Rattle.hwp_check_rules.specs.MarkFaults.{lines_beside}
use Rattle.hwp_check_frames.specs.Counts.{at_key, raise}

-- what counts a command's soft offlines of a frame with one of the two results that leave a mark
abbrev pub spot : Who → ℕ → Bool → (ℕ × ℕ) × ℕ
spot who frame moved = ((who.cpu.0, who.seq), frame * 2 + cond moved 1 0)

-- whether such a result says that the content moved; the other results leave no mark
abbrev pub marking : OfflineResult → Option Bool
marking (results.Moved frame at) = Some true
marking results.TakenFree = Some false
marking _ = None

-- how much a line raises the count of a key
abbrev pub result_beside : (ℕ × ℕ) × ℕ → Who → ℕ → OfflineResult → ℕ
result_beside q who frame (results.Moved to at) = raise (spot who frame true) q
result_beside q who frame results.TakenFree = raise (spot who frame false) q
result_beside q who frame _ = 0

abbrev pub row_beside : ℕ → (ℕ × ℕ) × ℕ → CpuLine → ℕ
row_beside cpu q (lines.Offlined line) = result_beside q (record { cpu = record { 0 = cpu }; seq = line.seq }) line.frame.0 line.result
row_beside cpu q (lines.Event event) = 0
row_beside cpu q (lines.Guest guest) = 0
row_beside cpu q (lines.Answer seq answer) = 0

-- the same of the lines of a processor, and of those of processors, from this number on
abbrev pub rows_beside : ℕ → (ℕ × ℕ) × ℕ → List CpuLine → ℕ
rows_beside cpu q rows = sum_by (row_beside cpu q) rows

abbrev pub cpus_beside : ℕ → (ℕ × ℕ) × ℕ → List (List CpuLine) → ℕ
cpus_beside n q [] = 0
cpus_beside n q (rows ∷ rest) = rows_beside n q rows + cpus_beside (n + 1) q rest

-- these are the counts of a report's lines, and one more fits in each
pub record AreBeside {S : Type 0} (report : Report) (counts : HashMap ((ℕ × ℕ) × ℕ) ℕ S) : Type 0 where
  pub counted : (who : Who) (frame : ℕ) (moved : Bool) → at_key counts (spot who frame moved) ≡ lines_beside report who frame moved
  pub few : (q : (ℕ × ℕ) × ℕ) → at_key counts q + 1 < 2 ^ 64
