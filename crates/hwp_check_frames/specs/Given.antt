-- The answer of each command, as the lines of processors are gone through: the first that stands there.
use Rattle.std.specs.Prelude.{◌≡◌, ℕ, nat_lt, cond, List, [], Option, Some, None, fold, slice_get, unwrap_or}
use Rattle.std.specs.HashMap.{HashMap}
use Rattle.std.specs.HashMap as hash
use Rattle.hwp_check_rules.specs.hwp_geom.declared.Who.{Who}
use Rattle.hwp_check_rules.specs.hwp_report_text.declared.Answer.{Answer}
use Rattle.hwp_check_rules.specs.hwp_report_text.declared.CpuLine.{CpuLine}
use Rattle.hwp_check_rules.specs.hwp_report_text.declared.CpuLine.TheVariants as lines
use Rattle.hwp_check_rules.specs.hwp_report_text.declared.Report.{Report}
use Rattle.hwp_check_rules.specs.hwp_law.Lines.{answer_of}
use Rattle.hwp_check_frames.specs.Counts.{is_pair}

abbrev pub given_at : {S : Type 0} → HashMap (ℕ × ℕ) Answer S → ℕ × ℕ → Option Answer
given_at m q = hash.get is_pair m q

-- an answer that was found so far stays
abbrev pub first_of : Option Answer → Answer → Answer
first_of None answer = answer
first_of (Some found) answer = found

abbrev pub row_given : ℕ → ℕ × ℕ → Option Answer → CpuLine → Option Answer
row_given cpu q found (lines.Event event) = found
row_given cpu q found (lines.Offlined offlined) = found
row_given cpu q found (lines.Guest guest) = found
row_given cpu q found (lines.Answer seq answer) = cond (is_pair (cpu, seq) q) (Some (first_of found answer)) found

abbrev pub rows_given : ℕ → ℕ × ℕ → Option Answer → List CpuLine → Option Answer
rows_given cpu q found rows = fold (row_given cpu q) found rows

-- those of the processors below this number
abbrev pub given_below : ℕ → Report → ℕ × ℕ → Option Answer
given_below n report q = cond (nat_lt q.0 n) (rows_given q.0 q None (unwrap_or (slice_get report.cpus q.0) [])) None

-- these are the answers of all commands
abbrev pub AreGiven : {S : Type 0} → Report → HashMap (ℕ × ℕ) Answer S → Type 0
AreGiven report given = (who : Who) → given_at given (who.cpu.0, who.seq) ≡ answer_of report who
