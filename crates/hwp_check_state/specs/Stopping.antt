-- How the stop and the answers `stopped` are found, line by line.
use Rattle.std.specs.Prelude.{ℕ, ◌==◌, ◌&&◌, ◌||◌, nat_lt, Bool, true, false, cond, List, [], ◌∷◌, IfSome}
use Rattle.hwp_check_rules.specs.hwp_report_text.declared.Answer.TheVariants as answers
use Rattle.hwp_check_rules.specs.hwp_report_text.declared.CpuLine.{CpuLine}
use Rattle.hwp_check_rules.specs.hwp_report_text.declared.CpuLine.TheVariants as lines
use Rattle.hwp_check_rules.specs.hwp_report_text.declared.EventLine.{EventLine}
use Rattle.hwp_check_rules.specs.hwp_report_text.Acts.{is_stopping}
use Rattle.hwp_check_rules.specs.hwp_geom.declared.Frame.{Frame}
use Rattle.hwp_check_rules.specs.hwp_script_words.declared.Script.{Script}
use Rattle.hwp_check_rules.specs.hwp_report_text.declared.Report.{Report}
use Rattle.hwp_check_rules.specs.hwp_law.Halts.{IsStopOf, is_panic_of}

-- the line is an answer `stopped`; it is another answer
abbrev pub is_stopped : CpuLine → Bool
is_stopped (lines.Answer seq answers.Stopped) = true
is_stopped _ = false

abbrev pub goes_on : CpuLine → Bool
goes_on (lines.Answer seq answers.Stopped) = false
goes_on (lines.Answer seq _) = true
goes_on _ = false

-- behind the first `stopped`, which may have come before, these lines have no other answer
abbrev pub stays : Bool → List CpuLine → Bool
stays stopped [] = true
stays stopped (r ∷ rs) = cond (stopped && goes_on r) false (stays (stopped || is_stopped r) rs)

-- some of these lines is an answer `stopped`
abbrev pub has_stopped : List CpuLine → Bool
has_stopped [] = false
has_stopped (r ∷ rs) = is_stopped r || has_stopped rs

-- the line stopped the machine by this bank, status and row; and by a lower bank
abbrev pub is_stopper : ℕ → ℕ → ℕ → EventLine → Bool
is_stopper row bank status l = is_stopping l.acted && (l.bank == bank) && (l.status == status) && (l.row == row)

abbrev pub is_lower : ℕ → EventLine → Bool
is_lower bank l = is_stopping l.acted && nat_lt l.bank bank

-- some of these lines did so, and none before it by a lower bank
abbrev pub stopped_by : ℕ → ℕ → ℕ → List EventLine → Bool
stopped_by row bank status [] = false
stopped_by row bank status (l ∷ ls) = is_stopper row bank status l || cond (is_lower bank l) false (stopped_by row bank status ls)

-- the same of the lines of a processor, of the command with this number
abbrev pub is_of_event : ℕ → (EventLine → Bool) → CpuLine → Bool
is_of_event seq test (lines.Event event) = (seq == event.seq) && test event
is_of_event seq test (lines.Answer s answer) = false
is_of_event seq test (lines.Offlined offlined) = false
is_of_event seq test (lines.Guest guest) = false

abbrev pub rows_stopped_by : ℕ → ℕ → ℕ → ℕ → List CpuLine → Bool
rows_stopped_by seq row bank status [] = false
rows_stopped_by seq row bank status (r ∷ rs) =
    is_of_event seq (is_stopper row bank status) r || cond (is_of_event seq (is_lower bank) r) false (rows_stopped_by seq row bank status rs)

-- some line of the command is a panic of the frame
abbrev pub rows_panic : ℕ → Frame → List CpuLine → Bool
rows_panic seq frame [] = false
rows_panic seq frame (r ∷ rs) = is_of_event seq (is_panic_of frame) r || rows_panic seq frame rs

-- the same of all processors
abbrev pub some_stopped : List (List CpuLine) → Bool
some_stopped [] = false
some_stopped (rows ∷ rest) = has_stopped rows || some_stopped rest

abbrev pub all_stay : List (List CpuLine) → Bool
all_stay [] = true
all_stay (rows ∷ rest) = stays false rows && all_stay rest

-- a stop that there is is that of a command
abbrev pub IsCausedStop : Script → Report → Type 0
IsCausedStop script report = IfSome report.stop (IsStopOf script report)
