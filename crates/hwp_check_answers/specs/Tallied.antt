-- How many lines of each command stand before a row, and whether a line of a frame taken out of use is the one that is due there.
use Rattle.std.specs.Prelude.{◌≡◌, ℕ, ◌+◌, ◌<◌, ◌==◌, ◌&&◌, ◌||◌, Bool, true, false, not, nat_lt, List, [], ◌∷◌, Option, Some, None, MatchOption, count_by, length, slice_get, slice_index_or, slice_set, take, if◌then◌else◌}
use Rattle.hwp_check_rules.specs.hwp_geom.declared.Frame.{Frame}
use Rattle.hwp_check_rules.specs.hwp_report_text.declared.CpuLine.{CpuLine}
use Rattle.hwp_check_rules.specs.hwp_report_text.declared.CpuLine.TheVariants as lines
use Rattle.hwp_check_rules.specs.hwp_report_text.declared.OfflinedLine.{OfflinedLine}
use Rattle.hwp_check_rules.specs.hwp_check_event_line.declared.Shown.{Shown}
use Rattle.hwp_check_rules.specs.hwp_law.Lines.{seq_of}
use Rattle.hwp_check_rules.specs.Answered.{is_event, is_offlined}
use Rattle.hwp_check_answers.specs.Judged.{AreSuch, IsFirstOther, IsTold}

-- the counts with one more for the command, where that counts
abbrev pub counted : Bool → ℕ → List ℕ → List ℕ
counted counts seq list = if counts then slice_set list seq (slice_index_or list seq 0 + 1) else list

-- these are the numbers of such lines before a row
abbrev pub AreBefore : (CpuLine → Bool) → List CpuLine → ℕ → List ℕ → Type 0
AreBefore is_such rows row list = (seq : ℕ) → seq < length list → slice_index_or list seq 0 ≡ count_by (λ (l : CpuLine). is_such l && (seq_of l == seq)) (take row rows)

-- it is this frame
abbrev pub is_frame : Option Frame → Frame → Bool
is_frame None frame = false
is_frame (Some due) frame = due.0 == frame.0

-- the line of the command is the one that is due: by the frames that are due of each command, the event lines of each, how many of them
-- stand before, and how many lines of frames taken out of use do. A line of no command is passed over
abbrev pub is_due : List (List Frame) → List (List Shown) → List ℕ → List ℕ → OfflinedLine → Bool
is_due dues events passed told line =
    not (nat_lt line.seq (length dues))
    || (is_frame (slice_get (slice_index_or dues line.seq []) (slice_index_or told line.seq 0)) line.frame && (slice_index_or passed line.seq 0 == length (slice_index_or events line.seq [])))

-- so it is with each line of a frame taken out of use
abbrev pub is_fit : List (List Frame) → List (List Shown) → List ℕ → List ℕ → CpuLine → Bool
is_fit dues events passed told (lines.Offlined line) = is_due dues events passed told line
is_fit dues events passed told _ = true

-- a command has fewer such lines than frames that are due
abbrev pub lacks_from : List (List Frame) → List ℕ → Bool
lacks_from [] told = false
lacks_from (due ∷ dues) [] = false
lacks_from (due ∷ dues) (n ∷ told) = nat_lt n (length due) || lacks_from dues told

-- the frames that are due of the command with this number
abbrev pub due_in : List (List Frame) → ℕ → List Frame
due_in dues seq = slice_index_or dues seq []

-- so many lines were looked at: the counts of those before the row, and the first that isn't the one that is due
pub record AreTallied (dues : List (List Frame)) (rows : List CpuLine) (row : ℕ) (passed told : List ℕ) (wrong : Option ℕ) : Type 0 where
  pub passed_many : length passed ≡ length dues
  pub told_many : length told ≡ length dues
  pub passed_are : AreBefore is_event rows row passed
  pub told_are : AreBefore is_offlined rows row told
  pub wrong_is : MatchOption wrong (AreSuch (IsTold (due_in dues) rows) (length dues) rows row) (IsFirstOther (IsTold (due_in dues) rows) (length dues) rows)

-- the line is of a frame that one of so many commands took out of use
abbrev pub is_of : ℕ → CpuLine → Bool
is_of count (lines.Offlined line) = nat_lt line.seq count
is_of count _ = false
