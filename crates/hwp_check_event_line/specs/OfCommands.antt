-- The event lines of each command of a processor, by the processor's lines.
use Rattle.std.specs.Prelude.{◌≡◌, ℕ, ◌+◌, ◌==◌, cond, List, [], ◌∷◌, ◌++◌, Option, Some, None, length, slice_get, slice_index_or, slice_set}
use Rattle.hwp_law.specs.hwp_report_text.declared.CpuLine.{CpuLine}
use Rattle.hwp_law.specs.hwp_report_text.declared.CpuLine.TheVariants as lines
use Rattle.hwp_check_event_line.specs.declared.shown.Shown.{Shown}

-- the event that a line shows, which stands at this place
abbrev pub shown_at : ℕ → CpuLine → Option Shown
shown_at place (lines.Event event) = Some (record { place = place; line = event })
shown_at place (lines.Offlined offlined) = None
shown_at place (lines.Guest guest) = None
shown_at place (lines.Answer seq answer) = None

-- the event with its place where it is of the command with this number
abbrev pub own_shown : ℕ → Option Shown → List Shown
own_shown seq None = []
own_shown seq (Some s) = cond (seq == s.line.seq) (s ∷ []) []

-- the event lines of the command with this number, the first of these lines standing at a place
abbrev pub shown_from : ℕ → ℕ → List CpuLine → List Shown
shown_from seq place [] = []
shown_from seq place (row ∷ rows) = own_shown seq (shown_at place row) ++ shown_from seq (place + 1) rows

-- a line more in the lists of the commands
abbrev pub with_shown : Option Shown → List (List Shown) → List (List Shown)
with_shown None lists = lists
with_shown (Some s) lists = slice_set lists s.line.seq (slice_index_or lists s.line.seq [] ++ s ∷ [])

-- a list for each command has its event lines
pub record AreShown (rows : List CpuLine) (count : ℕ) (lists : List (List Shown)) : Type 0 where
  pub size : length lists ≡ count
  pub each : (seq : ℕ) (list : List Shown) → slice_get lists seq ≡ Some list → list ≡ shown_from seq 0 rows
