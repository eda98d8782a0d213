-- Where one machine check of a command ends and the next begins.
use Rattle.std.specs.Prelude.{◌≡◌, ℕ, ◌+◌, ◌-◌, ◌≤◌, Bool, true, not, nat_lt, List, ◌++◌, Option, Some, drop, length, slice_get, take}
use Rattle.hwp_check_rules.specs.hwp_geom.declared.Frame.{Frame}
use Rattle.hwp_check_rules.specs.hwp_geom.declared.Layout.{Layout}
use Rattle.hwp_check_rules.specs.hwp_report_text.declared.EventLine.{EventLine}
use Rattle.hwp_check_rules.specs.hwp_check_event_line.declared.Shown.{Shown}
use Rattle.hwp_check_rules.specs.hwp_law.Notes.{IsRising, ends_machine, notes}

-- the event that is shown stopped the machine, or was a panic
abbrev pub ends : Shown → Bool
ends shown = ends_machine shown.line

-- the second line isn't of the same check: there is none, or its bank isn't above that of the first
abbrev pub is_apart : Option EventLine → Option EventLine → Bool
is_apart (Some line) (Some next) = not (nat_lt line.bank next.bank)
is_apart _ _ = true

-- the line with this number is the last of its check
abbrev pub is_last_of_check : List EventLine → ℕ → Bool
is_last_of_check lines number = is_apart (slice_get lines number) (slice_get lines (number + 1))

-- the frames that the checks before line `start` note were gathered, and the lines from there on are of one check up to the next one
pub record AreNoted (layout : Layout) (lines : List EventLine) (start number : ℕ) (frames : List Frame) : Type 0 where
  pub within : start ≤ number
  pub so_far : frames ++ notes layout (drop start lines) ≡ notes layout lines
  pub rising : IsRising (take (number + 1 - start) (drop start lines))
  pub whole : number ≡ length lines → start ≡ length lines
