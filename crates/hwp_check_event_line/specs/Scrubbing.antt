-- A scrub by the table of the lowest lines that were marked.
use Rattle.std.specs.Prelude.{◌≡◌, ℕ, suc, ◌+◌, ◌-◌, ◌*◌, ◌≤◌, Bool, false, cond, List, slice_get, slice_index_or, take}
use Rattle.hwp_banks.specs.hwp_geom.Limits.{line_limit}
use Rattle.hwp_banks.specs.Addresses.{frame_at}
use Rattle.hwp_banks.specs.declared.Origin.TheVariants as origins
use Rattle.hwp_banks.specs.declared.Origin.{Origin}
use Rattle.hwp_banks.specs.hwp_geom.declared.Frame.{Frame}
use Rattle.hwp_banks.specs.hwp_geom.declared.Who.{Who}
use Rattle.hwp_law.specs.hwp_script_words.declared.Script.{Script}
use Rattle.hwp_law.specs.hwp_report_text.declared.Report.{Report}
use Rattle.hwp_law.specs.hwp_severity.declared.Arrival.{Arrival}
use Rattle.hwp_law.specs.hwp_report_text.declared.EventLine.{EventLine}
use Rattle.hwp_check_event_line.specs.Scrubs.{Course, IsScrubbedLine, after_all, bound_from, comes_instead, place_of, turn}
use Rattle.hwp_check_event_line.specs.declared.reach.Reach.{Reach}
use Rattle.hwp_check_event_line.specs.declared.reach.Turn.{Turn}
use Rattle.hwp_check_event_line.specs.declared.reach.Turn.TheVariants as turns
use Rattle.hwp_check_event_line.specs.declared.reach.Range.{Range}

-- up to which line a scrub must meet one at a place: any, where the scrub didn't go to its end
abbrev pub low_of : List ℕ → Bool → ℕ → ℕ
low_of table whole place = cond whole (slice_index_or table place line_limit) line_limit

abbrev pub course_of : List ℕ → Range → Course
course_of table range = record { low = low_of table range.whole; last = range.last; bound = range.bound }

-- the same by the frames from the first to the last
abbrev pub course_by : Report → List ℕ → Bool → Frame → Frame → Course
course_by report table whole first last = record { low = low_of table whole; last = last.0; bound = bound_from report (low_of table whole) 0 first.0 (last.0 + 1 - first.0) }

-- a line that the scrub meets isn't before the place that comes next, and its frame is one of the scrub's
abbrev pub IsWithin : Range → Reach → Origin → EventLine → Type 0
IsWithin range reach origin line = (reach.next ≤ place_of origin (frame_at line.addr)) × (frame_at line.addr ≤ range.last)

abbrev pub IsAhead : Range → Reach → EventLine → Turn → Type 0
IsAhead range reach line turns.Bad = IsWithin range reach origins.BadLine line
IsAhead range reach line turns.Weak = IsWithin range reach origins.WeakLine line
IsAhead range reach line turns.Instead = IsWithin range reach origins.WeakLine line
IsAhead range reach line _ = Unit {0}

-- as far as a scrub can have come behind so many lines
pub record IsSound (range : Range) (reach : Reach) (lines : ℕ) : Type 0 where
  pub passed : reach.passed ≤ reach.next
  pub next : reach.next ≤ 2 * range.last + 2
  pub strays : reach.strays ≤ lines

-- where a scrub has come to behind the first so many of some lines
abbrev pub reach_at : Report → Course → Reach → List EventLine → ℕ → Reach
reach_at report course start lines number = after_all report course start (take number lines)

-- the line with this number is right, and the next one doesn't come in place of a bad line's
abbrev pub IsRightIn : Script → Report → Who → Arrival → Course → Reach → List EventLine → ℕ → EventLine → Type 0
IsRightIn script report who how course start lines number line =
    IsScrubbedLine script report who how (reach_at report course start lines number) line (turn report course (reach_at report course start lines number) line)
    × (comes_instead report course (reach_at report course start lines (suc number)) (slice_get lines (suc number)) ≡ false)
