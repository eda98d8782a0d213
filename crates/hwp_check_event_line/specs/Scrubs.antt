-- The event lines of a scrub, one after another: at which place it comes to a line, and what it passes over. The bad line of a
-- frame and its weak line have a place each, in the order in which the scrub comes to them.
use Rattle.std.specs.Prelude.{ℕ, zero, suc, ◌+◌, ◌-◌, ◌*◌, ◌/◌, ◌%◌, ◌==◌, nat_le, nat_lt, min, Bool, true, false, ◌&&◌, ◌||◌, cond, List, Option, Some, None, fold, is_none, is_some, unwrap_or}
use Rattle.std.specs.Int.{from_bool}
use Rattle.hwp_banks.specs.hwp_geom.Limits.{line_limit}
use Rattle.hwp_banks.specs.hwp_geom.declared.Frame.{Frame}
use Rattle.hwp_banks.specs.hwp_geom.declared.Who.{Who}
use Rattle.hwp_banks.specs.Addresses.{frame_at}
use Rattle.hwp_banks.specs.Events.{bank_of, line_misc, own_event, own_status}
use Rattle.hwp_banks.specs.declared.Event.{Event}
use Rattle.hwp_banks.specs.declared.Origin.{Origin}
use Rattle.hwp_banks.specs.declared.Origin.TheVariants as origins
use Rattle.hwp_law.specs.hwp_script_words.declared.Command.{Command}
use Rattle.hwp_law.specs.hwp_script_words.declared.Command.TheVariants as commands
use Rattle.hwp_law.specs.hwp_script_words.declared.Script.{Script}
use Rattle.hwp_law.specs.hwp_report_text.declared.Report.{Report}
use Rattle.hwp_law.specs.Checks.{IsLineOf}
use Rattle.hwp_law.specs.hwp_report_text.Acts.{is_panic}
use Rattle.hwp_law.specs.hwp_severity.declared.Arrival.{Arrival}
use Rattle.hwp_banks.specs.Banks.{raw_bank}
use Rattle.hwp_law.specs.hwp_report_text.declared.EventLine.{EventLine}
use Rattle.hwp_law.specs.Lines.{bad_lines_of, weak_lines_of}
use Rattle.hwp_check_event_line.specs.Found.{IsRawLine, has_stopper}
use Rattle.hwp_check_event_line.specs.Lines.{has_line}
use Rattle.hwp_check_event_line.specs.declared.reach.Reach.{Reach}
use Rattle.hwp_check_event_line.specs.declared.reach.Turn.{Turn}
use Rattle.hwp_check_event_line.specs.declared.reach.Turn.TheVariants as turns

-- the place of a frame's bad line, and of its weak line
abbrev pub place_of : Origin → ℕ → ℕ
place_of origins.WeakLine frame = 2 * frame + 1
place_of _ frame = 2 * frame

-- the line at a place that a command marks: one past the last where it marks none there
abbrev pub marked_at : ℕ → Command → ℕ
marked_at place (commands.Bad frame line) = cond (place_of origins.BadLine frame.0 == place) line line_limit
marked_at place (commands.Weak frame line) = cond (place_of origins.WeakLine frame.0 == place) line line_limit
marked_at place _ = line_limit

-- the lowest line at a place that commands mark
abbrev pub lowest : List Command → ℕ → ℕ
lowest list place = fold (λ (low : ℕ) (c : Command). min low (marked_at place c)) line_limit list

-- the line of an address in its frame
abbrev pub line_at : ℕ → ℕ
line_at addr = addr / 64 % 64

-- the lines of a frame that are damaged so; one of them; one of them up to a line
abbrev pub damaged_lines : Report → Origin → ℕ → ℕ
damaged_lines report origins.WeakLine frame = weak_lines_of report frame
damaged_lines report _ frame = bad_lines_of report frame

abbrev pub has_line_below : ℕ → ℕ → Bool
has_line_below mask zero = false
has_line_below mask (suc n) = has_line mask n || has_line_below mask n

-- the line tells the scrubber's own event of this kind, at some line of some frame
abbrev pub tells_own : Origin → EventLine → Bool
tells_own origin line = (line.bank == bank_of origin) && (line.status == own_status origin) && (line.misc == line_misc) && (line.addr % 64 == 0)

-- a scrub of frames up to a last one, in a processor where at each place the scrub may meet a line no higher than `low` says
pub record Course : Type 0 where
  pub low : ℕ → ℕ
  pub last : ℕ
  pub bound : ℕ

-- the scrub may still meet the line, at its place
abbrev pub may_meet : Report → Course → Origin → Reach → EventLine → Bool
may_meet report course origin reach line =
    tells_own origin line && nat_le reach.next (place_of origin (frame_at line.addr)) && nat_le (frame_at line.addr) course.last
    && has_line (damaged_lines report origin (frame_at line.addr)) (line_at line.addr) && nat_le (line_at line.addr) (course.low (place_of origin (frame_at line.addr)))

-- behind the last place where the scrub may meet a bad line, of so many frames from one on
abbrev pub can_meet_bad : Report → (ℕ → ℕ) → ℕ → Bool
can_meet_bad report low frame = has_line_below (bad_lines_of report frame) (min line_limit (low (place_of origins.BadLine frame) + 1))

abbrev pub bound_from : Report → (ℕ → ℕ) → ℕ → ℕ → ℕ → ℕ
bound_from report low bound frame zero = bound
bound_from report low bound frame (suc more) = bound_from report low (cond (can_meet_bad report low frame) (place_of origins.BadLine frame + 1) bound) (frame + 1) more

-- what a line is to a scrub: the line of bank 1 in a machine check at a bad line that the scrub may still meet, the line of a bad line
-- or of a weak line that it meets, that of a weak line where the line of a bad line is due, or a line that it passes by
abbrev pub turn : Report → Course → Reach → EventLine → Turn
turn report course reach line =
    cond ((line.bank == raw_bank) && is_some reach.raw && is_none reach.begun && nat_lt reach.next course.bound) turns.Beside
    (cond ((is_none reach.raw || is_some reach.begun) && may_meet report course origins.BadLine reach line) turns.Bad
    (cond (is_none reach.begun && may_meet report course origins.WeakLine reach line) turns.Weak
    (cond (may_meet report course origins.WeakLine reach line) turns.Instead turns.Stray)))

-- how many of so many places from one on were marked
abbrev pub marked_from : (ℕ → ℕ) → ℕ → ℕ → ℕ
marked_from low place zero = 0
marked_from low place (suc more) = from_bool (nat_lt (low place) line_limit) + marked_from low (place + 1) more

-- how many marked places the scrub passes over on its way to one
abbrev pub passed_to : Course → Reach → ℕ → ℕ
passed_to course reach place = reach.passed + marked_from course.low reach.next (place - reach.next)

-- how far the scrub has come behind a line
abbrev pub after : Course → Reach → EventLine → Turn → Reach
after course reach line turns.Beside = record reach { begun = Some (is_panic line.acted) }
after course reach line turns.Bad = record reach {
  next = place_of origins.BadLine (frame_at line.addr) + 1;
  raw = None;
  begun = None;
  passed = passed_to course reach (place_of origins.BadLine (frame_at line.addr));
}
after course reach line turns.Weak = record reach {
  next = place_of origins.WeakLine (frame_at line.addr) + 1;
  passed = passed_to course reach (place_of origins.WeakLine (frame_at line.addr));
}
after course reach line turns.Instead = record reach {
  next = place_of origins.WeakLine (frame_at line.addr) + 1;
  begun = None;
  passed = passed_to course reach (place_of origins.WeakLine (frame_at line.addr));
  strays = reach.strays + 1;
}
after course reach line turns.Stray = record reach { strays = reach.strays + 1 }

abbrev pub after_all : Report → Course → Reach → List EventLine → Reach
after_all report course reach lines = fold (λ (r : Reach) (l : EventLine). after course r l (turn report course r l)) reach lines

-- where a scrub begins
abbrev pub reach_from : Frame → Option Event → Reach
reach_from first raw = record { next = 2 * first.0; raw = raw; begun = None; passed = 0; strays = 0 }

-- the scrubber's own event that an address says
abbrev pub own_at : Origin → ℕ → Event
own_at origin addr = own_event origin (record { 0 = frame_at addr }) (line_at addr)

-- the line is right as what it is to the scrub
abbrev pub IsScrubbedLine : Script → Report → Who → Arrival → Reach → EventLine → Turn → Type 0
IsScrubbedLine script report who how reach line turns.Beside = IsRawLine script report who how (has_stopper how origins.BadLine reach.raw) reach.raw line
IsScrubbedLine script report who how reach line turns.Bad =
    IsLineOf script report who how (has_stopper how origins.BadLine reach.raw || unwrap_or reach.begun false) (bank_of origins.BadLine) (own_at origins.BadLine line.addr) line
IsScrubbedLine script report who how reach line turns.Weak = IsLineOf script report who how false (bank_of origins.WeakLine) (own_at origins.WeakLine line.addr) line
IsScrubbedLine script report who how reach line turns.Instead = ⊥
IsScrubbedLine script report who how reach line turns.Stray = ⊥

-- the line that comes next, if one does, is a weak line where the line of a bad line is due: the machine check isn't there of which the
-- line of bank 1 before it would be
abbrev pub is_instead : Turn → Bool
is_instead turns.Instead = true
is_instead _ = false

abbrev pub comes_instead : Report → Course → Reach → Option EventLine → Bool
comes_instead report course reach None = false
comes_instead report course reach (Some line) = is_instead (turn report course reach line)

-- how many lines the scrub lacks where it has come so far: the marked places that it passed over, and a bad line that was begun
abbrev pub lacking : Course → Reach → ℕ
lacking course reach = passed_to course reach (2 * course.last + 2) + from_bool (is_some reach.begun)
