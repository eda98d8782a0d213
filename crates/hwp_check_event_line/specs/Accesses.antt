-- The event lines that the machine checks of an access ask, and the one line of a machine check that is raised.
use Rattle.std.specs.Prelude.{◌≡◌, ℕ, ◌+◌, ◌-◌, ◌<◌, ◌==◌, ◌&&◌, ◌||◌, Bool, false, cond, List, [], ◌∷◌, Option, None, MatchBool, is_some, get_or, length}
use Rattle.hwp_banks.specs.hwp_geom.declared.Frame.{Frame}
use Rattle.hwp_banks.specs.hwp_geom.declared.Who.{Who}
use Rattle.hwp_banks.specs.Events.{bank_of}
use Rattle.hwp_banks.specs.declared.Event.{Event}
use Rattle.hwp_banks.specs.declared.Origin.{Origin}
use Rattle.hwp_law.specs.hwp_script_words.declared.Script.{Script}
use Rattle.hwp_law.specs.hwp_report_text.declared.Report.{Report}
use Rattle.hwp_law.specs.Checks.{IsLineOf}
use Rattle.hwp_law.specs.hwp_report_text.Acts.{is_panic}
use Rattle.hwp_law.specs.hwp_severity.declared.Arrival.{Arrival}
use Rattle.hwp_law.specs.Events.{IsDamaged}
use Rattle.hwp_law.specs.hwp_report_text.declared.EventLine.{EventLine}
use Rattle.hwp_check_event_line.specs.Found.{IsRawLine, beside, has_stopper, may_stop, own_found}

-- the machine checks of an access, each at a line, of which the first finds this in bank 1
pub record Access : Type 0 where
  pub origin : Origin
  pub at : List ℕ
  pub raw : Option Event

abbrev pub access_of : Origin → List ℕ → Option Event → Access
access_of origin at raw = record { origin = origin; at = at; raw = raw }

-- the line of the machine check with this number
abbrev pub met_at : Access → ℕ → ℕ
met_at a n = get_or a.at n 0

-- the line tells the own event of a machine check of an access, whose line is bad in some frame
pub record IsOwnLine (script : Script) (report : Report) (who : Who) (how : Arrival) (origin : Origin) (at : ℕ) (raw : Option Event) (line : EventLine) : Type 0 where
  pub frame : Frame
  pub damaged : IsDamaged report origin frame.0 at
  pub is : IsLineOf script report who how (has_stopper how origin raw) (bank_of origin) (own_found origin raw frame at) line

-- the first line is a panic
abbrev pub begins_in_panic : List EventLine → Bool
begins_in_panic [] = false
begins_in_panic (line ∷ lines) = is_panic line.acted

-- how many lines the first machine check asks; each later one finds the banks empty, and asks one. So many in all.
abbrev pub asked_first : Origin → Option Event → ℕ
asked_first origin raw = cond (is_some (beside origin raw)) 2 1

abbrev pub asked_by_access : Access → ℕ
asked_by_access a = cond (length a.at == 0) 0 (length a.at - 1 + asked_first a.origin a.raw)

-- the line is right as the one with this number: of the first machine check the own event, and then what it found beside; of each
-- later one the own event
abbrev pub IsAccessLine : Script → Report → Who → Arrival → Access → List EventLine → ℕ → EventLine → Type 0
IsAccessLine script report who how a lines number line =
    (number < asked_by_access a)
    × MatchBool (number == 0) (IsOwnLine script report who how a.origin (met_at a 0) a.raw line)
    (MatchBool ((number == 1) && is_some (beside a.origin a.raw)) (IsRawLine script report who how (has_stopper how a.origin a.raw || begins_in_panic lines) (beside a.origin a.raw) line)
    (IsOwnLine script report who how a.origin (met_at a (number + 1 - asked_first a.origin a.raw)) None line))

-- the line is right as the one with this number of a machine check that was raised
abbrev pub IsRaisedLine : Script → Report → Who → Arrival → Option Event → ℕ → EventLine → Type 0
IsRaisedLine script report who how raw number line = (number ≡ 0) × IsRawLine script report who how (may_stop how raw) raw line
