-- What the machine checks of a processor find in its banks. Between them bank 1 may hold raw events, and the others are empty.
use Rattle.std.specs.Prelude.{◌≡◌, ℕ, ◌||◌, Bool, true, false, [], ◌∷◌, Option, Some, None, IsBitSet, MatchOption}
use Rattle.hwp_banks.specs.hwp_geom.declared.Frame.{Frame}
use Rattle.hwp_banks.specs.hwp_geom.declared.Who.{Who}
use Rattle.hwp_banks.specs.Addresses.{frame_at}
use Rattle.hwp_banks.specs.Logged.{stored}
use Rattle.hwp_banks.specs.Events.{own_event}
use Rattle.hwp_banks.specs.declared.Event.{Event}
use Rattle.hwp_banks.specs.declared.Origin.{Origin}
use Rattle.hwp_banks.specs.declared.Origin.TheVariants as origins
use Rattle.hwp_law.specs.hwp_script_words.declared.Script.{Script}
use Rattle.hwp_law.specs.hwp_report_text.declared.Report.{Report}
use Rattle.hwp_law.specs.Checks.{IsLineOf}
use Rattle.hwp_banks.specs.Banks.{Banks, raw_bank}
use Rattle.hwp_law.specs.hwp_severity.Handling.{is_stop, severity_of}
use Rattle.hwp_law.specs.hwp_severity.declared.Arrival.{Arrival}
use Rattle.hwp_law.specs.hwp_report_text.declared.EventLine.{EventLine}
use Rattle.hwp_law.specs.Lines.{bad_lines_of}

-- the banks of a processor between its machine checks
abbrev pub resting : Option Event → Banks
resting raw = None ∷ raw ∷ None ∷ []

-- an event would stop the machine; one that there may be
abbrev pub stops : Arrival → Event → Bool
stops how event = is_stop (severity_of how event)

abbrev pub may_stop : Arrival → Option Event → Bool
may_stop how None = false
may_stop how (Some event) = stops how event

-- what bank 1 holds, a machine check finds beside its own event, or the own event is logged over it
abbrev pub beside : Origin → Option Event → Option Event
beside origins.Fetch raw = None
beside _ raw = raw

abbrev pub beneath : Origin → Option Event → Option Event
beneath origins.Fetch raw = raw
beneath _ raw = None

-- an access makes the event
abbrev pub of_access : Origin → Bool
of_access origins.Access = true
of_access origins.Fetch = true
of_access _ = false

-- a frame that is bad at a line, if one is: that of the address where it is
abbrev pub IsCandidate : Report → ℕ → ℕ → Option Frame → Type 0
IsCandidate report at addr found =
    MatchOption found ((frame : ℕ) → IsBitSet (bad_lines_of report frame) at → ⊥)
    (λ (c : Frame). IsBitSet (bad_lines_of report c.0) at × (IsBitSet (bad_lines_of report (frame_at addr)) at → c.0 ≡ frame_at addr))

-- what a machine check finds in the bank of its own event at a line of a frame
abbrev pub own_found : Origin → Option Event → Frame → ℕ → Event
own_found origin raw frame line = stored (beneath origin raw) (own_event origin frame line)

-- some bank that it finds would stop the machine: whichever line its own event is at
abbrev pub has_stopper : Arrival → Origin → Option Event → Bool
has_stopper how origin raw = stops how (own_found origin raw (record { 0 = 0 }) 0) || may_stop how (beside origin raw)

-- the line tells what bank 1 held, where it held something; `held` says that failures are held back
abbrev pub IsRawLine : Script → Report → Who → Arrival → Bool → Option Event → EventLine → Type 0
IsRawLine script report who how held None line = ⊥
IsRawLine script report who how held (Some event) line = IsLineOf script report who how held raw_bank event line
