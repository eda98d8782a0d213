-- What is done about the events of a machine check.
use Rattle.std.specs.Prelude.{ℕ, ◌==◌, ◌&&◌, ◌||◌, nat_le, Bool, true, false, cond, List, [], ◌∷◌, Option, Some, None}
use Rattle.std.specs.Option.{option_or}
use Rattle.std.specs.List.{list_any}
use Rattle.hwp_banks.specs.hwp_geom.declared.Frame.{Frame}
use Rattle.hwp_banks.specs.hwp_geom.declared.Layout.{Layout}
use Rattle.hwp_banks.specs.hwp_geom.declared.Thread.{Thread}
use Rattle.hwp_banks.specs.Addresses.{frame_at}
use Rattle.hwp_claim_frame.specs.hwp_page.declared.At.{At}
use Rattle.hwp_claim_frame.specs.hwp_page.Situations.{outcome_of}
use Rattle.hwp_law.specs.hwp_severity.declared.Severity.{Severity}
use Rattle.hwp_law.specs.hwp_severity.declared.Severity.TheVariants as severities
use Rattle.hwp_law.specs.hwp_report_text.declared.Acted.{Acted}
use Rattle.hwp_law.specs.hwp_report_text.declared.Acted.TheVariants as acts
use Rattle.hwp_law.specs.hwp_report_text.Acts.{is_panic, is_stopping}
use Rattle.hwp_law.specs.hwp_severity.Handling.{is_stop}
use Rattle.hwp_law.specs.Outcomes.{outcome_act}
use Rattle.hwp_claim.specs.declared.fail.FailAnswer.{FailAnswer}
use Rattle.hwp_claim.specs.declared.fail.FailAnswer.TheVariants as answers
use Rattle.hwp_claim.specs.declared.fail.Found.{Found}
use Rattle.hwp_claim.specs.declared.told.Held.{Held}
use Rattle.hwp_claim.specs.declared.told.EventOutcome.{EventOutcome}

-- the frame that an event names
abbrev pub frame_of : Held → Frame
frame_of held = record { 0 = frame_at held.event.addr }

-- an event would stop the machine
abbrev pub stops_machine : Held → Bool
stops_machine held = is_stop held.grade.severity

-- the thread that needs the page now, of a failure that is required
abbrev pub required_by : Option Thread → Severity → Option Thread
required_by thread severities.Required = thread
required_by thread _ = None

-- there was a panic
abbrev pub has_panic : List EventOutcome → Bool
has_panic told = list_any (λ (t : EventOutcome). is_panic t.acted) told

-- failures are held back where an event stops the machine, and behind a panic
abbrev pub are_held_back : Bool → List EventOutcome → Bool
are_held_back stops told = stops || has_panic told

-- what is done about a memory failure without a step: the first of these that applies; none where the failure takes place
abbrev pub failure_at_once : Layout → Bool → ℕ → Option Acted
failure_at_once layout held_back frame = cond held_back (Some acts.Held) (cond (nat_le layout.frames frame) (Some acts.Outside) (cond layout.recovery None (Some acts.Panic)))

-- what is done about an event of this severity without a step; none where it is a memory failure that takes place
abbrev pub severity_at_once : Layout → Bool → ℕ → Severity → Option Acted
severity_at_once layout held_back frame severities.Stop = Some acts.Stop
severity_at_once layout held_back frame severities.None = Some acts.None
severity_at_once layout held_back frame severities.Keep = Some acts.Keep
severity_at_once layout held_back frame severities.Deferred = Some acts.Deferred
severity_at_once layout held_back frame severities.Logged = Some acts.Logged
severity_at_once layout held_back frame severities.Optional = failure_at_once layout held_back frame
severity_at_once layout held_back frame severities.Required = failure_at_once layout held_back frame

abbrev pub at_once : Layout → Bool → Held → Option Acted
at_once layout held_back held = severity_at_once layout held_back (frame_at held.event.addr) held.grade.severity

abbrev pub told_at_once : Held → Acted → EventOutcome
told_at_once held acted = record { held = held; acted = acted; found = None }

-- what is told of a failure that came to this; one of a machine that doesn't recover panics
abbrev pub act_of : FailAnswer → Acted
act_of answers.Stopped = acts.Panic
act_of answers.Already = acts.Already
act_of (answers.Done found) = outcome_act (outcome_of found.situation)

abbrev pub found_by : FailAnswer → Option Found
found_by answers.Stopped = None
found_by answers.Already = None
found_by (answers.Done found) = Some found

abbrev pub told_by : Held → FailAnswer → EventOutcome
told_by held answer = record { held = held; acted = act_of answer; found = found_by answer }

-- what was done about an event stops the machine
abbrev pub is_halting : Acted → Bool
is_halting acted = is_stopping acted || is_panic acted

-- and about one of them
abbrev pub halts : List EventOutcome → Bool
halts told = list_any (λ (t : EventOutcome). is_halting t.acted) told

-- the entry of a failure that signalled the thread which needs its page now
abbrev pub signal_of : Option Found → Option At
signal_of None = None
signal_of (Some found) = cond found.signalled found.at None

-- of the first that did
abbrev pub first_signal : List EventOutcome → Option At
first_signal [] = None
first_signal (t ∷ ts) = option_or (signal_of t.found) (first_signal ts)

-- a failure of the frame found it poisoned already
abbrev pub is_already : Acted → Bool
is_already acts.Already = true
is_already _ = false

abbrev pub was_poisoned : Frame → List EventOutcome → Bool
was_poisoned frame told = list_any (λ (t : EventOutcome). is_already t.acted && (frame_at t.held.event.addr == frame.0)) told

-- an event was kept: noted, and nothing more
abbrev pub is_kept : Acted → Bool
is_kept acts.Keep = true
is_kept _ = false

abbrev pub has_kept : List EventOutcome → Bool
has_kept told = list_any (λ (t : EventOutcome). is_kept t.acted) told
