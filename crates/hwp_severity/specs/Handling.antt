-- What a machine check decides from the events that the banks hold. This project's rule.
use Rattle.std.specs.Prelude.{ℕ, Bool, true, false, Option, Some, None, List}
use Rattle.std.specs.List.{list_any, position}
use Rattle.hwp_geom.specs.declared.Mode.{Mode}
use Rattle.hwp_banks.specs.declared.Event.{Event}
use Rattle.hwp_banks.specs.declared.Status.{Status}
use Rattle.hwp_banks.specs.Banks.{Banks, held_from}
use Rattle.hwp_severity.specs.declared.types.Arrival.{Arrival}
use Rattle.hwp_severity.specs.declared.types.Grade.{Grade}
use Rattle.hwp_severity.specs.declared.types.McgBits.{McgBits}
use Rattle.hwp_severity.specs.declared.types.Severity.{Severity}
use Rattle.hwp_severity.specs.declared.types.Severity.TheVariants as severities
use Rattle.hwp_severity.specs.Graded.{graded}

-- the status register of a bank, which reads as 0 where the bank is empty
abbrev pub status_of : Option Event → Status
status_of None = record { 0 = 0 }
status_of (Some e) = e.status

-- the grade of what a bank holds
abbrev pub grade_of : McgBits → Mode → Option Event → Grade
grade_of g m bank = graded (status_of bank) g m

-- whether the severity stops the machine
abbrev pub is_stop : Severity → Bool
is_stop severities.Stop = true
is_stop _ = false

-- the lowest bank that is graded Stop
abbrev pub lowest_stop : List Grade → Option ℕ
lowest_stop grades = position (λ g. is_stop g.severity) grades

-- how severe an event is in a machine check that arrives so
abbrev pub severity_of : Arrival → Event → Severity
severity_of how event = (graded event.status how.mcg how.mode).severity

-- a bank would stop the machine
abbrev pub has_stop : Arrival → Banks → Bool
has_stop how banks = list_any (λ (b : ℕ × Event). is_stop (severity_of how b.1)) (held_from 0 banks)
