-- The events that the banks of a processor hold at a machine check, each with its grade.
use Rattle.std.specs.Prelude.{ℕ, ◌+◌, List, [], ◌∷◌, Some, None, map}
use Rattle.hwp_banks.specs.declared.Event.{Event}
use Rattle.hwp_law.specs.hwp_severity.declared.Grade.{Grade}
use Rattle.hwp_law.specs.hwp_severity.Graded.{graded}
use Rattle.hwp_banks.specs.Banks.{Banks, held_from}
use Rattle.hwp_law.specs.hwp_severity.declared.Arrival.{Arrival}
use Rattle.hwp_claim.specs.declared.told.Held.{Held}

-- the events from bank n on, with the grades of their banks
abbrev pub held_with : ℕ → Banks → List Grade → List Held
held_with n (None ∷ banks) (grade ∷ grades) = held_with (n + 1) banks grades
held_with n (Some event ∷ banks) (grade ∷ grades) = record { bank = n; event = event; grade = grade } ∷ held_with (n + 1) banks grades
held_with n _ _ = []

-- the event of a bank with its grade in a machine check that arrives so
abbrev pub graded_in : Arrival → ℕ × Event → Held
graded_in how b = record { bank = b.0; event = b.1; grade = graded b.1.status how.mcg how.mode }

-- the events that a machine check finds in the banks
abbrev pub held_in : Arrival → Banks → List Held
held_in how banks = map (graded_in how) (held_from 0 banks)
