-- What a guest is told of an access that was answered by SIGBUS, and what it makes of that. This project's rule.
use Rattle.std.specs.Prelude.{ℕ, true}
use Rattle.hwp_kill.specs.hwp_geom.declared.Frame.{Frame}
use Rattle.hwp_kill.specs.hwp_geom.declared.VSlot.{VSlot}
use Rattle.hwp_kill.specs.hwp_geom.declared.Mode.{Mode}
use Rattle.hwp_kill.specs.hwp_geom.declared.Mode.TheVariants.{User, Kernel}
use Rattle.hwp_severity.specs.hwp_banks.declared.Origin.{Origin}
use Rattle.hwp_severity.specs.hwp_banks.declared.Origin.TheVariants as origins
use Rattle.hwp_severity.specs.declared.McgBits.{McgBits}
use Rattle.hwp_guest.specs.declared.access.Access.{Access}
use Rattle.hwp_guest.specs.declared.access.Access.TheVariants as accesses
use Rattle.hwp_guest.specs.declared.access.Taken.{Taken}
use Rattle.hwp_guest.specs.declared.access.Taken.TheVariants as takings

-- whose event an access brings about
abbrev pub origin_of : Access → Origin
origin_of accesses.Plain = origins.Access
origin_of accesses.Fetch = origins.Fetch

-- a guest frame is the number of a translation
abbrev pub guest_frame : VSlot → Frame
guest_frame slot = record { 0 = slot.0 }

-- a guest's machine checks arrive with RIPV and EIPV set
abbrev pub running : McgBits
running = record { ripv = true; eipv = true }

-- the row of the severity table that an access meets in each mode
abbrev pub outcome_row : Mode → ℕ
outcome_row User = 9
outcome_row Kernel = 10

-- what the guest makes of it
abbrev pub outcome : Mode → Taken
outcome User = takings.Bad
outcome Kernel = takings.Stop
