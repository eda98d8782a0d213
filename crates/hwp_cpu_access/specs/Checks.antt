-- The machine checks of an access that is asked for.
use Rattle.std.specs.Prelude.{List}
use Rattle.hwp_fault.specs.hwp_geom.declared.Frame.{Frame}
use Rattle.hwp_fault.specs.hwp_geom.declared.Layout.{Layout}
use Rattle.hwp_fault.specs.hwp_geom.declared.Mode.{Mode}
use Rattle.hwp_claim.specs.hwp_banks.declared.Origin.{Origin}
use Rattle.hwp_fault.specs.hwp_core_rule.declared.View.{View}
use Rattle.hwp_fault.specs.declared.Request.{Request}
use Rattle.hwp_claim.specs.hwp_banks.Banks.{Banks}
use Rattle.hwp_claim.specs.Checks as checks
use Rattle.hwp_claim.specs.Checks.{Check}

-- a step of the command showed that the line was bad in the frame
abbrev pub SawBad : Layout → View → Request → Frame → Type 0
SawBad layout view a frame = checks.SawBad layout view a.who a.line frame

-- the check found this in the banks, and logged its own event; each leaves the banks empty
abbrev pub IsCheck : Layout → View → Request → Origin → Mode → Banks → Check → Type 0
IsCheck layout view a origin mode banks c = checks.IsCheck layout view a.who a.thread a.line origin mode banks c

abbrev pub AreChecks : Layout → View → Request → Origin → Mode → Banks → List Check → Type 0
AreChecks layout view a origin mode banks cs = checks.AreChecks layout view a.who a.thread a.line origin mode banks cs
