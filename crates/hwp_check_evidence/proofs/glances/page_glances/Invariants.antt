use Rattle.std.proofs.Common.{◌≡◌, ◌-◌, ◌++◌, Some, drop, length, slice_get, take}
use Rattle.hwp_law.specs.hwp_page.History.{state_after}
use Rattle.hwp_law.specs.hwp_page.Step.{opening_of}
use Rattle.hwp_check_evidence.specs.Glances.{AreKept, glance_of, glances_from}
use Rattle.hwp_check_evidence.proofs.GlanceLaws.{later}
use Rattle.hwp_check_evidence.proofs.glances.page_glances.Given as goal

abbrev pub invariant-loop-at : goal.invariant-loop-at
invariant-loop-at l =
    (slice_get l.glances (length l.glances - 1) ≡ Some (glance_of l.state))
    × (l.glances ++ later l.state (drop l.at l.fn.entries) ≡ glances_from (opening_of l.fn.kind l.fn.locked) l.fn.entries)
    × (l.state ≡ state_after (opening_of l.fn.kind l.fn.locked) (take l.at l.fn.entries))
    × AreKept (opening_of l.fn.kind l.fn.locked) l.fn.entries l.at l.maps.items
