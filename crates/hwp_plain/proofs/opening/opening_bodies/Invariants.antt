use Rattle.std.proofs.Common.{◌≡◌, Some, None, map, replicate}
use Rattle.std.specs.Arc.{arc_value}
use Rattle.hwp_core_rule.specs.Lists.{EachMember}
use Rattle.hwp_core_rule.specs.Calls.{FitsLayout}
use Rattle.hwp_plain.specs.Openings.{home_with}
use Rattle.hwp_plain.proofs.SlotLists.{slots_open}
use Rattle.hwp_plain.proofs.opening.opening_bodies.Given as goal

abbrev pub invariant-loop-frame : goal.invariant-loop-frame
invariant-loop-frame l = (map home_with l.bodies.items ≡ replicate l._frame (Some None)) × EachMember (FitsLayout (arc_value l.fn.layout)) l.bodies.items

abbrev pub invariant-loop-page : goal.invariant-loop-page
invariant-loop-page l = (map home_with l.bodies.items ≡ slots_open (arc_value l.fn.layout).frames l.page) × EachMember (FitsLayout (arc_value l.fn.layout)) l.bodies.items
