use Rattle.std.proofs.Common.{◌≡◌, map}
use Rattle.hwp_plain.specs.Slots.{in_slot}
use Rattle.hwp_plain.proofs.bodies.slots_of.Given as goal

abbrev pub invariant-loop-body : goal.invariant-loop-body
invariant-loop-body l = l.slots.items ≡ map in_slot l.yielded
