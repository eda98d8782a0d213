use Rattle.std.proofs.Common.{◌≡◌, map}
use Rattle.hwp_plain.specs.Slots.{body_in}
use Rattle.hwp_plain.proofs.bodies.bodies_of.Given as goal

abbrev pub invariant-loop-slot : goal.invariant-loop-slot
invariant-loop-slot l = l.bodies.items ≡ map body_in l.yielded
