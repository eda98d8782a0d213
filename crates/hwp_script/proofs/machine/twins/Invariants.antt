use Rattle.std.proofs.Common.{◌≡◌}
use Rattle.hwp_script.specs.Machine.{first, twin_decl}
use Rattle.hwp_script.proofs.machine.twins.Given as goal

abbrev pub invariant-loop-slot : goal.invariant-loop-slot
invariant-loop-slot l = l.twins ≡ first twin_decl l._slot
