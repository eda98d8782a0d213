use Rattle.std.proofs.Common.{◌≡◌}
use Rattle.hwp_script.specs.Machine.{first, is_guest}
use Rattle.hwp_script.proofs.machine.guests.Given as goal

abbrev pub invariant-loop-process : goal.invariant-loop-process
invariant-loop-process l = l.guests ≡ first is_guest l._process
