use Rattle.std.proofs.Common.{◌≡◌}
use Rattle.hwp_script.specs.Machine.{first, is_kernel}
use Rattle.hwp_script.proofs.machine.kernel.Given as goal

abbrev pub invariant-loop-frame : goal.invariant-loop-frame
invariant-loop-frame l = l.kernel ≡ first is_kernel l.frame
