use Rattle.std.proofs.Common.{◌≡◌}
use Rattle.hwp_script.specs.Machine.{first, is_locked}
use Rattle.hwp_script.proofs.machine.locked.Given as goal

abbrev pub invariant-loop-page : goal.invariant-loop-page
invariant-loop-page l = l.locked ≡ first is_locked l._page
