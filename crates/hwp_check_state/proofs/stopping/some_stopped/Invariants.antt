use Rattle.std.proofs.Common.{◌≡◌, drop}
use Rattle.hwp_check_state.specs.Stopping.{some_stopped}
use Rattle.hwp_check_state.proofs.stopping.some_stopped.Given as goal

abbrev pub invariant-loop-rows : goal.invariant-loop-rows
invariant-loop-rows l = some_stopped (drop l.rows-index l.fn.cpus) ≡ some_stopped l.fn.cpus
