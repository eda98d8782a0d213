use Rattle.std.proofs.Common.{◌≡◌, drop}
use Rattle.hwp_check_state.specs.Stopping.{has_stopped}
use Rattle.hwp_check_state.proofs.stopping.has_stopped.Given as goal

abbrev pub invariant-loop-row : goal.invariant-loop-row
invariant-loop-row l = has_stopped (drop l.row-index l.fn.rows) ≡ has_stopped l.fn.rows
