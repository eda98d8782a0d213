use Rattle.std.proofs.Common.{◌≡◌, false, drop}
use Rattle.hwp_check_state.specs.Stopping.{stays}
use Rattle.hwp_check_state.proofs.stopping.stays_stopped.Given as goal

abbrev pub invariant-loop-row : goal.invariant-loop-row
invariant-loop-row l = stays l.stopped (drop l.row-index l.fn.rows) ≡ stays false l.fn.rows
