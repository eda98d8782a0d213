use Rattle.std.proofs.Common.{◌≡◌, drop}
use Rattle.hwp_check_state.specs.Stopping.{rows_panic}
use Rattle.hwp_check_state.proofs.stopping.has_panic.Given as goal

abbrev pub invariant-loop-line : goal.invariant-loop-line
invariant-loop-line l = rows_panic l.fn.number l.fn.frame (drop l.line-index l.fn.rows) ≡ rows_panic l.fn.number l.fn.frame l.fn.rows
