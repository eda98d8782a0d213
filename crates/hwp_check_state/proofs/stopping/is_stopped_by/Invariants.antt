use Rattle.std.proofs.Common.{◌≡◌, drop}
use Rattle.hwp_check_state.specs.Stopping.{rows_stopped_by}
use Rattle.hwp_check_state.proofs.stopping.is_stopped_by.Given as goal

abbrev pub invariant-loop-line : goal.invariant-loop-line
invariant-loop-line l = rows_stopped_by l.fn.number l.fn.by.row l.fn.by.bank l.fn.by.status (drop l.line-index l.fn.rows) ≡ rows_stopped_by l.fn.number l.fn.by.row l.fn.by.bank l.fn.by.status l.fn.rows
