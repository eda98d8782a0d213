use Rattle.std.proofs.Common.{◌≡◌, drop}
use Rattle.hwp_check_event_line.specs.Results.{has_result}
use Rattle.hwp_check_event_line.proofs.records.has_result.Given as goal

abbrev pub invariant-loop-mark : goal.invariant-loop-mark
invariant-loop-mark l = has_result l.fn.who l.fn.acted (drop l.mark-index l.fn.marks) ≡ has_result l.fn.who l.fn.acted l.fn.marks
