use Rattle.std.proofs.Common.{◌≡◌, false, not, drop}
use Rattle.hwp_check_event_line.specs.Ended.{may_end}
use Rattle.hwp_check_event_line.proofs.records.may_end.Given as goal

abbrev pub invariant-loop-mark : goal.invariant-loop-mark
invariant-loop-mark l = may_end l.fn.who l.fn.poisoned l.may l.late (drop l.mark-index l.fn.marks) ≡ may_end l.fn.who l.fn.poisoned (not l.fn.poisoned) false l.fn.marks
