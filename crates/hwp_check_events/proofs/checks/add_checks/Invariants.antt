use Rattle.std.proofs.Common.{take}
use Rattle.hwp_check_events.specs.Indexed.{AreAdded, checks_by}
use Rattle.hwp_check_events.proofs.checks.add_checks.Given as goal

abbrev pub invariant-loop-number : goal.invariant-loop-number
invariant-loop-number l = AreAdded (λ seq. checks_by l.fn.cpu seq (take l.number l.fn.checkers)) l.fn.counts.items l.counts.items
