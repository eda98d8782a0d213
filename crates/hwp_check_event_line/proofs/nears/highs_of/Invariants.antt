use Rattle.std.proofs.Common.{◌≡◌, ◌++◌, drop}
use Rattle.hwp_check_event_line.specs.Nears.{highs}
use Rattle.hwp_check_event_line.proofs.nears.highs_of.Given as goal

abbrev pub invariant-loop-mark : goal.invariant-loop-mark
invariant-loop-mark l = l.list.items ++ highs l.fn.cpu l.high (drop l.mark-index l.fn.marks) ≡ highs l.fn.cpu 0 l.fn.marks
