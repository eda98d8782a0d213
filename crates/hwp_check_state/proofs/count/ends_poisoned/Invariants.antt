use Rattle.std.proofs.Common.{◌≡◌, take}
use Rattle.hwp_check_rules.specs.hwp_law.Records.{ends_poisoned}
use Rattle.hwp_check_state.proofs.count.ends_poisoned.Given as goal

abbrev pub invariant-loop-mark : goal.invariant-loop-mark
invariant-loop-mark l = l.poisoned ≡ ends_poisoned (take l.mark-index l.fn.marks)
