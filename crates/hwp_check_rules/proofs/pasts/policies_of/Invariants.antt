use Rattle.std.proofs.Common.{◌≡◌, take}
use Rattle.hwp_law.specs.Settings.{settings}
use Rattle.hwp_check_rules.specs.Pasts.{by_flags}
use Rattle.hwp_check_rules.proofs.pasts.policies_of.Given as goal

abbrev pub invariant-loop-number : goal.invariant-loop-number
invariant-loop-number l = l.list.items ≡ settings l.fn.layout l.fn.thread (take l.number (by_flags l.fn.commands l.fn.done))
