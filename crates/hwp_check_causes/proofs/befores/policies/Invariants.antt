use Rattle.hwp_check_causes.specs.Befores.{AreBeforeBy}
use Rattle.hwp_check_causes.proofs.befores.policies.Given as goal

abbrev pub invariant-loop-number : goal.invariant-loop-number
invariant-loop-number l = AreBeforeBy l.fn.layout l.fn.list l.fn.done l.number l.policies.items
