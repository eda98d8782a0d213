use Rattle.std.proofs.Common.{◌≡◌, ◌-◌}
use Rattle.hwp_check_rules.specs.Pasts.{policy_by}
use Rattle.hwp_check_rules.proofs.policies.policy_before.Given as goal

abbrev pub invariant-loop-back : goal.invariant-loop-back
invariant-loop-back l = policy_by l.fn.layout l.of l.fn.commands l.fn.done (l.fn.number - l.back) ≡ policy_by l.fn.layout l.fn.thread l.fn.commands l.fn.done l.fn.number
