use Rattle.hwp_check_causes.proofs.BeforeLaws.{before_more}
use Rattle.hwp_check_causes.proofs.befores.policies.Goals as goal

pub loop-number-preserved : goal.loop-number-preserved
loop-number-preserved c =
    before_more c.args.layout.now c.args.list.now c.args.done.now c.loop-number.number c.loop-number.policies.items _ c.policy_of.result c.loop-number.invariant c.policy_of.ensures c.in_ok-push.ensures.items
