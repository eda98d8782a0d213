use Rattle.std.proofs.Common.{Bool, List, length, subst}
use Rattle.std.proofs.lemmas.Result.{IfOk-weaker}
use Rattle.hwp_check_causes.specs.Befores.{AreBeforeBy}
use Rattle.hwp_check_causes.proofs.BeforeLaws.{before_is}
use Rattle.hwp_check_causes.proofs.befores.policies_before.Goals as goal

pub returns : goal.returns
returns c =
    IfOk-weaker c.policies.result _ _ (λ policies are.
    before_is c.args.layout.now c.args.list.now c.args.rows.now c.in_ok-done.done.items policies.items c.in_ok-done.ensures.count c.in_ok-done.ensures.done
    (subst (λ (flags : List Bool). AreBeforeBy c.args.layout.now c.args.list.now flags (length c.args.list.now) policies.items) c.as_slice.ensures.value are))
    c.policies.ensures
