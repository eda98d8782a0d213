-- What the arguments of a call of prctl(2) set, by what it replies.
use Rattle.std.proofs.Common.{◌≡◌, ℕ, Bool, true, false, cond, List, Option, Some, None, ap}
use Rattle.std.proofs.lemmas.Option.{none-some}
use Rattle.hwp_core_rule.specs.hwp_kill.declared.Policy.{Policy}
use Rattle.hwp_core_rule.specs.hwp_kill.declared.Reply.{Reply}
use Rattle.hwp_core_rule.specs.hwp_kill.declared.Reply.TheVariants as replies
use Rattle.hwp_core_rule.specs.hwp_kill.Prctl.{asks_policy, policy_set, reply, setting}

abbrev of_set : Reply → Option Policy
of_set (replies.Set policy) = Some policy
of_set _ = None

-- a policy is set just where the arguments set it
pub set-says : (old : Policy) (given : List ℕ) (policy : Policy) → reply old given ≡ replies.Set policy → policy_set given ≡ Some policy
set-says old given policy is = which (asks_policy given) (policy_set given) is
  where
    which : (b : Bool) (o : Option Policy) → cond b (replies.Is old) (setting o) ≡ replies.Set policy → o ≡ Some policy
    which true o e = absurd (none-some policy (ap of_set e))
    which false None e = absurd (none-some policy (ap of_set e))
    which false (Some p) e = ap of_set e
