use Rattle.std.proofs.Common.{ℕ, MatchOption, Option, sym, subst}
use Rattle.hwp_check_rules.specs.Rules.{LossesFit}
use Rattle.hwp_check_state.proofs.LossRule.{rule-is}
use Rattle.hwp_check_state.proofs.losses.losses_fault.Goals as goal
use Rattle.hwp_check_rules.specs.Firsts.{IsFirstFault}
use Rattle.hwp_check_rules.specs.Faults.{IsLossFault}

pub returns : goal.returns
returns c =
    subst (λ (o : Option ℕ). MatchOption o (LossesFit c.args.script.now c.args.report.now) (IsFirstFault (LossesFit c.args.script.now c.args.report.now) (IsLossFault c.args.script.now c.args.report.now))) (sym c.soonest.ensures)
    (rule-is c.args.script.now c.args.report.now c.requires.shape c.lost_fault-lost.result c.in_ok-told.told c.lost_fault-lost.ensures c.in_ok-told.ensures)
