use Rattle.std.proofs.Common.{Some, None, ap, refl}
use Rattle.hwp_check_rules.proofs.SettingLaws.{set-found}
use Rattle.hwp_check_rules.proofs.policies.set_if.Goals as goal

pub returns-in-Stays : goal.returns-in-Stays
returns-in-Stays c =
    set-found c.args.layout.now c.args.commands.now c.args.done.now c.requires.each c.args.thread c.args.number _ c.index-commands-number.result _ _ c.step_of.result _ None c.requires.within
    c.index-commands-number.is refl c.step_of.ensures c.in-Stays.is refl

pub returns-in-Set : goal.returns-in-Set
returns-in-Set c =
    set-found c.args.layout.now c.args.commands.now c.args.done.now c.requires.each c.args.thread c.args.number _ c.index-commands-number.result _ _ c.step_of.result _ (Some c.in-Set.policy) c.requires.within
    c.index-commands-number.is refl c.step_of.ensures c.in-Set.is refl

pub returns-in-From : goal.returns-in-From
returns-in-From c =
    set-found c.args.layout.now c.args.commands.now c.args.done.now c.requires.each c.args.thread c.args.number _ c.index-commands-number.result _ _ c.step_of.result _ (Some c.policy_before.result) c.requires.within
    c.index-commands-number.is refl c.step_of.ensures c.in-From.is (ap Some c.policy_before.ensures)
