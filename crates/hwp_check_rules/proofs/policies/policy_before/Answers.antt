use Rattle.std.proofs.Common.{◌-◌, refl, sym, ◌∙◌}
use Rattle.hwp_check_rules.proofs.SettingLaws.{policy-first, step-passed, step-set}
use Rattle.hwp_check_rules.proofs.policies.policy_before.Goals as goal

pub returns-in-Some : goal.returns-in-Some
returns-in-Some c =
    step-set c.args.layout.now c.args.commands.now c.args.done.now c.requires.each c.args.thread c.loop-back.of c.args.number c.loop-back.back (c.args.number - 1 - c.loop-back.back) _ c.index-commands-at.result _ _ c.step_of-step.result
    c.loop-back-test.true c.requires.within refl c.index-commands-at.is refl c.step_of-step.ensures c.loop-back.invariant c.in-Some.policy (sym c.set_in.ensures ∙ c.in-Some.is)

pub loop-back-preserved : goal.loop-back-preserved
loop-back-preserved c =
    step-passed c.args.layout.now c.args.commands.now c.args.done.now c.requires.each c.args.thread c.loop-back.of c.args.number c.loop-back.back (c.args.number - 1 - c.loop-back.back) _ c.index-commands-at.result _ _ c.step_of-step.result
    c.loop-back-test.true c.requires.within refl c.index-commands-at.is refl c.step_of-step.ensures c.loop-back.invariant c.next_of-of.result (sym c.set_in.ensures ∙ c.in-None.is) c.next_of-of.ensures

pub returns : goal.returns
returns c = policy-first c.args.layout.now c.args.commands.now c.args.done.now c.requires.each c.args.thread c.loop-back.of c.args.number c.loop-back.back c.loop-back-test.false c.loop-back.invariant
