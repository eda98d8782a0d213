use Rattle.std.proofs.Common.{◌≤◌, length, ap, ◌∙◌, arith}
use Rattle.hwp_law.specs.Settings.{settings}
use Rattle.hwp_check_rules.specs.Pasts.{by_flags}
use Rattle.hwp_check_rules.proofs.SettingLaws.{all-taken, policies-more}
use Rattle.hwp_check_rules.proofs.pasts.policies_of.Goals as goal

pub loop-number-preserved : goal.loop-number-preserved
loop-number-preserved c =
    policies-more c.args.layout.now c.args.commands.now c.args.done.now c.requires.each c.args.thread c.loop-number.number c.loop-number.list.items c.add_policy.new.list.items c.set_if.result c.loop-number-test.true c.loop-number.invariant c.set_if.ensures
    c.in_ok-add_policy.ensures

pub returns : goal.returns
returns c =
    c.from_vec.ensures ∙ c.loop-number.invariant
    ∙ ap (settings c.args.layout.now c.args.thread) (all-taken c.args.layout.now c.args.commands.now c.args.done.now c.loop-number.number (let past = c.loop-number-test.false in omega arith))
