use Rattle.std.proofs.Common.{◌+◌, Bool, List, ap, length, subst, ◌∙◌}
use Rattle.hwp_check_rules.specs.Pasts.{AreCounts, settings_by}
use Rattle.hwp_check_rules.proofs.SettingLaws.{past_is}
use Rattle.hwp_check_rules.proofs.pasts.past_of.Goals as goal

pub returns : goal.returns
returns c =
    past_is c.args.script.now c.args.report.now c.args.thread (record { cpu = c.args.cpu; policies = c.in_ok-policies.policies; done = c.in_ok-done.done })
    c.commands_of-commands.result.now c.rows_on.result.now c.in_ok-flags.flags.items c.requires c.commands_of-commands.ensures c.rows_on.ensures c.in_ok-flags.ensures.count c.in_ok-flags.ensures.done
    (c.in_ok-policies.ensures ∙ ap (λ (l : List Bool). settings_by c.args.script.now.layout c.args.thread c.commands_of-commands.result.now l) c.as_slice.ensures.value)
    (subst (λ (l : List Bool). AreCounts c.args.script.now.layout c.args.thread c.commands_of-commands.result.now l (length c.commands_of-commands.result.now + 1) c.in_ok-done.done) c.as_slice-2.ensures.value c.in_ok-done.ensures)
