use Rattle.std.proofs.Common.{◌≤◌, Bool, List, length, ap, sym, subst, ◌∙◌}
use Rattle.hwp_check_rules.specs.Pasts.{AreDone}
use Rattle.hwp_check_state.proofs.DoneLaws.{done-all, done-next}
use Rattle.hwp_check_state.proofs.dones.done_commands.Goals as goal

pub loop-number-preserved : goal.loop-number-preserved
loop-number-preserved c =
    done-next c.args.script.now c.args.report.now c.loop-number.out.items c.add_flagged.new.out.items c.loop-number.number c.commands_of-commands.result.now c.rows_on.result.now c.as_slice.result.now
    c.commands_of-commands.ensures c.rows_on.ensures (ap length c.as_slice.ensures.value ∙ c.in_ok-flags.ensures.count)
    (subst (λ (l : List Bool). AreDone c.rows_on.result.now l) (sym c.as_slice.ensures.value) c.in_ok-flags.ensures.done) c.in_ok-add_flagged.ensures c.loop-number.invariant

pub returns : goal.returns
returns c =
    let all : c.len-number-end.result ≤ c.loop-number.number = c.loop-number-test.false in
    done-all c.args.script.now c.args.report.now c.loop-number.out.items c.loop-number.number (subst (λ n. n ≤ c.loop-number.number) c.len-number-end.ensures all) c.loop-number.invariant
