use Rattle.std.proofs.Common.{rules, ◌≡◌, true, IsTrue}
use Rattle.hwp_check_rules.specs.hwp_report_text.declared.How.TheVariants as hows
use Rattle.hwp_check_rules.specs.hwp_report_text.declared.MarkLine.TheVariants as marks
use Rattle.hwp_check_frames.proofs.Results.{next-is}
use Rattle.hwp_check_frames.proofs.records.has_event.Goals as goal

pub returns-in-Failure-true-default-default : goal.returns-in-Failure-true-default-default
returns-in-Failure-true-default-default c =
    let mark_is : c.args.mark.now ≡ marks.Poisoned c.in-Poisoned.cycle c.in-Poisoned.who c.in-Poisoned.how = search rules in
    let how_is : c.in-Poisoned.how ≡ hows.Failure c.in-Failure-true-default-default.hardware c.in-Failure-true-default-default.situation c.in-Failure-true-default-default.outcome = search rules in
    let by_hardware : c.in-Failure-true-default-default.hardware ≡ true = search rules in
    next-is c.args.report.now c.args.frame c.args.before.now c.args.mark.now c.in-Poisoned.cycle c.in-Poisoned.who c.in-Poisoned.how c.in-Failure-true-default-default.hardware
    c.in-Failure-true-default-default.situation c.in-Failure-true-default-default.outcome (IsTrue c.is_next_result.result) mark_is how_is by_hardware
    (rw (← c.in-Failure-true-default-default.outcome-is) c.is_next_result.ensures)
