use Rattle.hwp_check_answers.proofs.Reports.{breaks}
use Rattle.hwp_check_answers.proofs.events.lines_break.Goals as goal
use Rattle.hwp_check_rules.specs.hwp_check_event_line.Reading.{copies_in}

pub returns : goal.returns
returns c = breaks c.args.script.now (copies_in c.args.copies.now) c.args.report.now c.requires c.small_masks.ensures
