use Rattle.std.proofs.Common.{◌∙◌}
use Rattle.hwp_check_event_line.proofs.ResultLaws.{kept_is}
use Rattle.hwp_check_event_line.proofs.results.has_number.Goals as goal

pub returns : goal.returns
returns c = c.has_key.ensures ∙ kept_is c.args.report.now c.args.results.now c.args.who c.args.frame c.args.number c.requires
