use Rattle.hwp_check_causes.proofs.PlainLaws.{caused-plain, plain-caused}
use Rattle.hwp_check_causes.proofs.plain.is_plain.Goals as goal

pub returns : goal.returns
returns c = (
  λ is. plain-caused c.args.case.now.script c.args.case.now.report c.args.case.now.who c.args.case.now.command c.args.answer.now (c.is_plain_right.ensures.0 is),
  λ caused. c.is_plain_right.ensures.1 (caused-plain c.args.case.now.script c.args.case.now.report c.args.case.now.who c.args.case.now.command c.args.answer.now c.requires caused),
)
