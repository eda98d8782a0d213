use Rattle.hwp_check_causes.proofs.CauseLaws.{caused_last, last_caused}
use Rattle.hwp_check_causes.proofs.right.is_last.Goals as goal

pub returns : goal.returns
returns c = (
  λ is. last_caused c.args.case.now.script c.args.case.now.report c.args.case.now.who c.args.case.now.command c.args.answer.now c.requires (c.is_last_right.ensures.0 is),
  λ caused. c.is_last_right.ensures.1 (caused_last c.args.case.now.script c.args.case.now.report c.args.case.now.who c.args.case.now.command c.args.answer.now c.requires caused),
)
