use Rattle.hwp_check_answers.proofs.SiftLaws.{cut_none}
use Rattle.hwp_check_answers.proofs.sifting.cut.Goals as goal

pub returns-in-None : goal.returns-in-None
returns-in-None c = cut_none c.args.commands.now c.args.rows.now c.in-None.ensures
