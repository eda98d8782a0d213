use Rattle.hwp_check_answers.proofs.LastLaws.{behind_there}
use Rattle.hwp_check_answers.proofs.judging.has_store_behind.Goals as goal

pub returns : goal.returns
returns c = behind_there c.args.report.now c.args.who c.args.at c.entries_on.result.now c.stores_behind.result c.entries_on.ensures c.stores_behind.ensures
