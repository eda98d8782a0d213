use Rattle.std.proofs.Common.{refl}
use Rattle.hwp_check_rules.proofs.ActedLists.{copies-are, script-is}
use Rattle.hwp_check_rules.proofs.acted.acted_on.Goals as goal

pub returns-clause-script : goal.returns-clause-script
returns-clause-script c = script-is c.args.script.now c.args.report.now c.in_ok-lists.lists c.in_ok-lists.copies c.in_ok-lists.ensures _ c.in_ok-layout.ensures refl c.in_ok-go.ensures

pub returns-clause-copies : goal.returns-clause-copies
returns-clause-copies c = copies-are c.args.script.now c.args.report.now c.in_ok-lists.lists c.in_ok-lists.copies c.in_ok-lists.ensures
