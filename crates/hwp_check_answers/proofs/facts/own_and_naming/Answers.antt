use Rattle.hwp_check_answers.proofs.FactLaws.{namings}
use Rattle.hwp_check_answers.proofs.facts.own_and_naming.Goals as goal
use Rattle.hwp_check_rules.specs.hwp_check_event_line.Reading.{copies_in}

pub returns-clause-naming : goal.returns-clause-naming
returns-clause-naming c =
    namings (copies_in c.args.copies.now) c.args.report.now c.args.cpu c.args.commands.now c.args.rows.now (record { names = c.in_ok-names.names; others = c.in_ok-own.others }) c.in_ok-names.ensures c.in_ok-own.ensures.many c.in_ok-own.ensures.others
