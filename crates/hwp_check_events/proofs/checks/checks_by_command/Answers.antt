use Rattle.std.proofs.Common.{rules}
use Rattle.hwp_check_events.proofs.CheckCounts.{are-checks, none-few}
use Rattle.hwp_check_events.proofs.checks.checks_by_command.Goals as goal

pub add_checks-requires : goal.add_checks-requires
add_checks-requires c = record { room = none-few c.args.cpu c.args.pages.now c.args.checkers.now c.resize.new.self.items c.requires.checkers c.requires.room (search rules) }

pub returns : goal.returns
returns c =
    are-checks c.args.cpu c.args.pages.now c.args.checkers.now c.args.count c.resize.new.self.items c.add_checks.new.counts.items c.requires.checkers (search rules) (search rules) c.add_checks.ensures
