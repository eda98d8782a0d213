use Rattle.std.proofs.Common.{◌≡◌, false, rules}
use Rattle.hwp_check_rules.specs.hwp_geom.Layout.{has_guests}
use Rattle.hwp_check_processes.proofs.RuleLaws.{known_asked, known_unasked}
use Rattle.hwp_check_processes.proofs.rule.known_of.Goals as goal

pub returns-then-not-has_guests-clause-known : goal.returns-then-not-has_guests-clause-known
returns-then-not-has_guests-clause-known c =
    let none : has_guests c.args.layout.now ≡ false = search rules in
    known_unasked c.args.layout.now c.args.report.now c.args.cpu c.args.commands.now c.args.rows.now c.new.result.items c.new-then-not-has_guests.result.items c.new-then-not-has_guests-2.result.items none c.new.ensures.items

pub returns-clause-known : goal.returns-clause-known
returns-clause-known c =
    known_asked c.args.layout.now c.args.report.now c.args.cpu c.args.commands.now c.args.rows.now c.in_ok-pairs.pairs.items c.in_ok-admits.admits.items c.in_ok-flags.flags.items c.in_ok-told.told.items c.requires.of_report
    c.in_ok-pairs.ensures (rw c.as_slice.ensures.value at c.in_ok-admits.ensures) c.in_ok-flags.ensures c.in_ok-told.ensures
