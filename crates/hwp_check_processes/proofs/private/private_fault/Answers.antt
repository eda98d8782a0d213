use Rattle.std.proofs.Common.{◌≡◌, ◌≤◌, length, sym, arith}
use Rattle.hwp_check_rules.proofs.of_hwp_law.ActingLaws.{private-unforked}
use Rattle.hwp_check_processes.proofs.private.private_fault.Goals as goal

pub first_fault-requires-clause-few : goal.first_fault-requires-clause-few
first_fault-requires-clause-few c =
    let one : length c.args.script.now.lists ≡ c.args.script.now.layout.cpus = c.requires.valid.one_each in
    let most : c.args.script.now.layout.cpus ≤ 16 = c.requires.valid.sound.cpus in
    omega (arith, one, most)

pub returns-else-has_fork-clause-judged : goal.returns-else-has_fork-clause-judged
returns-else-has_fork-clause-judged c = private-unforked c.args.script.now c.args.report.now (sym c.if-has_fork.ensures)
