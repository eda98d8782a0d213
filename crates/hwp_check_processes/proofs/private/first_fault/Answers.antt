use Rattle.std.proofs.Common.{arith}
use Rattle.hwp_check_processes.proofs.PrivateLaws.{all-private, fault-is, none-under, under-next}
use Rattle.hwp_check_processes.proofs.private.first_fault.Goals as goal

pub loop-number-init : goal.loop-number-init
loop-number-init c = none-under c.args.script.now c.args.report.now

pub loop-number-preserved : goal.loop-number-preserved
loop-number-preserved c = under-next c.args.script.now c.args.report.now c.loop-number.number (rw c.in_default.is at c.in_ok-found.ensures) c.loop-number.invariant

pub returns-in-Some : goal.returns-in-Some
returns-in-Some c = fault-is c.args.script.now c.args.report.now c.loop-number.number c.in-Some.line c.loop-number.invariant (rw c.in-Some.is at c.in_ok-found.ensures)

pub returns : goal.returns
returns c = all-private c.args.script.now c.args.report.now c.loop-number.number (let past = c.loop-number-test.false in omega arith) c.loop-number.invariant
