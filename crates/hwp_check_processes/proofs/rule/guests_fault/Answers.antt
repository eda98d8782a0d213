use Rattle.std.proofs.Common.{arith}
use Rattle.hwp_check_processes.proofs.RuleLaws.{fault-is, no-fault, none-under, under-next}
use Rattle.hwp_check_processes.proofs.rule.guests_fault.Goals as goal

pub loop-number-init : goal.loop-number-init
loop-number-init c = none-under c.args.script.now c.args.report.now

pub loop-number-preserved : goal.loop-number-preserved
loop-number-preserved c = under-next c.args.script.now c.args.report.now c.loop-number.number (rw c.in_default.is at c.in_ok-found.ensures.judged) c.loop-number.invariant

pub returns-in-Some-clause-judged : goal.returns-in-Some-clause-judged
returns-in-Some-clause-judged c = fault-is c.args.script.now c.args.report.now c.loop-number.number c.in-Some.line c.loop-number.invariant (rw c.in-Some.is at c.in_ok-found.ensures.judged)

pub returns-clause-judged : goal.returns-clause-judged
returns-clause-judged c = no-fault c.args.script.now c.args.report.now c.loop-number.number (let past = c.loop-number-test.false in omega arith) c.loop-number.invariant
