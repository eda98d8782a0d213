use Rattle.std.proofs.Common.{arith}
use Rattle.hwp_check.proofs.ActedVerdicts.{answered_held, count_holds, losses_broken, shape_held}
use Rattle.hwp_check.proofs.late.counted_verdict.Goals as goal

pub losses_fault-requires-clause-answers : goal.losses_fault-requires-clause-answers
losses_fault-requires-clause-answers c = answered_held c.args.script.now c.args.report.now c.args.acted.now c.args.copies.now c.requires.acts (omega arith) c.requires.below

pub losses_fault-requires-clause-shape : goal.losses_fault-requires-clause-shape
losses_fault-requires-clause-shape c = shape_held c.args.script.now c.args.report.now c.args.acted.now c.args.copies.now c.requires.acts (omega arith) c.requires.below

pub returns-in-Some-2 : goal.returns-in-Some-2
returns-in-Some-2 c =
    losses_broken c.args.script.now c.args.report.now c.args.acted.now c.args.copies.now c.requires.acts c.in-Some-2.line
    (count_holds c.args.script.now c.args.report.now c.args.acted.now c.args.copies.now c.requires.acts c.requires.below (rw c.in_default.is at c.count_fault.ensures)) (rw c.in-Some-2.is at c.in_ok-line.ensures)
