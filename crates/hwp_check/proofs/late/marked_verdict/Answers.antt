use Rattle.std.proofs.Common.{arith}
use Rattle.hwp_check.proofs.ActedVerdicts.{answered_held, marks_broken, seen_broken, seen_holds}
use Rattle.hwp_check.proofs.late.marked_verdict.Goals as goal

pub marks_fault-requires-clause-answered : goal.marks_fault-requires-clause-answered
marks_fault-requires-clause-answered c = answered_held c.args.script.now c.args.report.now c.args.acted.now c.args.copies.now c.requires.acts (omega arith) c.requires.below

pub returns-in-Some : goal.returns-in-Some
returns-in-Some c = seen_broken c.args.script.now c.args.report.now c.args.acted.now c.args.copies.now c.requires.acts c.in-Some.line c.requires.below (rw c.in-Some.is at c.in_ok-line.ensures)

pub returns-in-Some-2 : goal.returns-in-Some-2
returns-in-Some-2 c =
    marks_broken c.args.script.now c.args.report.now c.args.acted.now c.args.copies.now c.requires.acts c.in-Some-2.line
    (seen_holds c.args.script.now c.args.report.now c.args.acted.now c.args.copies.now c.requires.acts c.requires.below (rw c.in_default.is at c.in_ok-line.ensures)) (rw c.in-Some-2.is at c.in_ok-line-2.ensures)
