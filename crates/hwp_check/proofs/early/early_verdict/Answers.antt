use Rattle.hwp_check.proofs.ActedVerdicts.{histories_broken, none_below, shape_broken, shape_holds}
use Rattle.hwp_check.proofs.early.early_verdict.Goals as goal

pub returns-in-Some : goal.returns-in-Some
returns-in-Some c = shape_broken c.args.script.now c.args.report.now c.args.acted.now c.args.copies.now c.requires.acts c.in-Some.line (none_below c.args.script.now c.args.report.now c.args.acted.now c.args.copies.now c.requires.acts) (rw c.in-Some.is at c.shape_fault.ensures)

pub returns-in-Some-histories_fault : goal.returns-in-Some-histories_fault
returns-in-Some-histories_fault c =
    histories_broken c.args.script.now c.args.report.now c.args.acted.now c.args.copies.now c.requires.acts c.in-Some-histories_fault.line
    (shape_holds c.args.script.now c.args.report.now c.args.acted.now c.args.copies.now c.requires.acts (none_below c.args.script.now c.args.report.now c.args.acted.now c.args.copies.now c.requires.acts) (rw c.in_default.is at c.shape_fault.ensures)) (rw c.in-Some-histories_fault.is at c.histories_fault.ensures)
