use Rattle.std.proofs.Common.{arith}
use Rattle.hwp_check.proofs.ActedVerdicts.{frames_broken, frames_holds, legal_held}
use Rattle.hwp_check.proofs.InOrder.{all-hold}
use Rattle.hwp_check.proofs.late.late_verdict.Goals as goal

pub returns-in-None : goal.returns-in-None
returns-in-None c =
    all-hold c.args.script.now c.args.report.now
    (frames_holds c.args.script.now c.args.report.now c.args.acted.now c.args.copies.now c.requires.acts (rw c.in_default-2.is at c.in_ok-verdict-2.ensures) (rw c.in-None.is at c.in_ok-line.ensures))

pub frames_fault-requires-clause-legal : goal.frames_fault-requires-clause-legal
frames_fault-requires-clause-legal c = legal_held c.args.script.now c.args.report.now c.args.acted.now c.args.copies.now c.requires.acts (omega arith) c.requires.below

pub returns-in-Some-3 : goal.returns-in-Some-3
returns-in-Some-3 c = frames_broken c.args.script.now c.args.report.now c.args.acted.now c.args.copies.now c.requires.acts c.in-Some-3.line (rw c.in_default-2.is at c.in_ok-verdict-2.ensures) (rw c.in-Some-3.is at c.in_ok-line.ensures)
