use Rattle.std.proofs.Common.{arith}
use Rattle.hwp_check.proofs.ActedVerdicts.{histories_held}
use Rattle.hwp_check.proofs.deciding.answers_line.Goals as goal

pub answers_fault-requires-clause-histories : goal.answers_fault-requires-clause-histories
answers_fault-requires-clause-histories c = histories_held c.args.script.now c.args.report.now c.args.acted.now c.args.copies.now c.requires.acts (omega arith) c.requires.below
