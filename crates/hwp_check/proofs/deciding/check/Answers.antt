use Rattle.std.proofs.Common.{sym}
use Rattle.hwp_check.proofs.ActedWhole.{acted-whole, unforked-whole}
use Rattle.hwp_check.proofs.deciding.check.Goals as goal

pub check_by-requires-clause-acts : goal.check_by-requires-clause-acts
check_by-requires-clause-acts c = unforked-whole c.args.script.now c.args.report.now c.requires.valid (sym c.if-not-has_fork.ensures)

pub check_by-requires-2-clause-acts : goal.check_by-requires-2-clause-acts
check_by-requires-2-clause-acts c = acted-whole c.args.script.now c.args.report.now c.requires.valid c.in_ok-acted.acted.script c.as_slice.result.now c.in_ok-acted.ensures.script c.in_ok-acted.acted.copies c.as_slice.ensures c.in_ok-acted.ensures.copies
