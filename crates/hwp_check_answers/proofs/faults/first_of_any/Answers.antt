use Rattle.std.proofs.Common.{sym, arith}
use Rattle.hwp_check_answers.proofs.TallyLaws.{any-all, any-here, any-next, any-none}
use Rattle.hwp_check_answers.proofs.faults.first_of_any.Goals as goal

pub loop-number-init : goal.loop-number-init
loop-number-init c = any-none c.args.commands c.args.rows.now

pub returns-then-is_of : goal.returns-then-is_of
returns-then-is_of c = any-here c.args.commands c.args.rows.now c.loop-number.number _ c.loop-number-test.true (sym c.if-is_of.ensures) c.loop-number.invariant

pub loop-number-preserved : goal.loop-number-preserved
loop-number-preserved c = any-next c.args.commands c.args.rows.now c.loop-number.number _ c.loop-number-test.true (sym c.if-is_of.ensures) c.loop-number.invariant

pub returns : goal.returns
returns c = any-all c.args.commands c.args.rows.now c.loop-number.number (omega arith) c.loop-number.invariant
