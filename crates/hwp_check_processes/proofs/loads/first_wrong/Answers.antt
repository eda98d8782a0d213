use Rattle.std.proofs.Common.{arith}
use Rattle.std.proofs.lemmas.Option.{slice_get-get_or}
use Rattle.hwp_check_processes.proofs.LoadLaws.{kept-none, kept_all, kept_next, wrong_first}
use Rattle.hwp_check_processes.proofs.loads.first_wrong.Goals as goal

pub loop-number-init : goal.loop-number-init
loop-number-init c = kept-none c.args.layout.now c.args.report.now c.args.cpu c.args.commands.now c.args.rows.now c.args.pairs.now

pub loop-number-preserved : goal.loop-number-preserved
loop-number-preserved c =
    kept_next c.args.layout.now c.args.report.now c.args.cpu c.args.commands.now c.args.rows.now c.args.pairs.now c.loop-number.number _ (slice_get-get_or c.args.rows.now c.loop-number.number _ c.loop-number-test.true)
    c.if-is_wrong.ensures c.loop-number.invariant

pub returns-then-is_wrong : goal.returns-then-is_wrong
returns-then-is_wrong c =
    wrong_first c.args.layout.now c.args.report.now c.args.cpu c.args.commands.now c.args.rows.now c.args.pairs.now c.loop-number.number _ (slice_get-get_or c.args.rows.now c.loop-number.number _ c.loop-number-test.true)
    c.if-is_wrong.ensures c.loop-number.invariant

pub returns : goal.returns
returns c = kept_all c.args.layout.now c.args.report.now c.args.cpu c.args.commands.now c.args.rows.now c.args.pairs.now c.loop-number.number (let past = c.loop-number-test.false in omega arith) c.loop-number.invariant
