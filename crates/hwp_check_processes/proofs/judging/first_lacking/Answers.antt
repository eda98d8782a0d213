use Rattle.std.proofs.Common.{arith}
use Rattle.std.proofs.lemmas.Option.{slice_get-get_or}
use Rattle.hwp_check_processes.proofs.JudgeLaws.{enough-none, enough_all, enough_next, lacking-law, lacking_first, law-lacking}
use Rattle.hwp_check_processes.proofs.judging.first_lacking.Goals as goal

pub loop-number-init : goal.loop-number-init
loop-number-init c = enough-none c.args.layout.now c.args.commands.now c.args.rows.now

pub loop-number-preserved : goal.loop-number-preserved
loop-number-preserved c =
    enough_next c.args.layout.now c.args.commands.now c.args.rows.now c.loop-number.number _ (slice_get-get_or c.args.rows.now c.loop-number.number _ c.loop-number-test.true)
    (λ lacks. c.if-is_lacking.ensures (law-lacking c.args.layout.now c.args.commands.now c.args.rows.now c.args.told.now c.requires.told _ lacks)) c.loop-number.invariant

pub returns-then-is_lacking : goal.returns-then-is_lacking
returns-then-is_lacking c =
    lacking_first c.args.layout.now c.args.commands.now c.args.rows.now c.loop-number.number _ (slice_get-get_or c.args.rows.now c.loop-number.number _ c.loop-number-test.true)
    (lacking-law c.args.layout.now c.args.commands.now c.args.rows.now c.args.told.now c.requires.told _ c.if-is_lacking.ensures) c.loop-number.invariant

pub returns : goal.returns
returns c = enough_all c.args.layout.now c.args.commands.now c.args.rows.now c.loop-number.number (let past = c.loop-number-test.false in omega arith) c.loop-number.invariant
