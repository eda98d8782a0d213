use Rattle.std.proofs.Common.{arith}
use Rattle.hwp_check_processes.specs.Busy.{told_by}
use Rattle.hwp_check_processes.proofs.Folds.{folded-all, folded-next}
use Rattle.hwp_check_processes.proofs.busy.mark_rows.Goals as goal

pub loop-row-preserved : goal.loop-row-preserved
loop-row-preserved c =
    folded-next told_by c.args.rows.now c.loop-row.row-index _ c.loop-row.flags.items c.mark_row.new.flags.items _ c.loop-row-test.true
    c.mark_row.ensures c.loop-row.invariant

pub returns : goal.returns
returns c = folded-all told_by c.args.rows.now c.loop-row.row-index c.loop-row.flags.items _ (let past = c.loop-row-test.false in omega arith) c.loop-row.invariant
