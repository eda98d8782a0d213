use Rattle.std.proofs.Common.{arith}
use Rattle.hwp_check_processes.proofs.WordLaws.{freeze-here, freeze-later, freeze-never}
use Rattle.hwp_check_processes.proofs.words.frozen_at.Goals as goal

pub returns-then-freezes_slot-clause-at : goal.returns-then-freezes_slot-clause-at
returns-then-freezes_slot-clause-at c =
    freeze-here c.args.layout.now c.args.slot c.args.pairs.now c.loop-number.number _ c.index-pairs-number.result c.loop-number-test.true c.index-pairs-number.is c.if-freezes_slot.ensures c.loop-number.invariant

pub loop-number-preserved : goal.loop-number-preserved
loop-number-preserved c =
    freeze-later c.args.layout.now c.args.slot c.args.pairs.now c.loop-number.number _ c.index-pairs-number.result c.loop-number-test.true c.index-pairs-number.is c.if-freezes_slot.ensures c.loop-number.invariant

pub returns-clause-at : goal.returns-clause-at
returns-clause-at c = freeze-never c.args.layout.now c.args.slot c.args.pairs.now c.loop-number.number (let past = c.loop-number-test.false in omega arith) c.loop-number.invariant
