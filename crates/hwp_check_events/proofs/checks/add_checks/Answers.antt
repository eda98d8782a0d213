use Rattle.std.proofs.Common.{arith}
use Rattle.hwp_check_events.proofs.CheckCounts.{checks-few, checks-first, checks-last, checks-next}
use Rattle.hwp_check_events.proofs.checks.add_checks.Goals as goal

pub add_check-requires : goal.add_check-requires
add_check-requires c = record { room = checks-few c.args.cpu c.args.checkers.now c.args.counts.now.items c.loop-number.counts.items c.loop-number.number c.loop-number-test.true c.requires.room c.loop-number.invariant }

pub loop-number-preserved : goal.loop-number-preserved
loop-number-preserved c =
    checks-next c.args.cpu c.args.checkers.now c.args.counts.now.items c.loop-number.counts.items c.add_check.new.counts.items c.loop-number.number _ c.loop-number-test.true c.add_check.ensures c.loop-number.invariant

pub loop-number-init : goal.loop-number-init
loop-number-init c = checks-first c.args.cpu c.args.checkers.now c.args.counts.now.items

pub returns : goal.returns
returns c = checks-last c.args.cpu c.args.checkers.now c.args.counts.now.items c.loop-number.counts.items c.loop-number.number (let past = c.loop-number-test.false in omega arith) c.loop-number.invariant
