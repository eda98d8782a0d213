use Rattle.std.proofs.Common.{arith}
use Rattle.hwp_script_lines.specs.hwp_script_words.Forks.{is_odd}
use Rattle.hwp_script_read.proofs.PairsWalk.{pair-first, pair-more, pair-found, no-pair}
use Rattle.hwp_script_read.proofs.forks.has_odd.Goals as goal

pub loop-number-init : goal.loop-number-init
loop-number-init c = pair-first _ _ _

pub loop-number-preserved : goal.loop-number-preserved
loop-number-preserved c =
    pair-more (is_odd c.args.parent.0 c.args.child.0 c.args.page.0) c.args.summary.now.trans c.args.summary.now.twins.items c.as_slice-trans.result.now c.as_slice-twins.result.now c.as_slice-trans.ensures c.as_slice-twins.ensures.value c.loop-number.number _ _ (omega arith) c.loop-number.invariant c.if-is_odd.ensures

pub returns-then-is_odd : goal.returns-then-is_odd
returns-then-is_odd c =
    pair-found (is_odd c.args.parent.0 c.args.child.0 c.args.page.0) c.args.summary.now.trans c.args.summary.now.twins.items c.as_slice-trans.result.now c.as_slice-twins.result.now c.as_slice-trans.ensures c.as_slice-twins.ensures.value c.loop-number.number _ _ (omega arith) c.if-is_odd.ensures

pub returns : goal.returns
returns c = no-pair (is_odd c.args.parent.0 c.args.child.0 c.args.page.0) c.args.summary.now.trans c.args.summary.now.twins.items c.as_slice-trans.result.now c.as_slice-twins.result.now c.as_slice-trans.ensures c.as_slice-twins.ensures.value c.loop-number.number (omega arith) c.loop-number.invariant
