use Rattle.std.proofs.Common.{arith}
use Rattle.hwp_script_lines.specs.hwp_script_words.Forks.{is_away}
use Rattle.hwp_script_read.proofs.PairsWalk.{one-first, one-more, one-found, no-one}
use Rattle.hwp_script_read.proofs.forks.are_away.Goals as goal

pub loop-thread-init : goal.loop-thread-init
loop-thread-init c = one-first _ _

pub loop-thread-preserved : goal.loop-thread-preserved
loop-thread-preserved c = one-more (is_away c.args.cpu c.args.parent.0 c.args.child.0) c.args.summary.now.threads c.as_slice-threads.result.now c.as_slice-threads.ensures c.loop-thread.thread-index _ (omega arith) c.loop-thread.invariant c.if-is_away.ensures

pub returns-then-is_away : goal.returns-then-is_away
returns-then-is_away c = one-found (is_away c.args.cpu c.args.parent.0 c.args.child.0) c.args.summary.now.threads c.as_slice-threads.result.now c.as_slice-threads.ensures c.loop-thread.thread-index _ (omega arith) c.if-is_away.ensures

pub returns : goal.returns
returns c = no-one (is_away c.args.cpu c.args.parent.0 c.args.child.0) c.args.summary.now.threads c.as_slice-threads.result.now c.as_slice-threads.ensures c.loop-thread.thread-index (omega arith) c.loop-thread.invariant
