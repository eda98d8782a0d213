use Rattle.std.proofs.Common.{refl, ap, ◌∙◌, arith}
use Rattle.hwp_script_read.specs.Context.{forks}
use Rattle.hwp_script_read.proofs.PairsWalk.{one-first, one-more, one-found, no-one}
use Rattle.hwp_script_read.proofs.forks.were_forked.Goals as goal

pub loop-line-init : goal.loop-line-init
loop-line-init c = one-first _ _

pub loop-line-preserved : goal.loop-line-preserved
loop-line-preserved c = one-more (forks c.args.process.0) c.args.above.now c.args.above.now refl c.loop-line.line-index _ (omega arith) c.loop-line.invariant (c.if-forks.ensures ∙ ap (forks c.args.process.0) c.line-item.is)

pub returns-then-forks : goal.returns-then-forks
returns-then-forks c = one-found (forks c.args.process.0) c.args.above.now c.args.above.now refl c.loop-line.line-index _ (omega arith) (c.if-forks.ensures ∙ ap (forks c.args.process.0) c.line-item.is)

pub returns : goal.returns
returns c = no-one (forks c.args.process.0) c.args.above.now c.args.above.now refl c.loop-line.line-index (omega arith) c.loop-line.invariant
