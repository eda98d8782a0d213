use Rattle.hwp_script_read.specs.Context.{forks}
use Rattle.hwp_script_read.proofs.PairsWalk.{IsNoOne}
use Rattle.hwp_script_read.proofs.forks.were_forked.Given as goal

abbrev pub invariant-loop-line : goal.invariant-loop-line
invariant-loop-line l = IsNoOne (forks l.fn.process.0) l.fn.above l.line-index
