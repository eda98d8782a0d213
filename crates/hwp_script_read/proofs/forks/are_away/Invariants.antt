use Rattle.hwp_script_lines.specs.hwp_script_words.Forks.{is_away}
use Rattle.hwp_script_read.proofs.PairsWalk.{IsNoOne}
use Rattle.hwp_script_read.proofs.forks.are_away.Given as goal

abbrev pub invariant-loop-thread : goal.invariant-loop-thread
invariant-loop-thread l = IsNoOne (is_away l.fn.cpu l.fn.parent.0 l.fn.child.0) l.fn.summary.threads l.thread-index
