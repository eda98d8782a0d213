use Rattle.hwp_script_lines.specs.hwp_script_words.Forks.{is_used_by}
use Rattle.hwp_script_read.specs.Sums.{names_of}
use Rattle.hwp_script_read.proofs.PairsWalk.{IsNoOne}
use Rattle.hwp_script_read.proofs.forks.is_used.Given as goal

abbrev pub invariant-loop-command : goal.invariant-loop-command
invariant-loop-command l = IsNoOne (is_used_by (names_of l.fn.summary) l.fn.process.0) l.fn.before l.command-index
