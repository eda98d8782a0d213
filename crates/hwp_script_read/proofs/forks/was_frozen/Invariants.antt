use Rattle.hwp_script_lines.specs.hwp_script_words.Forks.{froze}
use Rattle.hwp_script_read.specs.Sums.{names_of}
use Rattle.hwp_script_read.proofs.PairsWalk.{IsNoOne}
use Rattle.hwp_script_read.proofs.forks.was_frozen.Given as goal

abbrev pub invariant-loop-command : goal.invariant-loop-command
invariant-loop-command l = IsNoOne (froze (names_of l.fn.summary) l.fn.page.0) l.fn.before l.command-index
