use Rattle.hwp_script_lines.specs.hwp_script_words.Forks.{is_odd}
use Rattle.hwp_script_read.proofs.PairsWalk.{IsNoPair}
use Rattle.hwp_script_read.proofs.forks.has_odd.Given as goal

abbrev pub invariant-loop-number : goal.invariant-loop-number
invariant-loop-number l = IsNoPair (is_odd l.fn.parent.0 l.fn.child.0 l.fn.page.0) l.fn.summary.trans l.fn.summary.twins.items l.number
