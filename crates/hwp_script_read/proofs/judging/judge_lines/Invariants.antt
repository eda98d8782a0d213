use Rattle.hwp_script_read.proofs.JudgeLaws.{AreSoFar}
use Rattle.hwp_script_read.proofs.judging.judge_lines.Given as goal

abbrev pub invariant-loop-line : goal.invariant-loop-line
invariant-loop-line l = AreSoFar l.fn.lines.items l.yielded l.forms.items l.summary
