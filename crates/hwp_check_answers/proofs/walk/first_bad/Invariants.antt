use Rattle.hwp_check_answers.specs.Walk.{AreGoodLines, AreSoFarAt, answered_before}
use Rattle.hwp_check_answers.proofs.walk.first_bad.Given as goal

abbrev pub invariant-loop-number : goal.invariant-loop-number
invariant-loop-number l = AreSoFarAt l.fn.processor l.number (answered_before l.fn.processor l.number) l.so_far × AreGoodLines l.fn.processor l.number
