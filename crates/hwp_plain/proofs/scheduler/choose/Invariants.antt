use Rattle.hwp_plain.proofs.LowestLevel.{Best}
use Rattle.hwp_plain.proofs.scheduler.choose.Given as goal

abbrev pub invariant-loop-i : goal.invariant-loop-i
invariant-loop-i l = Best l.levels l.i l.least l.chosen
