use Rattle.hwp_cpu.specs.Processors.{AreFinished}
use Rattle.hwp_cpu.proofs.crew.rows_of.Given as goal

abbrev pub invariant-loop-processor : goal.invariant-loop-processor
invariant-loop-processor l = AreFinished l.yielded l.rows.items
