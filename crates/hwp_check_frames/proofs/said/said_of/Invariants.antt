use Rattle.hwp_check_frames.specs.Said.{AreNoted, said_below}
use Rattle.hwp_check_frames.proofs.said.said_of.Given as goal

abbrev pub invariant-loop-cpu : goal.invariant-loop-cpu
invariant-loop-cpu l = AreNoted (said_below l.cpu l.fn.report) l.said.many l.said.rows
