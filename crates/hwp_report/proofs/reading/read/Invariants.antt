use Rattle.std.proofs.Common.{length}
use Rattle.hwp_report.proofs.ByteWalk.{IsGoing}
use Rattle.hwp_report.proofs.reading.read.Given as goal

abbrev pub invariant-loop-line : goal.invariant-loop-line
invariant-loop-line l = IsGoing l.bytes l.partial l.rest l.number

abbrev pub decreases-loop-line : goal.decreases-loop-line
decreases-loop-line l = length l.rest
