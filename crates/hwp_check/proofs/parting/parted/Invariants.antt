use Rattle.std.proofs.Common.{length}
use Rattle.hwp_check.specs.Parting.{GoesOn}
use Rattle.hwp_check.proofs.parting.parted.Given as goal

abbrev pub invariant-loop-line : goal.invariant-loop-line
invariant-loop-line l = GoesOn l.input l.rest

abbrev pub decreases-loop-line : goal.decreases-loop-line
decreases-loop-line l = length l.rest
