use Rattle.std.proofs.Common.{◌<◌}
use Rattle.hwp_geom.specs.declared.Proc.{Proc}
use Rattle.hwp_kill.specs.Next.{HasNoneLeft}
use Rattle.hwp_kill.proofs.next.next_to_read.Given as goal

abbrev pub invariant-loop-number : goal.invariant-loop-number
invariant-loop-number l = (p : Proc) → p.0 < l.number → HasNoneLeft l.layout l.maps l.current l.seen p
