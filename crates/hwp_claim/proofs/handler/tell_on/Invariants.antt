use Rattle.std.proofs.Common.{◌≡◌, length}
use Rattle.hwp_claim.specs.Handlers.{tell_on}
use Rattle.hwp_claim.proofs.handler.tell_on.Given as goal

abbrev pub invariant-loop-held : goal.invariant-loop-held
invariant-loop-held l = tell_on l.layout l.alloc l.who l.thread l.stops l.events.left l.events.told ≡ tell_on l.layout l.alloc l.who l.thread l.stops l.fn.events.left l.fn.events.told

abbrev pub decreases-loop-held : goal.decreases-loop-held
decreases-loop-held l = length l.events.left
