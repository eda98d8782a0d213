use Rattle.std.proofs.Common.{arith, refl}
use Rattle.hwp_kill.proofs.Search.{SearchedTo-next, none_found, found}
use Rattle.hwp_kill.proofs.slots.Slots.lowest_from.Goals as goal

pub returns-in-Some-clause-lowest : goal.returns-in-Some-clause-lowest
returns-in-Some-clause-lowest c =
    rw (← c.self.view_is) (found c.loop-at.invariant (omega arith) c.in-Some.ensures.lowest _ refl)

pub loop-at-preserved : goal.loop-at-preserved
loop-at-preserved c = SearchedTo-next c.loop-at.invariant c.in_default.ensures.lowest

pub returns-clause-lowest : goal.returns-clause-lowest
returns-clause-lowest c =
    rw (← c.self.view_is) (none_found c.loop-at.invariant c.self.invariant (omega arith))
