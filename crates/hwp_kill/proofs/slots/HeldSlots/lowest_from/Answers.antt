use Rattle.std.proofs.Common.{◌≡◌, ◌*◌, max, refl, arith}
use Rattle.hwp_kill.proofs.Search.{SearchedTo-first, SearchedTo-behind, found-behind, none_found-behind}
use Rattle.hwp_kill.proofs.slots.HeldSlots.lowest_from.Goals as goal

pub loop-at-init : goal.loop-at-init
loop-at-init c =
    let begin : c.max-at.result ≡ max c.from.result (c.from-first.result * 64) = c.max-at.ensures in
    let first : c.from-first.result ≡ c.self.inside.first = c.from-first.ensures in
    let from : c.from.result ≡ c.args.slot.0 = c.from.ensures in
    (SearchedTo-first c.self.inside.first c.self.inside.words.items c.args.slot.0 c.max-at.result (omega arith) (λ high. omega (arith, high)), omega arith)

pub returns-in-Some-clause-lowest : goal.returns-in-Some-clause-lowest
returns-in-Some-clause-lowest c =
    rw (← c.self.view_is) (found-behind c.self.inside.first c.self.inside.words.items _ _ c.index.result.now _
    c.loop-at.invariant.0 (let high = c.loop-at.invariant.1 in omega arith) (omega arith) (rw c.from-first.ensures at c.index.ensures) c.in-Some.ensures.lowest _ refl)

pub loop-at-preserved : goal.loop-at-preserved
loop-at-preserved c = (
  SearchedTo-behind c.self.inside.first c.self.inside.words.items _ _ c.index.result.now
      c.loop-at.invariant.0 (let high = c.loop-at.invariant.1 in omega arith) (omega arith) (rw c.from-first.ensures at c.index.ensures) c.in_default.ensures.lowest,
  let high = c.loop-at.invariant.1 in omega arith,
)

pub returns-clause-lowest : goal.returns-clause-lowest
returns-clause-lowest c =
    rw (← c.self.view_is) (none_found-behind c.self.inside.first c.self.inside.words.items _ _ c.loop-at.invariant.0 (omega arith))
