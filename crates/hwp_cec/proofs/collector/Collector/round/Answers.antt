use Rattle.std.proofs.Common.{◌≡◌, ◌<◌, ◌≤◌, [], ◌∷◌, ◌++◌, length, ap, sym, subst, ◌∙◌, arith}
use Rattle.std.specs.Vec.{with_items}
use Rattle.std.proofs.lemmas.List.{get_or_read}
use Rattle.hwp_cec.specs.Ages.{Round}
use Rattle.hwp_cec.specs.Counters.{Counters, StandsFor, IsCounted, next_row, rounded}
use Rattle.hwp_cec.proofs.CounterLaws.{rounded-more, with_rows, rounded-whole, rounded-counted, rounded-stands}
use Rattle.hwp_cec.proofs.collector.Collector.round.Goals as goal

pub loop-ring-preserved : goal.loop-ring-preserved
loop-ring-preserved c =
    let counts : length c.self.inside.rings.items ≡ length c.args.self.now.counts = ap (λ (v : Counters). length v.counts) c.self.view_is in
    let within : c.loop-ring.ring-index < length c.args.self.now.counts =
    omega (arith, c.loop-ring-test.true, counts, ap length c.deref_mut-ring-items.ensures.value) in
    let inside : c.loop-ring.ring-index < length c.loop-ring.ring-items = omega (arith, c.loop-ring-test.true, c.loop-ring.auto.ring-items) in
    rounded-more c.loop-ring.ring-index c.loop-ring.ring-items c.args.self.now.counts c.ring-item.result c.turn.new.self c.loop-ring.invariant within
    (get_or_read c.loop-ring.ring-items c.loop-ring.ring-index c.ring-item.result inside c.ring-item.is []) (c.turn.ensures ∙ sym (ap next_row c.ring-item.is))

pub invariant_of-self : goal.invariant_of-self
invariant_of-self c =
    let past : length c.self.inside.rings.items ≤ c.loop-ring.ring-index =
    omega (arith, c.loop-ring-test.false, ap length c.deref_mut-ring-items.ensures.value) in
    let whole : with_rows c.self.inside.threshold c.self.inside.window (with_items c.self.inside.rings c.loop-ring.ring-items).items ≡ rounded c.args.self.now =
    rounded-whole c.self.inside.threshold c.self.inside.window c.loop-ring.ring-index c.self.inside.rings c.loop-ring.ring-items c.args.self.now
    c.self.view_is c.loop-ring.invariant past (c.loop-ring.auto.ring-items ∙ c.deref_mut-ring-items.ensures.len) in
    subst IsCounted (sym whole) (rounded-counted c.args.self.now (subst IsCounted c.self.view_is c.self.invariant))

pub returns-clause-stands : goal.returns-clause-stands
returns-clause-stands c = λ events stands.
    let past : length c.self.inside.rings.items ≤ c.loop-ring.ring-index =
    omega (arith, c.loop-ring-test.false, ap length c.deref_mut-ring-items.ensures.value) in
    let whole : with_rows c.self.inside.threshold c.self.inside.window (with_items c.self.inside.rings c.loop-ring.ring-items).items ≡ rounded c.args.self.now =
    rounded-whole c.self.inside.threshold c.self.inside.window c.loop-ring.ring-index c.self.inside.rings c.loop-ring.ring-items c.args.self.now
    c.self.view_is c.loop-ring.invariant past (c.loop-ring.auto.ring-items ∙ c.deref_mut-ring-items.ensures.len) in
    subst (StandsFor (events ++ Round ∷ [])) (sym whole) (rounded-stands c.args.self.now events (subst IsCounted c.self.view_is c.self.invariant) stands)
