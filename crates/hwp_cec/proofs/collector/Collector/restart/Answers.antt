use Rattle.std.proofs.Common.{◌≡◌, ◌<◌, ◌≤◌, ◌∙◌, length, ap, sym, subst, [], arith}
use Rattle.std.specs.Vec.{with_items}
use Rattle.hwp_cec.specs.Counters.{Counters, StandsFor, IsCounted, begun}
use Rattle.hwp_cec.proofs.CounterLaws.{with_rows, begun-more, begun-counted, begun-stands, begun-whole}
use Rattle.hwp_cec.proofs.collector.Collector.restart.Goals as goal

pub loop-ring-preserved : goal.loop-ring-preserved
loop-ring-preserved c =
    let counts : length c.self.inside.rings.items ≡ length c.args.self.now.counts = ap (λ (v : Counters). length v.counts) c.self.view_is in
    let within : c.loop-ring.ring-index < length c.args.self.now.counts =
    omega (arith, c.loop-ring-test.true, counts, ap length c.deref_mut-ring-items.ensures.value) in
    begun-more c.args.window c.loop-ring.ring-index c.loop-ring.ring-items c.args.self.now.counts c.new.result c.loop-ring.invariant within c.new.ensures

pub invariant_of-self : goal.invariant_of-self
invariant_of-self c =
    let n = length c.args.self.now.counts in
    let same : length c.deref_mut-ring-items.result.now ≡ n = ap length c.deref_mut-ring-items.ensures.value ∙ ap (λ (v : Counters). length v.counts) c.self.view_is in
    let end : c.loop-ring.ring-index ≡ n = omega (arith, c.loop-ring-test.false, c.loop-ring.auto.ring-index-end, same) in
    let whole : with_rows c.args.threshold c.args.window (with_items c.self.inside.rings c.loop-ring.ring-items).items ≡ begun c.args.threshold c.args.window n =
    begun-whole c.args.threshold c.args.window c.loop-ring.ring-index n c.self.inside.rings c.loop-ring.ring-items c.args.self.now.counts
    c.loop-ring.invariant (omega arith) end (c.loop-ring.auto.ring-items ∙ c.deref_mut-ring-items.ensures.len) in
    subst IsCounted (sym whole) (begun-counted c.args.threshold c.args.window n c.requires.some c.requires.within c.requires.some_rounds c.requires.rounds_within)

pub returns-clause-begun : goal.returns-clause-begun
returns-clause-begun c =
    let n = length c.args.self.now.counts in
    let same : length c.deref_mut-ring-items.result.now ≡ n = ap length c.deref_mut-ring-items.ensures.value ∙ ap (λ (v : Counters). length v.counts) c.self.view_is in
    let end : c.loop-ring.ring-index ≡ n = omega (arith, c.loop-ring-test.false, c.loop-ring.auto.ring-index-end, same) in
    begun-whole c.args.threshold c.args.window c.loop-ring.ring-index n c.self.inside.rings c.loop-ring.ring-items c.args.self.now.counts
    c.loop-ring.invariant (omega arith) end (c.loop-ring.auto.ring-items ∙ c.deref_mut-ring-items.ensures.len)
