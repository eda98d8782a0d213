use Rattle.std.proofs.Common.{◌≡◌, replicate, ap, sym, subst, ◌∙◌, [], ℕ, arith}
use Rattle.hwp_cec.specs.Counters.{StandsFor, IsCounted, begun}
use Rattle.hwp_cec.proofs.CounterLaws.{row, with_rows, begun-counted, begun-stands, begun-push}
use Rattle.hwp_cec.proofs.collector.Collector.new.Goals as goal

pub loop-preserved : goal.loop-preserved
loop-preserved c = record {
  room = rw c.push_reserved.ensures.capacity c.loop.invariant.room;
  made = begun-push c.args.window c.loop.counter c.loop.rings.items c.push_reserved.new.self.items c.new.result c.loop.invariant.made c.new.ensures c.push_reserved.ensures.items;
}

pub invariant_of-result : goal.invariant_of-result
invariant_of-result c =
    let end : c.loop.counter ≡ c.args.frames = omega (arith, c.loop-test.false, c.loop.auto.counter-end) in
    let whole : with_rows c.args.threshold c.args.window c.loop.rings.items ≡ begun c.args.threshold c.args.window c.args.frames =
    ap (with_rows c.args.threshold c.args.window) (c.loop.invariant.made ∙ ap (λ (k : ℕ). replicate k (row c.args.window)) end) in
    subst IsCounted (sym whole) (begun-counted c.args.threshold c.args.window c.args.frames c.requires.some c.requires.within c.requires.some_rounds c.requires.rounds_within)

pub returns-clause-begun : goal.returns-clause-begun
returns-clause-begun c =
    let end : c.loop.counter ≡ c.args.frames = omega (arith, c.loop-test.false, c.loop.auto.counter-end) in
    ap (with_rows c.args.threshold c.args.window) (c.loop.invariant.made ∙ ap (λ (k : ℕ). replicate k (row c.args.window)) end)

pub returns-clause-stands : goal.returns-clause-stands
returns-clause-stands c =
    let end : c.loop.counter ≡ c.args.frames = omega (arith, c.loop-test.false, c.loop.auto.counter-end) in
    let whole : with_rows c.args.threshold c.args.window c.loop.rings.items ≡ begun c.args.threshold c.args.window c.args.frames =
    ap (with_rows c.args.threshold c.args.window) (c.loop.invariant.made ∙ ap (λ (k : ℕ). replicate k (row c.args.window)) end) in
    subst (StandsFor []) (sym whole) (begun-stands c.args.threshold c.args.window c.args.frames)
