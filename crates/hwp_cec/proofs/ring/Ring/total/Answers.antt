use Rattle.std.proofs.Common.{◌≡◌, sym, ap, ◌∙◌, take, sum}
use Rattle.hwp_cec.proofs.RingLaws.{sum-turned}
use Rattle.hwp_cec.proofs.ring.Ring.total.Goals as goal

pub sum_of-requires : goal.sum_of-requires
sum_of-requires c =
    let same : sum c.args.self.now ≡ sum (take c.self.inside.window c.self.inside.counts) =
    ap sum (sym c.self.view_is) ∙ sum-turned c.self.inside.first (take c.self.inside.window c.self.inside.counts) in
    rw (c.from.ensures, ← same) c.requires

pub returns : goal.returns
returns c =
    rw (c.sum_of.ensures, c.from.ensures, ← c.self.view_is) (sym (sum-turned c.self.inside.first (take c.self.inside.window c.self.inside.counts)))
