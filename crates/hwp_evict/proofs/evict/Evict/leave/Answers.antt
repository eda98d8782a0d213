use Rattle.std.proofs.Common.{ap, refl, ◌∙◌}
use Rattle.hwp_core.specs.hwp_geom.declared.Page.{Page}
use Rattle.hwp_core.specs.hwp_geom.declared.Who.{Who}
use Rattle.hwp_evict.specs.declared.evict.EvictAt.{EvictAt}
use Rattle.hwp_evict.specs.declared.evict.EvictAt.TheVariants as at
use Rattle.hwp_evict.specs.Evicts.{after_clear}
use Rattle.hwp_evict.proofs.evict.Evict.leave.Goals as goal

-- what follows the state that was taken out
abbrev cleared : Who → Page → EvictAt → EvictAt
cleared who page (at.Clear c body done) = after_clear who page c body done
cleared who page x = x

pub returns-in-Clear-take : goal.returns-in-Clear-take
returns-in-Clear-take c =
    let same = ap (cleared c.args.self.now.who c.args.self.now.page) c.in-Clear-take.ensures.taken in
    rw (c.set.ensures, c.take.ensures.left, c.in-Clear.is) (refl, (record { after = c.settle-turn.new.self; follows = c.settle-turn.ensures.0; next_is = rw c.take.ensures.left at c.after_clear.ensures ∙ same }, refl))

pub returns-else-is_over : goal.returns-else-is_over
returns-else-is_over c = rw c.in-Clear.is (refl, (record { after = c.settle-turn.new.self; follows = c.settle-turn.ensures.0; next_is = rw (← c.is_over.ensures, c.if-is_over.false) refl }, refl))
