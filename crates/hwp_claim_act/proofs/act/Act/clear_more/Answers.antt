use Rattle.std.proofs.Common.{ℕ, ap, refl, ◌∙◌}
use Rattle.hwp_core.specs.hwp_geom.declared.Frame.{Frame}
use Rattle.hwp_core.specs.hwp_geom.declared.Page.{Page}
use Rattle.hwp_core.specs.hwp_geom.declared.Who.{Who}
use Rattle.hwp_claim_act.specs.declared.act.ActAt.{ActAt}
use Rattle.hwp_claim_act.specs.declared.act.ActAt.TheVariants as at
use Rattle.hwp_claim_act.specs.Acts.{abandoned}
use Rattle.hwp_claim_act.proofs.act.Act.clear_more.Goals as goal

-- what follows the state that was taken out
abbrev cleared : Who → Page → Frame → ℕ → ActAt → ActAt
cleared who page frame count (at.Clear c losses failed body) = abandoned who page frame count (record { body = body; losses = losses; failed = failed })
cleared who page frame count x = x

pub returns-in-Clear-take : goal.returns-in-Clear-take
returns-in-Clear-take c =
    let same = ap (cleared c.args.self.now.who c.args.self.now.page c.args.self.now.frame c.settle-turn.new.self.count) c.in-Clear-take.ensures.taken in
    let next = rw (c.take.ensures.left, c.count-count.ensures) at c.abandoned.ensures in
    rw (c.set.ensures, c.take.ensures.left, c.in-Clear.is) (refl, (record { after = c.settle-turn.new.self; follows = c.settle-turn.ensures.0; next_is = rw (← c.is_over.ensures, c.if-is_over.true) (next ∙ same) }, refl))

pub returns-else-is_over : goal.returns-else-is_over
returns-else-is_over c = rw c.in-Clear.is (refl, (record { after = c.settle-turn.new.self; follows = c.settle-turn.ensures.0; next_is = rw (← c.is_over.ensures, c.if-is_over.false) refl }, refl))
