use Rattle.std.proofs.Common.{rules, ap, ◌∙◌}
use Rattle.hwp_soft.specs.declared.soft.Soft.{Soft}
use Rattle.hwp_soft.proofs.PartEnds.{take-ends}
use Rattle.hwp_soft.proofs.soft.Soft.settle_held.Goals as goal

pub returns-in-Some : goal.returns-in-Some
returns-in-Some c = (
  search rules,
  rw c.in-Take.is (
    take-ends (ap (λ (s : Soft). s.who) c.take_movable-body.ensures.left) (ap (λ (s : Soft). s.frame) c.take_movable-body.ensures.left) c.take_movable-body.ensures.held.0 c.take_movable-body.ensures.held.1
        c.settle-turn.ensures.0 (rw (← c.in-Some.is) c.answer.ensures.answer) (ap (λ (s : Soft). s.at) c.set.ensures ∙ c.after_take.ensures c.settle-turn.new.self),
    c.settle-turn.ensures.1,
  ),
)
