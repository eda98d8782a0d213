use Rattle.std.proofs.Common.{rules, ap}
use Rattle.hwp_soft.specs.declared.soft.Soft.{Soft}
use Rattle.hwp_soft.proofs.PartEnds.{move-ends}
use Rattle.hwp_soft.proofs.soft.SoftTask.settle.Goals as goal

pub returns-in-Relocate : goal.returns-in-Relocate
returns-in-Relocate c = (search rules, rw c.in-Relocate.is (move-ends c.settle-turn-in-Relocate.result c.is_over-over.result c.settle-turn-in-Relocate.ensures c.is_over-over.ensures (ap (λ (s : Soft). s.at) c.end_with.ensures.there) c.end_with.ensures.turn))
