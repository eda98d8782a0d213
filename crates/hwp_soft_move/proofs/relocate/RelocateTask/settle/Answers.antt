use Rattle.std.proofs.Common.{true, false, sym, ◌∙◌}
use Rattle.hwp_soft_move.proofs.RemapTurns.{goes-on}
use Rattle.hwp_soft_move.proofs.relocate.RelocateTask.settle.Goals as goal
use Rattle.hwp_soft_move.proofs.relocate.RelocateTask.settle.Goals.{then-is_over-2, else-is_over-2}

pub returns-after-is_over-2 : goal.returns-after-is_over-2
returns-after-is_over-2 c = elim c.if-is_over-2.branch [
  | then-is_over-2 w ↦ goes-on {r = c.args.self.now} c.in-Remap.remap c.settle.new.self true c.args.found c.in-Remap.is c.settle.ensures (sym w.if-is_over-2.true ∙ c.is_over-in-Remap.ensures) (w.self-is ∙ w.set-then-is_over-2.ensures)
  | else-is_over-2 w ↦ goes-on {r = c.args.self.now} c.in-Remap.remap c.settle.new.self false c.args.found c.in-Remap.is c.settle.ensures (sym w.if-is_over-2.false ∙ c.is_over-in-Remap.ensures) w.self-is
]
