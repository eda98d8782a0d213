use Rattle.std.proofs.Common.{subst}
use Rattle.hwp_core_rule.specs.hwp_geom.declared.Cpu.{Cpu}
use Rattle.hwp_core_rule.specs.Boards.{AreSeated}
use Rattle.hwp_plain.specs.Boards.{Board}
use Rattle.hwp_table.specs.Turns.{turns_of}
use Rattle.hwp_table.proofs.Seated.{seated}
use Rattle.hwp_table.proofs.board.SeatBoard.reached.Goals as goal

pub returns-clause-seats : goal.returns-clause-seats
returns-clause-seats g c = subst (λ (b : Board). AreSeated b.layout b.state (λ (cpu : Cpu). cpu.0)) c.self.view_is
    (seated g.N.OfTable.table c.self.inside.layout.now c.self.inside.seats.items c.self.inside.holder (turns_of c.self.inside.turns) c.self.inside.seat.0 c.self.invariant.board)
