use Rattle.std.proofs.Common.{subst}
use Rattle.std.specs.Arc.{arc_value}
use Rattle.hwp_core_rule.specs.hwp_geom.declared.Cpu.{Cpu}
use Rattle.hwp_core_rule.specs.Boards.{AreSeated}
use Rattle.hwp_plain.specs.Boards.{Board}
use Rattle.hwp_plain.proofs.BoardTurns.{seated}
use Rattle.hwp_plain.proofs.board.PlainBoard.reached.Goals as goal

pub returns-clause-seats : goal.returns-clause-seats
returns-clause-seats c = subst (λ (b : Board). AreSeated b.layout b.state (λ (cpu : Cpu). cpu.0)) c.self.view_is
    (seated (arc_value c.self.inside.layout) c.self.inside.words.items c.self.inside.slots.items c.self.inside.trail)
