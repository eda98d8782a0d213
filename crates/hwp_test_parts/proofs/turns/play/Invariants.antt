use Rattle.std.proofs.Common.{◌≡◌}
use Rattle.hwp_core.specs.hwp_core_rule.Boards.{view_of}
use Rattle.hwp_test_parts.proofs.turns.play.Given as goal

abbrev pub invariant-loop-other : goal.invariant-loop-other
invariant-loop-other g l =
    (l.board.layout ≡ l.fn.board.layout)
    × ((g.A.Task.task.who l.first).cpu.0 ≡ 0) × ((g.B.Task.task.who l.second).cpu.0 ≡ 1)
    × (g.A.Task.task.fits l.board.layout (view_of l.board.state 0) l.first)
    × (g.B.Task.task.fits l.board.layout (view_of l.board.state 1) l.second)
