use Rattle.std.proofs.Common.{◌≡◌}
use Rattle.hwp_core.specs.hwp_core_rule.Boards.{view_of}
use Rattle.hwp_core.specs.hwp_core_rule.Hands.{hand_of}
use Rattle.hwp_evict.specs.Takes.{Fits}
use Rattle.hwp_test_parts.specs.TakenFrames.{taken}
use Rattle.hwp_test_parts.proofs.words.takes.Given as goal

abbrev pub invariant-loop-kind : goal.invariant-loop-kind
invariant-loop-kind g l =
    (l.board.layout ≡ l.fn.board.layout)
    × (l.task.who.cpu.0 ≡ 0)
    × Fits l.board.layout (view_of l.board.state 0) l.task
    × (hand_of (view_of l.board.state 0) ≡ taken l.task.at)
