use Rattle.std.proofs.Common.{length, take}
use Rattle.hwp_plain.specs.Order.{running, Finishing}
use Rattle.hwp_plain.specs.Rank.{rank}
use Rattle.hwp_plain.specs.Ready.{InPlay, IsNext}
use Rattle.hwp_plain.proofs.ScheduleTells.{SoFar}
use Rattle.hwp_plain.proofs.scheduler.finish.Given as goal

abbrev pub invariant-loop-next : goal.invariant-loop-next
invariant-loop-next g l = record {
  play : InPlay g.T.Task.task l.levels (running (g.B.Board.layout l.board) (g.B.Board.seat l.board) l.tasks (g.B.Board.state l.board));
  next : IsNext (take (length l.tasks) l.levels) l.next;
  so_far : SoFar (Finishing g.T.Task.task) (running (g.B.Board.layout l.fn.board) (g.B.Board.seat l.fn.board) l.fn.tasks (g.B.Board.state l.fn.board)) (g.B.Board.log l.fn.board) (running (g.B.Board.layout l.board) (g.B.Board.seat l.board) l.tasks (g.B.Board.state l.board)) (g.B.Board.log l.board);
}

abbrev pub decreases-loop-next : goal.decreases-loop-next
decreases-loop-next g l = rank g.T.Task.task (running (g.B.Board.layout l.board) (g.B.Board.seat l.board) l.tasks (g.B.Board.state l.board)) (take (length l.tasks) l.levels) l.next
