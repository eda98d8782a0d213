use Rattle.std.proofs.Common.{◌≡◌, length, take}
use Rattle.hwp_plain.specs.Order.{running}
use Rattle.hwp_plain.specs.Ready.{Ready}
use Rattle.hwp_plain.proofs.ScheduleTells.{ScheduleSoFar}
use Rattle.hwp_plain.proofs.scheduler.step_all.Given as goal

abbrev pub invariant-loop-word : goal.invariant-loop-word
invariant-loop-word g l = record {
  ready : Ready g.T.Task.task (running (g.B.Board.layout l.board) (g.B.Board.seat l.board) l.tasks (g.B.Board.state l.board));
  count : length l.tasks ≡ length l.fn.tasks;
  so_far : ScheduleSoFar g.T.Task.task (take l.word-index l.go) (running (g.B.Board.layout l.fn.board) (g.B.Board.seat l.fn.board) l.fn.tasks (g.B.Board.state l.fn.board)) (g.B.Board.log l.fn.board) (running (g.B.Board.layout l.board) (g.B.Board.seat l.board) l.tasks (g.B.Board.state l.board)) (g.B.Board.log l.board);
}
