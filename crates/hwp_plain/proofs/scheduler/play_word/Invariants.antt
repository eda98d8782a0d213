use Rattle.std.proofs.Common.{◌≡◌, length}
use Rattle.hwp_plain.specs.Order.{running, Word}
use Rattle.hwp_plain.specs.Rank.{need_at, words_in}
use Rattle.hwp_plain.specs.Ready.{Ready}
use Rattle.hwp_plain.proofs.ScheduleTells.{SoFar}
use Rattle.hwp_plain.proofs.scheduler.play_word.Given as goal

abbrev pub invariant-loop-turn : goal.invariant-loop-turn
invariant-loop-turn g l = record {
  ready : Ready g.T.Task.task (running (g.B.Board.layout l.board) (g.B.Board.seat l.board) l.tasks (g.B.Board.state l.board));
  count : length l.tasks ≡ length l.fn.tasks;
  so_far : SoFar (Word g.T.Task.task l.go) (running (g.B.Board.layout l.fn.board) (g.B.Board.seat l.fn.board) l.fn.tasks (g.B.Board.state l.fn.board)) (g.B.Board.log l.fn.board) (running (g.B.Board.layout l.board) (g.B.Board.seat l.board) l.tasks (g.B.Board.state l.board)) (g.B.Board.log l.board);
}

abbrev pub decreases-loop-turn : goal.decreases-loop-turn
decreases-loop-turn g l = need_at g.T.Task.task l.tasks (words_in (running (g.B.Board.layout l.board) (g.B.Board.seat l.board) l.tasks (g.B.Board.state l.board))) l.go.cpu.0
