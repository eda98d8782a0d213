use Rattle.hwp_plain.proofs.BoardTurns.{takes-turn}
use Rattle.hwp_table.proofs.ops.SeatBoardBoard.advance.Goals as goal

pub returns-clause-turn : goal.returns-clause-turn
returns-clause-turn g c =
    takes-turn g.M.Task.task c.args.self.now c.begin.new.self c.advance-turn.new.o c.end.new.self c.args.cpu c.args.task.now c.advance-turn.new.m c.advance-turn.result c.made.result
    c.begin.ensures c.end.ensures c.made.ensures c.advance-turn.ensures.turn
