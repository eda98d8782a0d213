use Rattle.std.proofs.Common.{get_or, set, refl}
use Rattle.std.proofs.lemmas.Bool.{both_ways}
use Rattle.hwp_plain.specs.Order.{running}
use Rattle.hwp_plain.proofs.TurnTells.{turn-told, turn-refused, ready-told, read-again}
use Rattle.hwp_plain.proofs.scheduler.take_turn.Goals as goal

pub returns-clause-turn : goal.returns-clause-turn
returns-clause-turn g c = turn-told g.T.Task.task (g.B.Board.layout c.args.board.now) (g.B.Board.layout c.advance-turn.new.self) (g.B.Board.seat c.args.board.now) (g.B.Board.seat c.advance-turn.new.self) c.args.tasks.now (g.B.Board.state c.args.board.now) (g.B.Board.state c.advance-turn.new.self) (g.B.Board.log c.args.board.now) (g.B.Board.log c.advance-turn.new.self) c.args.cpu.0 (get_or c.args.tasks.now c.args.cpu.0 c.index-tasks-cpu.result) c.advance-turn.new.task c.advance-turn.result
    c.requires.ready c.requires.cpu (read-again c.args.tasks.now c.args.cpu.0 c.index-tasks-cpu.result c.index-tasks-cpu.is) c.advance-turn.ensures.turn
    c.advance-turn.ensures.same c.advance-turn.ensures.rule (λ h. both_ways c.is_refused.result c.if-is_refused.false (c.is_refused.ensures.1 h))

pub returns-clause-ready : goal.returns-clause-ready
returns-clause-ready g c = ready-told g.T.Task.task (running (g.B.Board.layout c.args.board.now) (g.B.Board.seat c.args.board.now) c.args.tasks.now (g.B.Board.state c.args.board.now))
    (running (g.B.Board.layout c.advance-turn.new.self) (g.B.Board.seat c.advance-turn.new.self) (set c.args.tasks.now c.args.cpu.0 c.advance-turn.new.task) (g.B.Board.state c.advance-turn.new.self)) c.args.cpu.0 c.advance-turn.new.task
    (g.B.Board.log c.args.board.now) (g.B.Board.log c.advance-turn.new.self) c.advance-turn.result c.requires.ready c.requires.cpu (returns-clause-turn g c) c.keeps.ensures.seats c.advance-turn.ensures.own c.advance-turn.ensures.fits c.advance-turn.ensures.others refl

pub returns-then-is_refused-clause-refused : goal.returns-then-is_refused-clause-refused
returns-then-is_refused-clause-refused g c = turn-refused g.T.Task.task (g.B.Board.layout c.args.board.now) (g.B.Board.layout c.advance-turn.new.self) (g.B.Board.seat c.args.board.now) (g.B.Board.seat c.advance-turn.new.self) c.args.tasks.now (g.B.Board.state c.args.board.now) (g.B.Board.state c.advance-turn.new.self) (g.B.Board.log c.args.board.now) (g.B.Board.log c.advance-turn.new.self) c.args.cpu.0 (get_or c.args.tasks.now c.args.cpu.0 c.index-tasks-cpu.result) c.advance-turn.new.task c.advance-turn.result
    c.requires.ready c.requires.cpu (read-again c.args.tasks.now c.args.cpu.0 c.index-tasks-cpu.result c.index-tasks-cpu.is) c.advance-turn.ensures.turn
    (c.is_refused.ensures.0 c.if-is_refused.true)
