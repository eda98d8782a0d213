use Rattle.std.proofs.Common.{◌≤◌, get_or, length, arith}
use Rattle.hwp_plain.specs.Order.{running}
use Rattle.hwp_plain.proofs.Seats.{few-tasks}
use Rattle.hwp_plain.proofs.TurnTells.{play-after, read-again, told-level}
use Rattle.hwp_plain.proofs.Exits.{an-error, no-value}
use Rattle.hwp_plain.proofs.scheduler.make_turn.Goals as goal

pub returns-clause-turn : goal.returns-clause-turn
returns-clause-turn g c = told-level g.T.Task.task (running (g.B.Board.layout c.args.board.now) (g.B.Board.seat c.args.board.now) c.args.tasks.now (g.B.Board.state c.args.board.now)) (running (g.B.Board.layout c.take_turn.new.board) (g.B.Board.seat c.take_turn.new.board) c.take_turn.new.tasks (g.B.Board.state c.take_turn.new.board)) c.args.cpu c.level_after.result (get_or c.take_turn.new.tasks c.args.cpu c.index-tasks-cpu.result)
    (g.B.Board.log c.args.board.now) (g.B.Board.log c.take_turn.new.board) c.args.levels.now c.in_ok-told.told c.requires.cpu (read-again c.take_turn.new.tasks c.args.cpu c.index-tasks-cpu.result c.index-tasks-cpu.is) c.level_after.ensures.over c.in_ok-told.ensures.turn

pub returns-clause-play : goal.returns-clause-play
returns-clause-play g c = play-after g.T.Task.task c.args.levels.now (running (g.B.Board.layout c.args.board.now) (g.B.Board.seat c.args.board.now) c.args.tasks.now (g.B.Board.state c.args.board.now)) (running (g.B.Board.layout c.take_turn.new.board) (g.B.Board.seat c.take_turn.new.board) c.take_turn.new.tasks (g.B.Board.state c.take_turn.new.board)) c.args.cpu c.level_after.result (get_or c.take_turn.new.tasks c.args.cpu c.index-tasks-cpu.result)
    (g.B.Board.log c.args.board.now) (g.B.Board.log c.take_turn.new.board) c.in_ok-told.told c.requires.play c.requires.cpu c.take_turn.ensures.count c.in_ok-told.ensures.turn c.in_ok-told.ensures.ready (read-again c.take_turn.new.tasks c.args.cpu c.index-tasks-cpu.result c.index-tasks-cpu.is) c.level_after.ensures.on

pub take_turn-requires-clause-ready : goal.take_turn-requires-clause-ready
take_turn-requires-clause-ready g c = c.requires.play.ready

pub overflow_cast-cpu : goal.overflow_cast-cpu
overflow_cast-cpu g c = let few : length c.args.tasks.now ≤ 16 = few-tasks _ _ c.requires.play.ready.rule.sound c.requires.play.ready.crew.count in omega (arith, few, c.requires.cpu)

pub bounds-levels-cpu : goal.bounds-levels-cpu
bounds-levels-cpu g c = let few : length c.args.tasks.now ≤ 16 = few-tasks _ _ c.requires.play.ready.rule.sound c.requires.play.ready.crew.count in omega (arith, few, c.requires.cpu, c.requires.play.places)

pub bounds-tasks-cpu : goal.bounds-tasks-cpu
bounds-tasks-cpu g c = omega (arith, c.requires.cpu, c.take_turn.ensures.count)

pub returns-clause-count : goal.returns-clause-count
returns-clause-count g c = c.take_turn.ensures.count

pub returns-in_err-told-clause-count : goal.returns-in_err-told-clause-count
returns-in_err-told-clause-count g c = c.take_turn.ensures.count

pub returns-clause-refused : goal.returns-clause-refused
returns-clause-refused g c = tt

pub returns-in_err-told-clause-play : goal.returns-in_err-told-clause-play
returns-in_err-told-clause-play g c = no-value c.from_residual.result _ c.from_residual.ensures.0

pub returns-in_err-told-clause-turn : goal.returns-in_err-told-clause-turn
returns-in_err-told-clause-turn g c = no-value c.from_residual.result _ c.from_residual.ensures.0

pub returns-in_err-told-clause-refused : goal.returns-in_err-told-clause-refused
returns-in_err-told-clause-refused g c = an-error c.from_residual.result _ c.in_err-told.ensures.refused
