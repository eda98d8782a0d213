use Rattle.std.proofs.Common.{refl, ◌∙◌}
use Rattle.hwp_plain.specs.Order.{running}
use Rattle.hwp_plain.proofs.Seats.{few-tasks}
use Rattle.hwp_plain.proofs.ScheduleTells.{schedule-start, schedule-next, in-order}
use Rattle.hwp_plain.proofs.TurnTells.{play-start}
use Rattle.hwp_plain.proofs.Exits.{an-error, no-value}
use Rattle.hwp_plain.proofs.scheduler.step_all.Goals as goal

pub levels_of-levels-requires : goal.levels_of-levels-requires
levels_of-levels-requires g c = record { few = few-tasks _ _ c.loop-word.invariant.ready.rule.sound c.loop-word.invariant.ready.crew.count }

pub finish-requires : goal.finish-requires
finish-requires g c = record { play = play-start g.T.Task.task c.levels_of-levels.result (running (g.B.Board.layout c.loop-word.board) (g.B.Board.seat c.loop-word.board) c.loop-word.tasks (g.B.Board.state c.loop-word.board)) c.loop-word.invariant.ready c.levels_of-levels.ensures.0 c.levels_of-levels.ensures.1 }

pub loop-word-init : goal.loop-word-init
loop-word-init g c = record {
  ready = record { law = λ some. record { ranked = c.ranked.ensures; tells = c.tells.ensures.class; pays = c.tells.ensures.pays }; rule = c.keeps.ensures.rule; seats = c.keeps.ensures.seats; crew = c.requires.crew };
  count = refl;
  so_far = schedule-start g.T.Task.task (running (g.B.Board.layout c.args.board.now) (g.B.Board.seat c.args.board.now) c.args.tasks.now (g.B.Board.state c.args.board.now)) (g.B.Board.log c.args.board.now);
}

pub loop-word-preserved : goal.loop-word-preserved
loop-word-preserved g c = record {
  ready = c.in_ok-play_word.ensures.ready;
  count = c.play_word.ensures.count ∙ c.loop-word.invariant.count;
  so_far = schedule-next g.T.Task.task (running (g.B.Board.layout c.args.board.now) (g.B.Board.seat c.args.board.now) c.args.tasks.now (g.B.Board.state c.args.board.now)) (g.B.Board.log c.args.board.now) (running (g.B.Board.layout c.loop-word.board) (g.B.Board.seat c.loop-word.board) c.loop-word.tasks (g.B.Board.state c.loop-word.board)) (g.B.Board.log c.loop-word.board) c.args.go.now c.loop-word.word-index _ (running (g.B.Board.layout c.play_word.new.board) (g.B.Board.seat c.play_word.new.board) c.play_word.new.tasks (g.B.Board.state c.play_word.new.board)) (g.B.Board.log c.play_word.new.board)
      c.loop-word-test.true c.loop-word.invariant.so_far c.in_ok-play_word.ensures.word;
}

pub returns-clause-order : goal.returns-clause-order
returns-clause-order g c = in-order g.T.Task.task (running (g.B.Board.layout c.args.board.now) (g.B.Board.seat c.args.board.now) c.args.tasks.now (g.B.Board.state c.args.board.now)) (g.B.Board.log c.args.board.now) (running (g.B.Board.layout c.loop-word.board) (g.B.Board.seat c.loop-word.board) c.loop-word.tasks (g.B.Board.state c.loop-word.board)) (g.B.Board.log c.loop-word.board) c.args.go.now c.loop-word.word-index (running (g.B.Board.layout c.finish.new.board) (g.B.Board.seat c.finish.new.board) c.finish.new.tasks (g.B.Board.state c.finish.new.board)) (g.B.Board.log c.finish.new.board)
    c.loop-word-test.false c.loop-word.invariant.so_far c.in_ok-finish.ensures.order

pub play_word-requires-clause-ready : goal.play_word-requires-clause-ready
play_word-requires-clause-ready g c = c.loop-word.invariant.ready

pub returns-clause-crew : goal.returns-clause-crew
returns-clause-crew g c = c.in_ok-finish.ensures.play.ready.crew

pub returns-clause-over : goal.returns-clause-over
returns-clause-over g c = c.in_ok-finish.ensures.over

pub returns-clause-refused : goal.returns-clause-refused
returns-clause-refused g c = tt

pub returns-in_err-play_word-clause-crew : goal.returns-in_err-play_word-clause-crew
returns-in_err-play_word-clause-crew g c = no-value c.from_residual.result _ c.from_residual.ensures.0

pub returns-in_err-play_word-clause-over : goal.returns-in_err-play_word-clause-over
returns-in_err-play_word-clause-over g c = no-value c.from_residual.result _ c.from_residual.ensures.0

pub returns-in_err-play_word-clause-order : goal.returns-in_err-play_word-clause-order
returns-in_err-play_word-clause-order g c = no-value c.from_residual.result _ c.from_residual.ensures.0

pub returns-in_err-finish-clause-crew : goal.returns-in_err-finish-clause-crew
returns-in_err-finish-clause-crew g c = no-value c.from_residual-in_err-finish.result _ c.from_residual-in_err-finish.ensures.0

pub returns-in_err-finish-clause-over : goal.returns-in_err-finish-clause-over
returns-in_err-finish-clause-over g c = no-value c.from_residual-in_err-finish.result _ c.from_residual-in_err-finish.ensures.0

pub returns-in_err-finish-clause-order : goal.returns-in_err-finish-clause-order
returns-in_err-finish-clause-order g c = no-value c.from_residual-in_err-finish.result _ c.from_residual-in_err-finish.ensures.0

pub returns-in_err-play_word-clause-refused : goal.returns-in_err-play_word-clause-refused
returns-in_err-play_word-clause-refused g c = an-error c.from_residual.result _ c.in_err-play_word.ensures.refused

pub returns-in_err-finish-clause-refused : goal.returns-in_err-finish-clause-refused
returns-in_err-finish-clause-refused g c = an-error c.from_residual-in_err-finish.result _ c.in_err-finish.ensures.refused
