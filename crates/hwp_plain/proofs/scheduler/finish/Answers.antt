use Rattle.std.proofs.Common.{◌<◌, ℕ, Option, length, subst, sym, take}
use Rattle.hwp_plain.specs.Order.{running, Finishing, IsChosen}
use Rattle.hwp_plain.specs.Rank.{rank}
use Rattle.hwp_plain.specs.Ready.{IsNext}
use Rattle.hwp_plain.proofs.Chosen.{all-over}
use Rattle.hwp_plain.proofs.ScheduleTells.{finish-end, sofar-start}
use Rattle.hwp_plain.proofs.TurnTells.{told-finishes, told-lowers}
use Rattle.hwp_plain.proofs.Exits.{an-error, no-value}
use Rattle.hwp_plain.proofs.scheduler.finish.Goals as goal

pub loop-next-smaller : goal.loop-next-smaller
loop-next-smaller g c = subst (λ (o : Option ℕ). rank g.T.Task.task (running (g.B.Board.layout c.make_turn.new.board) (g.B.Board.seat c.make_turn.new.board) c.make_turn.new.tasks (g.B.Board.state c.make_turn.new.board)) (take (length c.make_turn.new.tasks) c.make_turn.new.levels) c.choose-next-in-Some.result < rank g.T.Task.task (running (g.B.Board.layout c.loop-next.board) (g.B.Board.seat c.loop-next.board) c.loop-next.tasks (g.B.Board.state c.loop-next.board)) (take (length c.loop-next.tasks) c.loop-next.levels) o) (sym c.in-Some.is)
    (told-lowers g.T.Task.task (running (g.B.Board.layout c.loop-next.board) (g.B.Board.seat c.loop-next.board) c.loop-next.tasks (g.B.Board.state c.loop-next.board)) (running (g.B.Board.layout c.make_turn.new.board) (g.B.Board.seat c.make_turn.new.board) c.make_turn.new.tasks (g.B.Board.state c.make_turn.new.board)) c.in-Some.cpu (g.B.Board.log c.loop-next.board) (g.B.Board.log c.make_turn.new.board) c.loop-next.levels c.make_turn.new.levels c.in_ok-make_turn.field-0 c.loop-next.invariant.play c.in_ok-make_turn.ensures.play
    (subst (λ (o : Option ℕ). IsNext (take (length c.loop-next.tasks) c.loop-next.levels) o) c.in-Some.is c.loop-next.invariant.next)
    c.in_ok-make_turn.ensures.turn
    c.choose-next-in-Some.result c.choose-next-in-Some.ensures)

pub loop-next-preserved : goal.loop-next-preserved
loop-next-preserved g c = record {
  play = c.in_ok-make_turn.ensures.play;
  next = c.choose-next-in-Some.ensures;
  so_far = told-finishes g.T.Task.task (running (g.B.Board.layout c.loop-next.board) (g.B.Board.seat c.loop-next.board) c.loop-next.tasks (g.B.Board.state c.loop-next.board)) (running (g.B.Board.layout c.make_turn.new.board) (g.B.Board.seat c.make_turn.new.board) c.make_turn.new.tasks (g.B.Board.state c.make_turn.new.board)) c.in-Some.cpu (g.B.Board.log c.loop-next.board) (g.B.Board.log c.make_turn.new.board) c.loop-next.levels c.make_turn.new.levels c.in_ok-make_turn.field-0 c.loop-next.invariant.play c.in_ok-make_turn.ensures.play
      (subst (λ (o : Option ℕ). IsNext (take (length c.loop-next.tasks) c.loop-next.levels) o) c.in-Some.is c.loop-next.invariant.next)
      c.in_ok-make_turn.ensures.turn
      (running (g.B.Board.layout c.args.board.now) (g.B.Board.seat c.args.board.now) c.args.tasks.now (g.B.Board.state c.args.board.now)) (g.B.Board.log c.args.board.now) c.loop-next.invariant.so_far;
}

pub returns-clause-over : goal.returns-clause-over
returns-clause-over g c = all-over g.T.Task.task c.loop-next.tasks (take (length c.loop-next.tasks) c.loop-next.levels) c.loop-next.invariant.play.are c.loop-next.invariant.play.ready.law
    (subst (λ (o : Option ℕ). IsNext (take (length c.loop-next.tasks) c.loop-next.levels) o) c.in_default.is c.loop-next.invariant.next)

pub returns-clause-order : goal.returns-clause-order
returns-clause-order g c = finish-end g.T.Task.task (running (g.B.Board.layout c.args.board.now) (g.B.Board.seat c.args.board.now) c.args.tasks.now (g.B.Board.state c.args.board.now)) (g.B.Board.log c.args.board.now) (running (g.B.Board.layout c.loop-next.board) (g.B.Board.seat c.loop-next.board) c.loop-next.tasks (g.B.Board.state c.loop-next.board)) (g.B.Board.log c.loop-next.board) c.loop-next.invariant.so_far (returns-clause-over g c)

pub loop-next-init : goal.loop-next-init
loop-next-init g c = record { play = c.requires.play; next = c.choose-next.ensures; so_far = sofar-start (Finishing g.T.Task.task) (running (g.B.Board.layout c.args.board.now) (g.B.Board.seat c.args.board.now) c.args.tasks.now (g.B.Board.state c.args.board.now)) (g.B.Board.log c.args.board.now) }

pub make_turn-requires-clause-play : goal.make_turn-requires-clause-play
make_turn-requires-clause-play g c = c.loop-next.invariant.play

pub make_turn-requires-clause-cpu : goal.make_turn-requires-clause-cpu
make_turn-requires-clause-cpu g c =
    let chosen : IsChosen (take (length c.loop-next.tasks) c.loop-next.levels) c.in-Some.cpu = subst (λ (o : Option ℕ). IsNext (take (length c.loop-next.tasks) c.loop-next.levels) o) c.in-Some.is c.loop-next.invariant.next in
    subst (λ (n : ℕ). c.in-Some.cpu < n) c.loop-next.invariant.play.are.count chosen.within

pub returns-clause-play : goal.returns-clause-play
returns-clause-play g c = c.loop-next.invariant.play

pub returns-clause-refused : goal.returns-clause-refused
returns-clause-refused g c = tt

pub returns-in_err-make_turn-clause-play : goal.returns-in_err-make_turn-clause-play
returns-in_err-make_turn-clause-play g c = no-value c.from_residual.result _ c.from_residual.ensures.0

pub returns-in_err-make_turn-clause-over : goal.returns-in_err-make_turn-clause-over
returns-in_err-make_turn-clause-over g c = no-value c.from_residual.result _ c.from_residual.ensures.0

pub returns-in_err-make_turn-clause-order : goal.returns-in_err-make_turn-clause-order
returns-in_err-make_turn-clause-order g c = no-value c.from_residual.result _ c.from_residual.ensures.0

pub returns-in_err-make_turn-clause-refused : goal.returns-in_err-make_turn-clause-refused
returns-in_err-make_turn-clause-refused g c = an-error c.from_residual.result _ c.in_err-make_turn.ensures.refused
