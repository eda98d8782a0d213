use Rattle.std.proofs.Common.{refl, sym, ℕ, ◌<◌, arith, get_or, subst, ◌∙◌}
use Rattle.std.proofs.lemmas.Bool.{both_ways}
use Rattle.hwp_plain.specs.Order.{running, IsAt, IsOver, Word}
use Rattle.hwp_plain.proofs.ScheduleTells.{sofar-start}
use Rattle.hwp_plain.proofs.TurnTells.{task-done, read-again, step-last, step-over, step-more, step-cheaper}
use Rattle.hwp_plain.proofs.Exits.{an-error, no-value}
use Rattle.hwp_plain.proofs.scheduler.play_word.Goals as goal

pub loop-turn-init : goal.loop-turn-init
loop-turn-init g c = record { ready = c.requires.ready; count = refl; so_far = sofar-start (Word g.T.Task.task c.args.go.now) (running (g.B.Board.layout c.args.board.now) (g.B.Board.seat c.args.board.now) c.args.tasks.now (g.B.Board.state c.args.board.now)) (g.B.Board.log c.args.board.now) }

pub loop-turn-smaller : goal.loop-turn-smaller
loop-turn-smaller g c = step-cheaper g.T.Task.task (running (g.B.Board.layout c.args.board.now) (g.B.Board.seat c.args.board.now) c.args.tasks.now (g.B.Board.state c.args.board.now)) (running (g.B.Board.layout c.loop-turn.board) (g.B.Board.seat c.loop-turn.board) c.loop-turn.tasks (g.B.Board.state c.loop-turn.board)) (running (g.B.Board.layout c.take_turn.new.board) (g.B.Board.seat c.take_turn.new.board) c.take_turn.new.tasks (g.B.Board.state c.take_turn.new.board)) c.args.go.now (g.B.Board.log c.args.board.now) (g.B.Board.log c.loop-turn.board) (g.B.Board.log c.take_turn.new.board) (c.in_ok-turn.turn, c.in_ok-turn.kind) c.in_ok-turn.ensures.turn
    c.loop-turn.invariant.ready (λ e. both_ways c.is_end.result c.if-is_end.false (c.is_end.ensures.1 e))
    (λ f over. both_ways c.is_none.result c.if-is_none.false (c.is_none.ensures.on f (over (get_or c.take_turn.new.tasks c.from-cpu.result c.index-tasks-cpu.result) (subst (λ (k : ℕ). IsAt c.take_turn.new.tasks k (get_or c.take_turn.new.tasks c.from-cpu.result c.index-tasks-cpu.result)) c.from-cpu.ensures (record { within = (omega (arith, c.from-cpu.ensures, c.requires.cpu, c.loop-turn.invariant.count, c.take_turn.ensures.count)); is = sym (read-again c.take_turn.new.tasks c.from-cpu.result c.index-tasks-cpu.result c.index-tasks-cpu.is) })))))

pub loop-turn-preserved : goal.loop-turn-preserved
loop-turn-preserved g c = record {
  ready = c.in_ok-turn.ensures.ready;
  count = c.take_turn.ensures.count ∙ c.loop-turn.invariant.count;
  so_far = step-more g.T.Task.task (running (g.B.Board.layout c.args.board.now) (g.B.Board.seat c.args.board.now) c.args.tasks.now (g.B.Board.state c.args.board.now)) (running (g.B.Board.layout c.loop-turn.board) (g.B.Board.seat c.loop-turn.board) c.loop-turn.tasks (g.B.Board.state c.loop-turn.board)) (running (g.B.Board.layout c.take_turn.new.board) (g.B.Board.seat c.take_turn.new.board) c.take_turn.new.tasks (g.B.Board.state c.take_turn.new.board)) c.args.go.now (g.B.Board.log c.args.board.now) (g.B.Board.log c.loop-turn.board) (g.B.Board.log c.take_turn.new.board) (c.in_ok-turn.turn, c.in_ok-turn.kind) c.in_ok-turn.ensures.turn
      c.loop-turn.invariant.so_far (λ e. both_ways c.is_end.result c.if-is_end.false (c.is_end.ensures.1 e))
      (λ f over. both_ways c.is_none.result c.if-is_none.false (c.is_none.ensures.on f (over (get_or c.take_turn.new.tasks c.from-cpu.result c.index-tasks-cpu.result) (subst (λ (k : ℕ). IsAt c.take_turn.new.tasks k (get_or c.take_turn.new.tasks c.from-cpu.result c.index-tasks-cpu.result)) c.from-cpu.ensures (record { within = (omega (arith, c.from-cpu.ensures, c.requires.cpu, c.loop-turn.invariant.count, c.take_turn.ensures.count)); is = sym (read-again c.take_turn.new.tasks c.from-cpu.result c.index-tasks-cpu.result c.index-tasks-cpu.is) })))));
}

pub returns-then-is_end-clause-word : goal.returns-then-is_end-clause-word
returns-then-is_end-clause-word g c = step-last g.T.Task.task (running (g.B.Board.layout c.args.board.now) (g.B.Board.seat c.args.board.now) c.args.tasks.now (g.B.Board.state c.args.board.now)) (running (g.B.Board.layout c.loop-turn.board) (g.B.Board.seat c.loop-turn.board) c.loop-turn.tasks (g.B.Board.state c.loop-turn.board)) (running (g.B.Board.layout c.take_turn.new.board) (g.B.Board.seat c.take_turn.new.board) c.take_turn.new.tasks (g.B.Board.state c.take_turn.new.board)) c.args.go.now (g.B.Board.log c.args.board.now) (g.B.Board.log c.loop-turn.board) (g.B.Board.log c.take_turn.new.board) (c.in_ok-turn.turn, c.in_ok-turn.kind) c.in_ok-turn.ensures.turn
    c.loop-turn.invariant.so_far (c.is_end.ensures.0 c.if-is_end.true)

pub returns-then-is_none-clause-word : goal.returns-then-is_none-clause-word
returns-then-is_none-clause-word g c = step-over g.T.Task.task (running (g.B.Board.layout c.args.board.now) (g.B.Board.seat c.args.board.now) c.args.tasks.now (g.B.Board.state c.args.board.now)) (running (g.B.Board.layout c.loop-turn.board) (g.B.Board.seat c.loop-turn.board) c.loop-turn.tasks (g.B.Board.state c.loop-turn.board)) (running (g.B.Board.layout c.take_turn.new.board) (g.B.Board.seat c.take_turn.new.board) c.take_turn.new.tasks (g.B.Board.state c.take_turn.new.board)) c.args.go.now (g.B.Board.log c.args.board.now) (g.B.Board.log c.loop-turn.board) (g.B.Board.log c.take_turn.new.board) (c.in_ok-turn.turn, c.in_ok-turn.kind) c.in_ok-turn.ensures.turn
    c.loop-turn.invariant.so_far (λ e. both_ways c.is_end.result c.if-is_end.false (c.is_end.ensures.1 e))
    (subst (λ (k : ℕ). IsOver g.T.Task.task c.take_turn.new.tasks k) c.from-cpu.ensures (task-done g.T.Task.task c.take_turn.new.tasks c.from-cpu.result (get_or c.take_turn.new.tasks c.from-cpu.result c.index-tasks-cpu.result) (omega (arith, c.from-cpu.ensures, c.requires.cpu, c.loop-turn.invariant.count, c.take_turn.ensures.count)) (read-again c.take_turn.new.tasks c.from-cpu.result c.index-tasks-cpu.result c.index-tasks-cpu.is) (c.is_none.ensures.over c.if-is_none.true)))

pub take_turn-requires-clause-ready : goal.take_turn-requires-clause-ready
take_turn-requires-clause-ready g c = c.loop-turn.invariant.ready

pub take_turn-requires-clause-cpu : goal.take_turn-requires-clause-cpu
take_turn-requires-clause-cpu g c = subst (λ (n : ℕ). c.args.go.now.cpu.0 < n) (sym c.loop-turn.invariant.count) c.requires.cpu

pub bounds-tasks-cpu : goal.bounds-tasks-cpu
bounds-tasks-cpu g c = omega (arith, c.from-cpu.ensures, c.requires.cpu, c.loop-turn.invariant.count, c.take_turn.ensures.count)

pub returns-in_err-turn-clause-count : goal.returns-in_err-turn-clause-count
returns-in_err-turn-clause-count g c = c.take_turn.ensures.count ∙ c.loop-turn.invariant.count

pub returns-then-is_end-clause-ready : goal.returns-then-is_end-clause-ready
returns-then-is_end-clause-ready g c = c.in_ok-turn.ensures.ready

pub returns-then-is_end-clause-count : goal.returns-then-is_end-clause-count
returns-then-is_end-clause-count g c = c.take_turn.ensures.count ∙ c.loop-turn.invariant.count

pub returns-then-is_end-clause-refused : goal.returns-then-is_end-clause-refused
returns-then-is_end-clause-refused g c = tt

pub returns-then-is_none-clause-ready : goal.returns-then-is_none-clause-ready
returns-then-is_none-clause-ready g c = c.in_ok-turn.ensures.ready

pub returns-then-is_none-clause-count : goal.returns-then-is_none-clause-count
returns-then-is_none-clause-count g c = c.take_turn.ensures.count ∙ c.loop-turn.invariant.count

pub returns-then-is_none-clause-refused : goal.returns-then-is_none-clause-refused
returns-then-is_none-clause-refused g c = tt

pub returns-in_err-turn-clause-ready : goal.returns-in_err-turn-clause-ready
returns-in_err-turn-clause-ready g c = no-value c.from_residual.result _ c.from_residual.ensures.0

pub returns-in_err-turn-clause-word : goal.returns-in_err-turn-clause-word
returns-in_err-turn-clause-word g c = no-value c.from_residual.result _ c.from_residual.ensures.0

pub returns-in_err-turn-clause-refused : goal.returns-in_err-turn-clause-refused
returns-in_err-turn-clause-refused g c = an-error c.from_residual.result _ c.in_err-turn.ensures.refused
