use Rattle.hwp_threads.proofs.WorkerRuns.{run-more}
use Rattle.hwp_threads.proofs.running.run.Goals as goal

pub loop-preserved : goal.loop-preserved
loop-preserved g c = record {
  can = c.turn-turn.ensures.can;
  run = run-more _ g.O.Ops.layout g.O.Ops.view g.O.Ops.moves c.args.worker.now c.loop.worker c.turn-turn.new.self c.loop.invariant.run c.turn-turn.ensures.turn;
}
