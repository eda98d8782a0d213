use Rattle.hwp_threads.specs.Workers.{CanRun, HasRun}
use Rattle.hwp_threads.proofs.running.run.Given as goal

abbrev pub invariant-loop : goal.invariant-loop
invariant-loop g l = record {
  can : CanRun g.O.Ops.layout g.O.Ops.view g.O.Ops.ready g.T.Task.task.fits l.worker;
  run : HasRun g.T.Task.task g.O.Ops.layout g.O.Ops.view g.O.Ops.moves l.fn.worker l.worker;
}
