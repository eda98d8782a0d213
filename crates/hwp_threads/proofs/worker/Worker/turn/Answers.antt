use Rattle.std.proofs.Common.{◌≡◌}
use Rattle.hwp_threads.proofs.WorkerTurn.{either-none, took}
use Rattle.hwp_threads.proofs.worker.Worker.turn.Goals as goal

pub returns-clause-turn : goal.returns-clause-turn
returns-clause-turn g c =
    took _ g.O.Ops.layout g.O.Ops.view g.O.Ops.moves c.args.self.now _ c.advance-turn.result (c.advance-turn.new.o ≡ c.args.self.now.seat) c.advance-turn.ensures.same c.requires.can.fits_is c.requires.going c.advance-turn.ensures.turn
    (either-none _ _ _ c.refused_by-self.ensures)
