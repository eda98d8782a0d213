use Rattle.hwp_top.proofs.WatchedRun.{traced}
use Rattle.hwp_top.proofs.tracing.trace.Goals as goal

pub returns : goal.returns
returns c =
    traced c.args.script.now c.play.new.board.board c.in_ok-board-2.board c.in_ok-report.report c.in_ok-board-2.lines c.in_ok-board-2.ensures.board c.in_ok-board-2.ensures.lines c.in_ok-report.ensures
