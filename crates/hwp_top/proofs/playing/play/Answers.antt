use Rattle.std.proofs.Common.{◌≡◌, ◌++◌, List, length, take, drop, arith, subst}
use Rattle.std.proofs.lemmas.Result.{IfOk-weaker}
use Rattle.hwp_top_report.specs.hwp_plain.Order.{running}
use Rattle.hwp_cpu.specs.declared.Processor.{Processor}
use Rattle.hwp_cpu.specs.Processors.{AreFinished}
use Rattle.hwp_top.specs.Runs.{IsPlayed}
use Rattle.hwp_top.proofs.Played.{all-played, crew-opened, layout-is, written-back}
use Rattle.hwp_top.proofs.playing.play.Goals as goal

pub step_all-requires-clause-crew : goal.step_all-requires-clause-crew
step_all-requires-clause-crew g c =
    crew-opened c.args.script.now (g.B.Board.layout c.args.board.now) (g.B.Board.seat c.args.board.now) (g.B.Board.state c.args.board.now) (g.B.Board.log c.args.board.now) c.requires.opened
    c.in_ok-crew.crew.items c.deref_mut.result.now c.deref_mut.ensures.value c.requires.valid c.in_ok-crew.ensures

pub returns-clause-layout : goal.returns-clause-layout
returns-clause-layout g c = IfOk-weaker c.rows_of.result (AreFinished _) (λ rows. g.B.Board.layout c.step_all.new.board ≡ c.args.script.now.layout)
    (λ rows finished. layout-is c.args.script.now (g.B.Board.layout c.args.board.now) (g.B.Board.seat c.args.board.now) (g.B.Board.state c.args.board.now) (g.B.Board.log c.args.board.now) c.requires.opened
    c.in_ok-crew.crew.items c.deref_mut.result.now c.deref_mut.ensures.value c.as_slice.result.now c.as_slice.ensures
    (running (g.B.Board.layout c.step_all.new.board) (g.B.Board.seat c.step_all.new.board) c.step_all.new.tasks (g.B.Board.state c.step_all.new.board)) (g.B.Board.log c.step_all.new.board) c.in-Ok.ensures.order)
    c.rows_of.ensures

pub returns-clause-played : goal.returns-clause-played
returns-clause-played g c =
    let back : take c.in_ok-crew.crew.len (c.step_all.new.tasks ++ drop (length c.step_all.new.tasks) c.in_ok-crew.crew.items) ≡ c.step_all.new.tasks
    = written-back c.in_ok-crew.crew.len c.step_all.new.tasks c.in_ok-crew.crew.items (omega (arith, c.step_all.auto.tasks, c.deref_mut.ensures.len)) in
    IfOk-weaker c.rows_of.result (AreFinished _) (IsPlayed c.args.script.now (g.B.Board.log c.step_all.new.board) (g.B.Board.state c.step_all.new.board))
    (λ rows finished. all-played c.args.script.now (g.B.Board.layout c.args.board.now) (g.B.Board.seat c.args.board.now) (g.B.Board.state c.args.board.now) (g.B.Board.log c.args.board.now) c.requires.opened
    c.in_ok-crew.crew.items c.deref_mut.result.now c.deref_mut.ensures.value c.as_slice.result.now c.as_slice.ensures
    (running (g.B.Board.layout c.step_all.new.board) (g.B.Board.seat c.step_all.new.board) c.step_all.new.tasks (g.B.Board.state c.step_all.new.board)) (g.B.Board.log c.step_all.new.board) c.in-Ok.ensures.order
    rows c.requires.valid c.in_ok-crew.ensures c.keeps.ensures.rule c.keeps.ensures.seats c.in-Ok.ensures.crew c.keeps-2.ensures.seats (subst (λ (ts : List Processor). AreFinished ts rows) back finished) c.in-Ok.ensures.over)
    c.rows_of.ensures
