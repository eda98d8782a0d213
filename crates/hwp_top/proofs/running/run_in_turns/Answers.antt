use Rattle.std.proofs.lemmas.Result.{IfOk-weaker}
use Rattle.hwp_top.proofs.Whole.{table-core, table-ended, table-run}
use Rattle.hwp_top.proofs.running.run_in_turns.Goals as goal

pub finish_run-requires-clause-run : goal.finish_run-requires-clause-run
finish_run-requires-clause-run g c = table-ended c.args.script.now c.in_ok-ended.ended c.in_ok-ended.rows c.requires.valid c.in_ok-ended.ensures.played

pub returns-clause-core : goal.returns-clause-core
returns-clause-core g c =
    IfOk-weaker c.finish_run.result _ _ (λ run is. table-core c.args.script.now c.in_ok-ended.ended c.in_ok-ended.rows c.requires.valid c.in_ok-ended.ensures.played run.report run.ended is) c.finish_run.ensures.closing

pub returns-clause-ended : goal.returns-clause-ended
returns-clause-ended g c =
    IfOk-weaker c.finish_run.result _ _ (λ run is. table-run c.args.script.now c.in_ok-ended.ended c.in_ok-ended.rows c.requires.valid c.in_ok-ended.ensures.played run.report run.ended is) c.finish_run.ensures.closing
