use Rattle.std.proofs.Common.{refl}
use Rattle.hwp_top_report.proofs.CachedEnds.{cached-end}
use Rattle.hwp_top_report.proofs.Came.{end-came, end-told}
use Rattle.hwp_top_report.proofs.RunLaws.{run-lawful, run-of-run}
use Rattle.hwp_top_report.proofs.finishing.finish_run.Goals as goal

pub report-requires : goal.report-requires
report-requires g c = record {
  ended = (
    c.requires.run.state,
    end-came c.args.script.now c.args.ended c.args.rows.now c.requires.valid c.words.result.now c.in_ok-pages.pages c.as_slice-lists.result.now c.as_slice.result.now
        c.words.ensures c.in_ok-pages.ensures.pages c.in_ok-pages.ensures.count c.as_slice-lists.ensures c.as_slice.ensures c.requires.run,
  );
}

pub returns-clause-of_run : goal.returns-clause-of_run
returns-clause-of_run g c = let at = c.requires.run in
    run-of-run c.args.script.now at.turns at.state c.args.rows.now c.requires.valid at.run c.in_ok-report.report
    (end-told c.args.script.now c.args.ended c.args.rows.now c.requires.valid c.words.result.now c.in_ok-pages.pages c.as_slice-lists.result.now c.as_slice.result.now
    c.words.ensures c.in_ok-pages.ensures.pages c.in_ok-pages.ensures.count c.as_slice-lists.ensures c.as_slice.ensures c.in_ok-report.report c.in_ok-report.ensures at)

pub returns-clause-lawful : goal.returns-clause-lawful
returns-clause-lawful g c = let at = c.requires.run in
    run-lawful c.args.script.now at.turns at.state c.args.rows.now c.requires.valid at.run c.in_ok-report.report
    (end-told c.args.script.now c.args.ended c.args.rows.now c.requires.valid c.words.result.now c.in_ok-pages.pages c.as_slice-lists.result.now c.as_slice.result.now
    c.words.ensures c.in_ok-pages.ensures.pages c.in_ok-pages.ensures.count c.as_slice-lists.ensures c.as_slice.ensures c.in_ok-report.report c.in_ok-report.ensures at)

pub returns-clause-closing : goal.returns-clause-closing
returns-clause-closing g c = record {
  closing = end-told c.args.script.now c.args.ended c.args.rows.now c.requires.valid c.words.result.now c.in_ok-pages.pages c.as_slice-lists.result.now c.as_slice.result.now
      c.words.ensures c.in_ok-pages.ensures.pages c.in_ok-pages.ensures.count c.as_slice-lists.ensures c.as_slice.ensures c.in_ok-report.report c.in_ok-report.ensures;
  same = refl;
}

pub returns-clause-caches : goal.returns-clause-caches
returns-clause-caches g c = cached-end g.W.Ways.ways c.args.ended c.reached.ensures
