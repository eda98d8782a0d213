use Rattle.std.proofs.Common.{length, ap, ◌∙◌}
use Rattle.std.proofs.lemmas.Result.{IfOk-weaker}
use Rattle.hwp_top_report.specs.hwp_geom.declared.Layout.{Layout}
use Rattle.hwp_top.specs.Runs.{IsReportOf}
use Rattle.hwp_top_report.proofs.Came.{Closes, last-bare, last-came, last-told}
use Rattle.hwp_top.proofs.Whole.{reported}
use Rattle.hwp_top.proofs.plain.report_of.Goals as goal

pub histories-requires : goal.histories-requires
histories-requires c = let p = c.requires.played in record { nothing = last-bare c.args.script.now p.turns c.args.board.state c.args.rows.now c.requires.valid p.ended }

pub report-requires : goal.report-requires
report-requires c = let p = c.requires.played in record {
  ended = (
    c.args.board.state,
    last-came c.args.script.now p.turns c.args.board.state c.args.rows.now c.requires.valid p.ended c.as_slice.result.now c.in_ok-pages.pages c.as_slice-lists.result.now c.as_slice-2.result.now
        (c.as_slice.ensures.value ∙ c.in_ok-words.ensures.items ∙ c.words.ensures) c.in_ok-pages.ensures.pages (c.in_ok-pages.ensures.count ∙ ap (λ (l : Layout). length l.pages) c.requires.layout) c.as_slice-lists.ensures c.as_slice-2.ensures,
  );
}

pub returns : goal.returns
returns c =
    let p = c.requires.played in
    IfOk-weaker c.report.result (Closes c.args.script.now.layout c.as_slice.result.now c.in_ok-pages.pages c.as_slice-lists.result.now c.as_slice-2.result.now) (IsReportOf c.args.script.now c.args.board.log)
    (λ r closes. reported c.args.script.now c.args.board.log c.args.board.state c.args.rows.now c.requires.valid p r
    (last-told c.args.script.now p.turns c.args.board.state c.args.rows.now c.requires.valid p.ended c.as_slice.result.now c.in_ok-pages.pages c.as_slice-lists.result.now c.as_slice-2.result.now
    (c.as_slice.ensures.value ∙ c.in_ok-words.ensures.items ∙ c.words.ensures) c.in_ok-pages.ensures.pages (c.in_ok-pages.ensures.count ∙ ap (λ (l : Layout). length l.pages) c.requires.layout) c.as_slice-lists.ensures c.as_slice-2.ensures r closes)) c.report.ensures
