use Rattle.std.proofs.Common.{◌∙◌, arith}
use Rattle.hwp_report_text.specs.ReportText.{page_lines}
use Rattle.hwp_report_text.proofs.Numbered.{put_numbered}
use Rattle.hwp_report_text.proofs.printing.put_pages.Goals as goal

pub loop-number-preserved : goal.loop-number-preserved
loop-number-preserved c =
    put_numbered page_lines _ _ _ c.args.pages.now c.loop-number.number _ _ (omega arith) c.loop-number.invariant c.in_ok-put_page.ensures
    (c.as_slice.ensures ∙ c.index-pages-number.is)
