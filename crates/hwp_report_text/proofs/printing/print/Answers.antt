use Rattle.std.proofs.Common.{◌∙◌}
use Rattle.hwp_report_text.proofs.Parts.{put_parts}
use Rattle.hwp_report_text.proofs.printing.print.Goals as goal

pub returns : goal.returns
returns c =
    c.from_string.ensures
    ∙ put_parts c.args.report.now _ _ _ _ _ _ _ _ _ c.as_slice.ensures c.as_slice-2.ensures c.as_slice-3.ensures
    c.new-out.ensures.bytes c.in_ok-put_front.ensures c.in_ok-put_frames.ensures c.in_ok-put_pages.ensures c.in_ok-put_cpus.ensures c.in_ok-put_line.ensures
