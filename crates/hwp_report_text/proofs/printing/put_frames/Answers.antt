use Rattle.std.proofs.Common.{arith}
use Rattle.hwp_report_text.specs.ReportText.{frame_lines}
use Rattle.hwp_report_text.proofs.Numbered.{put_numbered}
use Rattle.hwp_report_text.proofs.printing.put_frames.Goals as goal

pub loop-number-preserved : goal.loop-number-preserved
loop-number-preserved c =
    put_numbered frame_lines _ _ _ c.args.frames.now c.loop-number.number _ _ (omega arith) c.loop-number.invariant c.in_ok-put_frame.ensures c.index-frames-number.is
