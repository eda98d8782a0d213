use Rattle.std.proofs.Common.{arith, refl}
use Rattle.hwp_report_text.specs.ReportText.{file_lines}
use Rattle.hwp_report_text.proofs.Numbered.{put_numbered}
use Rattle.hwp_report_text.proofs.printing.put_files.Goals as goal

pub loop-number-preserved : goal.loop-number-preserved
loop-number-preserved c =
    put_numbered file_lines _ _ _ c.args.files.now c.loop-number.number _ _ (omega arith) c.loop-number.invariant c.in_ok-put_file.ensures refl
