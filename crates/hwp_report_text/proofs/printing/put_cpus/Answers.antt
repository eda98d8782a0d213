use Rattle.std.proofs.Common.{◌∙◌, arith}
use Rattle.hwp_report_text.specs.ReportText.{cpu_lines}
use Rattle.hwp_report_text.proofs.Numbered.{put_numbered}
use Rattle.hwp_report_text.proofs.printing.put_cpus.Goals as goal

pub loop-number-preserved : goal.loop-number-preserved
loop-number-preserved c =
    put_numbered cpu_lines _ _ _ c.args.cpus.now c.loop-number.number _ _ (omega arith) c.loop-number.invariant c.in_ok-put_cpu.ensures
    (c.as_slice.ensures ∙ c.index-cpus-number.is)
