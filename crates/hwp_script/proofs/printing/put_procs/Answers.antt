use Rattle.hwp_script.specs.Text.{proc_form}
use Rattle.hwp_script.proofs.PutLaws.{put_counted}
use Rattle.hwp_script.proofs.printing.put_procs.Goals as goal

pub loop-process-preserved : goal.loop-process-preserved
loop-process-preserved c = put_counted proc_form _ _ _ c.loop-process.process c.loop-process.invariant (rw c.from.ensures at c.in_ok-put_form.ensures)
