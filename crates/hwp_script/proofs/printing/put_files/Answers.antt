use Rattle.hwp_script.specs.Text.{file_form}
use Rattle.hwp_script.proofs.PutLaws.{put_counted}
use Rattle.hwp_script.proofs.printing.put_files.Goals as goal

pub loop-file-preserved : goal.loop-file-preserved
loop-file-preserved c = put_counted file_form _ _ _ c.loop-file.file c.loop-file.invariant (rw c.from.ensures at c.in_ok-put_form.ensures)
