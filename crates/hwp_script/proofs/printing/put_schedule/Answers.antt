use Rattle.hwp_script.specs.Text.{go_row}
use Rattle.hwp_script.proofs.PutLaws.{put_counted}
use Rattle.hwp_script.proofs.printing.put_schedule.Goals as goal

pub loop-row-preserved : goal.loop-row-preserved
loop-row-preserved c = put_counted (go_row c.args.go.now) _ _ _ c.loop-row.row c.loop-row.invariant c.in_ok-put_row.ensures
