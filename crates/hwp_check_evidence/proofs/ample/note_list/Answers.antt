use Rattle.hwp_check_evidence.specs.Ample.{noted_in}
use Rattle.hwp_check_evidence.proofs.FindingLaws.{fold-next}
use Rattle.hwp_check_evidence.proofs.ample.note_list.Goals as goal

pub loop-command-preserved : goal.loop-command-preserved
loop-command-preserved c =
    rw (c.note.ensures, c.frame_named.ensures) (fold-next (noted_in c.args.watches) c.loop-command.flags.items _ c.args.list.now c.loop-command.command-index _ c.loop-command-test.true c.command-item.is c.loop-command.invariant)
