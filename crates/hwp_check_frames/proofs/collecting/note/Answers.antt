use Rattle.hwp_check_frames.proofs.CollectLaws.{noted-once}
use Rattle.hwp_check_frames.proofs.collecting.note.Goals as goal

pub returns : goal.returns
returns c = noted-once _ _ c.args.frame _ _ c.note.ensures.counts c.note.ensures.stands c.note.ensures.live c.is_offline.ensures
