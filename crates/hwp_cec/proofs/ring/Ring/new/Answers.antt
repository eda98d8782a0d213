use Rattle.hwp_cec.proofs.RingLaws.{view-cleared}
use Rattle.hwp_cec.proofs.ring.Ring.new.Goals as goal

pub returns : goal.returns
returns c = view-cleared 0 c.args.window 64 c.requires.some c.requires.within
