use Rattle.hwp_page.proofs.Histories.{IsKept-more}
use Rattle.hwp_page.proofs.replay.Replay.append.Goals as goal

pub invariant_of-self : goal.invariant_of-self
invariant_of-self c = rw (c.push_reserved.ensures.items, c.step.ensures)
    (IsKept-more c.args.entry c.self.invariant (rw (← c.self.view_is) at c.requires.allowed))
