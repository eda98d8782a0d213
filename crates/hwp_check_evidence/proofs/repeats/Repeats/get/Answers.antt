use Rattle.std.proofs.Common.{sym}
use Rattle.hwp_check_evidence.proofs.RepeatLaws.{shown-get}
use Rattle.hwp_check_evidence.proofs.repeats.Repeats.get.Goals as goal

pub returns : goal.returns
returns g c = rw (c.shown_at.ensures, c.as_slice.ensures.value, c.as_slice-2.ensures.value, ← c.self.view_is) (sym (shown-get c.self.inside.held.items c.self.inside.which.items c.args.place c.self.invariant))
