use Rattle.hwp_check_evidence.proofs.RepeatLaws.{held-pushed, held-still, shown-pushed}
use Rattle.hwp_check_evidence.proofs.repeats.Repeats.push.Goals as goal

pub returns : goal.returns
returns g c = rw (c.in_ok-push-2.ensures.items, c.in_ok-push.ensures.items, c.as_slice-last.ensures.value, ← c.self.view_is) (shown-pushed c.self.inside.held.items c.args.item c.self.inside.which.items c.self.invariant)

pub invariant_of-self : goal.invariant_of-self
invariant_of-self g c = rw c.in_err-push.ensures.items c.self.invariant

pub invariant_of-self-in_err-push-2 : goal.invariant_of-self-in_err-push-2
invariant_of-self-in_err-push-2 g c = rw (c.in_err-push-2.ensures.items, c.in_ok-push.ensures.items) (held-still c.self.inside.held.items c.args.item c.self.inside.which.items c.self.invariant)

pub invariant_of-self-2 : goal.invariant_of-self-2
invariant_of-self-2 g c = rw (c.in_ok-push-2.ensures.items, c.in_ok-push.ensures.items, c.as_slice-last.ensures.value) (held-pushed c.self.inside.held.items c.args.item c.self.inside.which.items c.self.invariant)
