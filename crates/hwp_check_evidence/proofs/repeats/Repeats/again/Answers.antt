use Rattle.std.proofs.Common.{sym, ap, ◌∙◌, ℕ, ◌-◌, List, length, slice_get}
use Rattle.hwp_check_evidence.proofs.RepeatLaws.{held-again, last-there, shown-again}
use Rattle.hwp_check_evidence.proofs.repeats.Repeats.again.Goals as goal

pub returns-in_ok-push : goal.returns-in_ok-push
returns-in_ok-push g c = λ item is. rw (c.in_ok-push.ensures.items, ← c.self.view_is)
    (shown-again c.self.inside.held.items c.self.inside.which.items c.in-Some.last item c.self.invariant
    (ap (λ (l : List ℕ). slice_get l (length l - 1)) (sym c.as_slice.ensures.value) ∙ sym c.last_of.ensures ∙ c.in-Some.is) (rw c.self.view_is is))

pub returns-in_default : goal.returns-in_default
returns-in_default g c = λ item is. absurd
    (last-there c.self.inside.held.items c.self.inside.which.items item c.self.invariant
    (ap (λ (l : List ℕ). slice_get l (length l - 1)) (sym c.as_slice.ensures.value) ∙ sym c.last_of.ensures ∙ c.in_default.is) (rw c.self.view_is is))

pub invariant_of-self : goal.invariant_of-self
invariant_of-self g c = rw c.in_ok-push.ensures.items
    (held-again c.self.inside.held.items c.self.inside.which.items c.in-Some.last c.self.invariant
    (ap (λ (l : List ℕ). slice_get l (length l - 1)) (sym c.as_slice.ensures.value) ∙ sym c.last_of.ensures ∙ c.in-Some.is))
