use Rattle.std.proofs.Common.{◌≡◌, ◌↔◌, true, refl, sym, subst, inl, inr}
use Rattle.std.proofs.lemmas.Bool.{both_ways}
use Rattle.hwp_script_words.specs.declared.Until.{Until}
use Rattle.hwp_plain.specs.Order.{EndsWord}
use Rattle.hwp_plain.proofs.scheduler.is_end.Goals as goal

pub returns-in-One : goal.returns-in-One
returns-in-One c = subst (λ (u : Until). (true ≡ true) ↔ EndsWord u (c.args.turn, c.args.kind)) (sym c.in-One.is) (λ _. tt, λ _. refl)

pub returns-in-Command : goal.returns-in-Command
returns-in-Command c = subst (λ (u : Until). (c.ends.result ≡ true) ↔ EndsWord u (c.args.turn, c.args.kind)) (sym c.in-Command.is) c.ends.ensures

pub returns-then-ends : goal.returns-then-ends
returns-then-ends c = subst (λ (u : Until). (c.ends-in-After.result ≡ true) ↔ EndsWord u (c.args.turn, c.args.kind)) (sym c.in-After.is) (λ e. inr (c.ends-in-After.ensures.0 e), λ _. c.if-ends.true)

pub returns-else-ends : goal.returns-else-ends
returns-else-ends c = subst (λ (u : Until). (c.is_of.result ≡ true) ↔ EndsWord u (c.args.turn, c.args.kind)) (sym c.in-After.is) (
  λ e. inl (c.is_of.ensures.0 e),
  λ some. elim some [
    | inl of ↦ c.is_of.ensures.1 of
    | inr ends ↦ absurd (both_ways c.ends-in-After.result c.if-ends.false (c.ends-in-After.ensures.1 ends))
  ],
)
