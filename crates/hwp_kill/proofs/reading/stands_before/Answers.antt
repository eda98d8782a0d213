use Rattle.std.proofs.Common.{inl, inr, arith, ◌≡◌, eqb, ap, sym, ◌∙◌, ltb-true}
use Rattle.std.proofs.lemmas.Bool.{false≢true, lt-ltb, eqb-true, eqb-false}
use Rattle.hwp_geom.specs.declared.Proc.{Proc}
use Rattle.hwp_kill.proofs.Order.{stands-if}
use Rattle.hwp_kill.proofs.Places.{got, missed}
use Rattle.hwp_kill.proofs.reading.stands_before.Goals as goal

pub returns-then-first-second : goal.returns-then-first-second
returns-then-first-second c =
    stands-if c.args.layout.now c.args.one c.args.other (got c.as_slice-threads.ensures c.from.ensures c.in-Some-Some.ensures.lookup.0 c.in-Some-Some.ensures.lookup.1) (got c.as_slice-threads.ensures c.from-2.ensures c.in-Some-Some.ensures'.lookup.0 c.in-Some-Some.ensures'.lookup.1)
    (λ yes. inl c.if-first-second.true, λ before. lt-ltb _ _ c.if-first-second.true)

pub returns-then-eq : goal.returns-then-eq
returns-then-eq c =
    let same : c.in-Some-Some.first.now.process.0 ≡ c.in-Some-Some.second.now.process.0 = eqb-true _ _ (sym c.if-eq.ensures) in
    stands-if c.args.layout.now c.args.one c.args.other (got c.as_slice-threads.ensures c.from.ensures c.in-Some-Some.ensures.lookup.0 c.in-Some-Some.ensures.lookup.1) (got c.as_slice-threads.ensures c.from-2.ensures c.in-Some-Some.ensures'.lookup.0 c.in-Some-Some.ensures'.lookup.1)
    (λ yes. inr (ap (λ n. record { 0 = n }) same, ltb-true _ _ yes), λ before. elim before [ inl below ↦ absurd (omega arith) | inr then ↦ lt-ltb _ _ then.1 ])

pub returns-else-eq : goal.returns-else-eq
returns-else-eq c =
    stands-if c.args.layout.now c.args.one c.args.other (got c.as_slice-threads.ensures c.from.ensures c.in-Some-Some.ensures.lookup.0 c.in-Some-Some.ensures.lookup.1) (got c.as_slice-threads.ensures c.from-2.ensures c.in-Some-Some.ensures'.lookup.0 c.in-Some-Some.ensures'.lookup.1) (
      λ yes. absurd (false≢true (sym c.if-eq.false ∙ yes)),
      λ before. elim before [
        | inl below ↦ let above = c.if-first-second.false in absurd (omega arith)
        | inr then ↦ absurd (eqb-false _ _ (sym c.if-eq.ensures) (ap (λ (p : Proc). p.0) then.0))
      ],
    )

pub returns-in_default : goal.returns-in_default
returns-in_default c = (
  λ yes. absurd (false≢true yes),
  rw (got c.as_slice-threads.ensures c.from.ensures c.in_default.ensures.lookup.0 c.in_default.ensures.lookup.1, missed c.as_slice-threads.ensures c.from-2.ensures c.in_default.ensures'.lookup.0) (λ before. absurd before),
)

pub returns-in_default-2 : goal.returns-in_default-2
returns-in_default-2 c = (λ yes. absurd (false≢true yes), rw (missed c.as_slice-threads.ensures c.from.ensures c.in_default.ensures.lookup.0) (λ before. absurd before))
