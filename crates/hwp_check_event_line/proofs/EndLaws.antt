-- Whether a record may have ended in a poisoning, or not, while a command ran.
use Rattle.std.proofs.Common.{◌≡◌, ◌⊎◌, ◌↔◌, inl, inr, ℕ, zero, suc, ◌<◌, ◌≤◌, ◌==◌, ◌&&◌, ◌||◌, Bool, true, false, not, List, [], ◌∷◌, Some, IsTrue, length, slice_get, take, true≢false, refl, sym, ap, ◌∙◌, subst, arith}
use Rattle.std.specs.Bool.{nat_lt}
use Rattle.std.proofs.lemmas.Bool.{and_from, and_parts, eq-eqb, eqb-true, false_from_ne_true, lt-ltb, ltb-true, not-true, not_from_false, or_cases, or_from, or_left, or_parts, or_right}
use Rattle.std.proofs.lemmas.Option.{none-some, same_Some}
use Rattle.hwp_banks.specs.hwp_geom.declared.Cpu.{Cpu}
use Rattle.hwp_banks.specs.hwp_geom.declared.Who.{Who}
use Rattle.hwp_law.specs.hwp_page.Orders.{IsEarlier}
use Rattle.hwp_law.specs.hwp_report_text.declared.MarkLine.{MarkLine}
use Rattle.hwp_law.specs.Records.{WasPoisoned, ends_poisoned, is_poisoning, who_in}
use Rattle.hwp_check_event_line.specs.Ended.{is_earlier, may_end}
use Rattle.hwp_check_event_line.specs.Nears.{says}

abbrev cpu_of : ℕ → Cpu
cpu_of n = record { 0 = n }

pub earlier-is : (a b : Who) → is_earlier a b ≡ true → IsEarlier a b
earlier-is a b is = let parts = and_parts (a.cpu.0 == b.cpu.0) (nat_lt a.seq b.seq) is in (ap cpu_of (eqb-true a.cpu.0 b.cpu.0 parts.0), ltb-true a.seq b.seq parts.1)

pub is-earlier : (a b : Who) → IsEarlier a b → is_earlier a b ≡ true
is-earlier a b is = and_from (a.cpu.0 == b.cpu.0) (nat_lt a.seq b.seq) (eq-eqb a.cpu.0 b.cpu.0 (ap (λ (c : Cpu). c.0) is.0)) (lt-ltb a.seq b.seq is.1)

module _ (who : Who) (p : Bool) where
  says-is : (b : Bool) (m : MarkLine) → says b m ≡ true → is_poisoning m ≡ b
  says-is true m is = is
  says-is false m is = not-true (is_poisoning m) is

  is-says : (b : Bool) (m : MarkLine) → is_poisoning m ≡ b → says b m ≡ true
  is-says true m is = is
  is-says false m is = not_from_false (is_poisoning m) is

  -- no mark is of an earlier command; and behind some mark the record ends so, with all earlier commands' marks and no later one's
  abbrev NoneEarlier : List MarkLine → Type 0
  NoneEarlier list = (place : ℕ) (mark : MarkLine) → slice_get list place ≡ Some mark → IsEarlier (who_in mark) who → ⊥

  record EndsAt (list : List MarkLine) (last : ℕ) : Type 0 where
    within : last < length list
    earlier : (place : ℕ) (mark : MarkLine) → slice_get list place ≡ Some mark → IsEarlier (who_in mark) who → place ≤ last
    later : (place : ℕ) (mark : MarkLine) → slice_get list place ≡ Some mark → IsEarlier who (who_in mark) → last < place
    ended : ends_poisoned (take (suc last) list) ≡ p

  none-more : (m : MarkLine) (ms : List MarkLine) → is_earlier (who_in m) who ≡ false → NoneEarlier ms → NoneEarlier (m ∷ ms)
  none-more m ms not_now none zero mark there earlier = true≢false (sym (is-earlier (who_in m) who (subst (λ (x : MarkLine). IsEarlier (who_in x) who) (sym (same_Some _ _ there)) earlier)) ∙ not_now)
  none-more m ms not_now none (suc place) mark there earlier = none place mark there earlier

  ends-first : (m : MarkLine) (ms : List MarkLine) → is_earlier who (who_in m) ≡ false → is_poisoning m ≡ p → NoneEarlier ms → EndsAt (m ∷ ms) 0
  ends-first m ms not_late is none = record { within = omega arith; earlier = up; later = down; ended = is }
    where
      up : (place : ℕ) (mark : MarkLine) → slice_get (m ∷ ms) place ≡ Some mark → IsEarlier (who_in mark) who → place ≤ 0
      up zero mark there earlier = omega arith
      up (suc place) mark there earlier = absurd (none place mark there earlier)

      down : (place : ℕ) (mark : MarkLine) → slice_get (m ∷ ms) place ≡ Some mark → IsEarlier who (who_in mark) → 0 < place
      down zero mark there later = absurd (true≢false (sym (is-earlier who (who_in m) (subst (λ (x : MarkLine). IsEarlier who (who_in x)) (sym (same_Some _ _ there)) later)) ∙ not_late))
      down (suc place) mark there later = omega arith

  ends-same : (m : MarkLine) (ms : List MarkLine) (last : ℕ) → last < length ms → ends_poisoned (take (suc (suc last)) (m ∷ ms)) ≡ ends_poisoned (take (suc last) ms)
  ends-same m [] last within = absurd (omega (arith, within))
  ends-same m (x ∷ xs) last within = refl

  ends-more : (m : MarkLine) (ms : List MarkLine) (last : ℕ) → is_earlier who (who_in m) ≡ false → EndsAt ms last → EndsAt (m ∷ ms) (suc last)
  ends-more m ms last not_late at = record { within = let w : last < length ms = at.within in omega (arith, w); earlier = up; later = down; ended = ends-same m ms last at.within ∙ at.ended }
    where
      up : (place : ℕ) (mark : MarkLine) → slice_get (m ∷ ms) place ≡ Some mark → IsEarlier (who_in mark) who → place ≤ suc last
      up zero mark there earlier = omega arith
      up (suc place) mark there earlier = let less : place ≤ last = at.earlier place mark there earlier in omega (arith, less)

      down : (place : ℕ) (mark : MarkLine) → slice_get (m ∷ ms) place ≡ Some mark → IsEarlier who (who_in mark) → suc last < place
      down zero mark there later = absurd (true≢false (sym (is-earlier who (who_in m) (subst (λ (x : MarkLine). IsEarlier who (who_in x)) (sym (same_Some _ _ there)) later)) ∙ not_late))
      down (suc place) mark there later = let less : last < place = at.later place mark there later in omega (arith, less)

  -- what is known behind some marks, of those that are left
  abbrev May : Bool → Bool → List MarkLine → Type 0
  May may late list = ((may ≡ true) × NoneEarlier list) ⊎ ((late ≡ false) × ((last : ℕ) × EndsAt list last))

  may-forth : (list : List MarkLine) (may late : Bool) → may_end who p may late list ≡ true → May may late list
  may-forth [] may late is = inl (is, λ place mark there earlier. none-some mark there)
  may-forth (m ∷ ms) may late is = elim (may-forth ms _ _ is) [
    | inl now ↦ elim (or_cases (may && not (is_earlier (who_in m) who)) (not (late || is_earlier who (who_in m)) && says p m) now.0) [
      | inl old ↦ let parts = and_parts may (not (is_earlier (who_in m) who)) old in inl (parts.0, none-more m ms (not-true (is_earlier (who_in m) who) parts.1) now.1)
      | inr new ↦
          let parts = and_parts (not (late || is_earlier who (who_in m))) (says p m) new in
          let early = or_parts late (is_earlier who (who_in m)) (not-true (late || is_earlier who (who_in m)) parts.0) in
          inr (early.0, (0, ends-first m ms early.1 (says-is p m parts.1) now.1))
    ]
    | inr then ↦
        let early = or_parts late (is_earlier who (who_in m)) then.0 in
        inr (early.0, (suc then.1.0, ends-more m ms then.1.0 early.1 then.1.1))
  ]

  now-not : (m : MarkLine) (ms : List MarkLine) → NoneEarlier (m ∷ ms) → is_earlier (who_in m) who ≡ false
  now-not m ms none = false_from_ne_true (is_earlier (who_in m) who) (λ is. none 0 m refl (earlier-is (who_in m) who is))

  now-early : (m : MarkLine) (ms : List MarkLine) (last : ℕ) → EndsAt (m ∷ ms) last → is_earlier who (who_in m) ≡ false
  now-early m ms last at = false_from_ne_true (is_earlier who (who_in m)) (λ is. let less : last < 0 = at.later 0 m refl (earlier-is who (who_in m) is) in omega (arith, less))

  may-back : (list : List MarkLine) (may late : Bool) → May may late list → may_end who p may late list ≡ true
  may-back [] may late (inl now) = now.0
  may-back [] may late (inr then) = let within : then.1.0 < 0 = then.1.1.within in absurd (omega (arith, within))
  may-back (m ∷ ms) may late (inl now) =
      may-back ms _ _ (inl (or_left (may && not (is_earlier (who_in m) who)) (not (late || is_earlier who (who_in m)) && says p m) (and_from may (not (is_earlier (who_in m) who)) now.0 (not_from_false (is_earlier (who_in m) who) (now-not m ms now.1))), λ place mark there. now.1 (suc place) mark there))
  may-back (m ∷ ms) may late (inr (early, (zero, at))) =
      may-back ms _ _ (inl (or_right (may && not (is_earlier (who_in m) who)) (not (late || is_earlier who (who_in m)) && says p m) (and_from (not (late || is_earlier who (who_in m))) (says p m) (not_from_false (late || is_earlier who (who_in m)) (or_from late (is_earlier who (who_in m)) early (now-early m ms 0 at))) (is-says p m at.ended)), λ place mark there earlier. let less : suc place ≤ 0 = at.earlier (suc place) mark there earlier in omega (arith, less)))
  may-back (m ∷ ms) may late (inr (early, (suc last, at))) =
      may-back ms _ _ (inr (
        or_from late (is_earlier who (who_in m)) early (now-early m ms (suc last) at),
        (
          last,
          record {
            within = let w : suc last < suc (length ms) = at.within in omega (arith, w);
            earlier = λ place mark there earlier. let less : suc place ≤ suc last = at.earlier (suc place) mark there earlier in omega (arith, less);
            later = λ place mark there later. let less : suc last < suc place = at.later (suc place) mark there later in omega (arith, less);
            ended = sym (ends-same m ms last (let w : suc last < suc (length ms) = at.within in omega (arith, w))) ∙ at.ended;
          },
        ),
      ))

  not-so : (b : Bool) → not b ≡ true → false ≡ b
  not-so true is = absurd (true≢false (sym is))
  not-so false is = refl

  so-not : (b : Bool) → false ≡ b → not b ≡ true
  so-not true is = absurd (true≢false (sym is))
  so-not false is = refl

  was-forth : (list : List MarkLine) → May (not p) false list → WasPoisoned list who p
  was-forth list (inl now) = record { count = 0; within = omega arith; earlier = λ place mark there earlier. absurd (now.1 place mark there earlier); later = λ place mark there later. omega arith; ended = not-so p now.0 }
  was-forth list (inr then) = record {
    count = suc then.1.0;
    within = let w : then.1.0 < length list = then.1.1.within in omega (arith, w);
    earlier = λ place mark there earlier. let less : place ≤ then.1.0 = then.1.1.earlier place mark there earlier in omega (arith, less);
    later = λ place mark there later. let less : then.1.0 < place = then.1.1.later place mark there later in omega (arith, less);
    ended = then.1.1.ended;
  }

  was-back : (list : List MarkLine) → WasPoisoned list who p → May (not p) false list
  was-back list was = at was.count was.within was.earlier was.later was.ended
    where
      at : (count : ℕ) → count ≤ length list → ((place : ℕ) (mark : MarkLine) → slice_get list place ≡ Some mark → IsEarlier (who_in mark) who → place < count)
          → ((place : ℕ) (mark : MarkLine) → slice_get list place ≡ Some mark → IsEarlier who (who_in mark) → count ≤ place) → ends_poisoned (take count list) ≡ p → May (not p) false list
      at zero within earlier later ended = inl (so-not p ended, λ place mark there is. let less : place < 0 = earlier place mark there is in omega (arith, less))
      at (suc last) within earlier later ended = inr (
        refl,
        (
          last,
          record {
            within = omega (arith, within);
            earlier = λ place mark there is. let less : place < suc last = earlier place mark there is in omega (arith, less);
            later = λ place mark there is. let less : suc last ≤ place = later place mark there is in omega (arith, less);
            ended = ended;
          },
        ),
      )

pub may_end_is : (who : Who) (p : Bool) (list : List MarkLine) → IsTrue (may_end who p (not p) false list) ↔ WasPoisoned list who p
may_end_is who p list = (λ is. was-forth who p list (may-forth who p list (not p) false is), λ was. may-back who p list (not p) false (was-back who p list was))
