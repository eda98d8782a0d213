-- The highest and the lowest command numbers of a processor in entries.
use Rattle.std.proofs.Common.{◌≡◌, inl, inr, ℕ, zero, suc, ◌+◌, ◌-◌, ◌<◌, ◌≤◌, ◌==◌, max, min, cond, Bool, true, false, List, [], ◌∷◌, ◌++◌, Some, fold, length, drop, take, slice_get, get_or, append_assoc, refl, sym, ap, ◌∙◌, subst, arith}
use Rattle.std.proofs.lemmas.Bool.{cases_eq, eq-eqb, false_from_ne_true, eqb-true}
use Rattle.std.proofs.lemmas.List.{drop_all, drop_more}
use Rattle.std.proofs.lemmas.Option.{none-some, same_Some}
use Rattle.hwp_law.specs.hwp_geom.declared.Cpu.{Cpu}
use Rattle.hwp_law.specs.hwp_page.declared.Entry.{Entry}
use Rattle.hwp_check_evidence.specs.Windows.{AreStarts, came_to, ends_from, none_number, start_of, starts_with}
use Rattle.hwp_check_evidence.proofs.ListItems.{item_of_push}

module _ (cpu : Cpu) where
  own-is : (e : Entry) → e.who.cpu.0 ≡ cpu.0 → (e.who.cpu.0 == cpu.0) ≡ true
  own-is e own = eq-eqb e.who.cpu.0 cpu.0 own

  other-is : (e : Entry) → (e.who.cpu.0 ≡ cpu.0 → ⊥) → (e.who.cpu.0 == cpu.0) ≡ false
  other-is e other = false_from_ne_true (e.who.cpu.0 == cpu.0) (λ is. other (eqb-true e.who.cpu.0 cpu.0 is))

  came-own : (n : ℕ) (e : Entry) → e.who.cpu.0 ≡ cpu.0 → came_to cpu n e ≡ max n (e.who.seq + 1)
  came-own n e own = ap (λ (b : Bool). cond b (max n (e.who.seq + 1)) n) (own-is e own)

  came-other : (n : ℕ) (e : Entry) → (e.who.cpu.0 ≡ cpu.0 → ⊥) → came_to cpu n e ≡ n
  came-other n e other = ap (λ (b : Bool). cond b (max n (e.who.seq + 1)) n) (other-is e other)

  starts-own : (n : ℕ) (e : Entry) → e.who.cpu.0 ≡ cpu.0 → starts_with cpu n e ≡ min n e.who.seq
  starts-own n e own = ap (λ (b : Bool). cond b (min n e.who.seq) n) (own-is e own)

  starts-other : (n : ℕ) (e : Entry) → (e.who.cpu.0 ≡ cpu.0 → ⊥) → starts_with cpu n e ≡ n
  starts-other n e other = ap (λ (b : Bool). cond b (min n e.who.seq) n) (other-is e other)

  -- all entries of the processor are of commands below the number
  abbrev pub AreBelow : List Entry → ℕ → Type 0
  AreBelow es k = (i : ℕ) (e : Entry) → slice_get es i ≡ Some e → e.who.cpu.0 ≡ cpu.0 → e.who.seq < k

  -- or of none below it
  abbrev pub AreFrom : List Entry → ℕ → Type 0
  AreFrom es k = (i : ℕ) (e : Entry) → slice_get es i ≡ Some e → e.who.cpu.0 ≡ cpu.0 → k ≤ e.who.seq

  came-low : (n k : ℕ) (e : Entry) → came_to cpu n e ≤ k → (n ≤ k) × (e.who.cpu.0 ≡ cpu.0 → e.who.seq < k)
  came-low n k e low = elim (cases_eq e.who.cpu.0 cpu.0) [
    | inl own ↦ let is : came_to cpu n e ≡ max n (e.who.seq + 1) = came-own n e own in (omega (arith, is, low), λ o. omega (arith, is, low))
    | inr other ↦ let is : came_to cpu n e ≡ n = came-other n e other in (omega (arith, is, low), λ o. absurd (other o))
  ]

  low-came : (n k : ℕ) (e : Entry) → n ≤ k → (e.who.cpu.0 ≡ cpu.0 → e.who.seq < k) → came_to cpu n e ≤ k
  low-came n k e low below = elim (cases_eq e.who.cpu.0 cpu.0) [
    | inl own ↦ let is : came_to cpu n e ≡ max n (e.who.seq + 1) = came-own n e own in let b : e.who.seq < k = below own in omega (arith, is, low, b)
    | inr other ↦ let is : came_to cpu n e ≡ n = came-other n e other in omega (arith, is, low)
  ]

  pub fold-low : (n k : ℕ) (es : List Entry) → fold (came_to cpu) n es ≤ k → (n ≤ k) × AreBelow es k
  fold-low n k [] low = (low, λ i e is own. absurd (none-some e is))
  fold-low n k (x ∷ es) low =
      let rest = fold-low (came_to cpu n x) k es low in
      let first = came-low n k x rest.0 in
      (first.0, at first.1 rest.1)
    where
      at : (x.who.cpu.0 ≡ cpu.0 → x.who.seq < k) → AreBelow es k → AreBelow (x ∷ es) k
      at own-low below zero e is own = let same : x ≡ e = same_Some _ _ is in subst (λ (y : Entry). y.who.seq < k) same (own-low (subst (λ (y : Entry). y.who.cpu.0 ≡ cpu.0) (sym same) own))
      at own-low below (suc i) e is own = below i e is own

  pub low-fold : (n k : ℕ) (es : List Entry) → n ≤ k → AreBelow es k → fold (came_to cpu) n es ≤ k
  low-fold n k [] low below = low
  low-fold n k (x ∷ es) low below = low-fold (came_to cpu n x) k es (low-came n k x low (λ own. below 0 x refl own)) (λ i e is own. below (suc i) e is own)

  starts-high : (n k : ℕ) (e : Entry) → k ≤ starts_with cpu n e → (k ≤ n) × (e.who.cpu.0 ≡ cpu.0 → k ≤ e.who.seq)
  starts-high n k e high = elim (cases_eq e.who.cpu.0 cpu.0) [
    | inl own ↦ let is : starts_with cpu n e ≡ min n e.who.seq = starts-own n e own in (omega (arith, is, high), λ o. omega (arith, is, high))
    | inr other ↦ let is : starts_with cpu n e ≡ n = starts-other n e other in (omega (arith, is, high), λ o. absurd (other o))
  ]

  high-starts : (n k : ℕ) (e : Entry) → k ≤ n → (e.who.cpu.0 ≡ cpu.0 → k ≤ e.who.seq) → k ≤ starts_with cpu n e
  high-starts n k e high from = elim (cases_eq e.who.cpu.0 cpu.0) [
    | inl own ↦ let is : starts_with cpu n e ≡ min n e.who.seq = starts-own n e own in let f : k ≤ e.who.seq = from own in omega (arith, is, high, f)
    | inr other ↦ let is : starts_with cpu n e ≡ n = starts-other n e other in omega (arith, is, high)
  ]

  pub start-high : (k : ℕ) (es : List Entry) → k ≤ start_of cpu es → AreFrom es k
  start-high k [] high = λ i e is own. absurd (none-some e is)
  start-high k (x ∷ es) high = let p = starts-high (start_of cpu es) k x high in at p (start-high k es p.0)
    where
      at : (k ≤ start_of cpu es) × (x.who.cpu.0 ≡ cpu.0 → k ≤ x.who.seq) → AreFrom es k → AreFrom (x ∷ es) k
      at p rest zero e is own = let same : x ≡ e = same_Some _ _ is in subst (λ (y : Entry). k ≤ y.who.seq) same (p.1 (subst (λ (y : Entry). y.who.cpu.0 ≡ cpu.0) (sym same) own))
      at p rest (suc i) e is own = rest i e is own

  pub high-start : (k : ℕ) (es : List Entry) → k ≤ none_number → AreFrom es k → k ≤ start_of cpu es
  high-start k [] few from = few
  high-start k (x ∷ es) few from = high-starts (start_of cpu es) k x (high-start k es few (λ i e is own. from (suc i) e is own)) (λ own. from 0 x refl own)

  pub end-get : (n : ℕ) (es : List Entry) (k : ℕ) → k ≤ length es → slice_get (ends_from cpu n es) k ≡ Some (fold (came_to cpu) n (take k es))
  end-get n [] zero low = refl
  end-get n [] (suc k) low = absurd (omega (arith, low))
  end-get n (e ∷ es) zero low = refl
  end-get n (e ∷ es) (suc k) low = end-get (came_to cpu n e) es k (omega (arith, low))

  pub end-many : (n : ℕ) (es : List Entry) → length (ends_from cpu n es) ≡ length es + 1
  end-many n [] = refl
  end-many n (e ∷ es) = let more : length (ends_from cpu (came_to cpu n e) es) ≡ length es + 1 = end-many (came_to cpu n e) es in omega (arith, more)

  -- one more of the last entries
  pub start-next : (es : List Entry) (n : ℕ) (e : Entry) → slice_get es n ≡ Some e → start_of cpu (drop n es) ≡ starts_with cpu (start_of cpu (drop (n + 1) es)) e
  start-next [] n e is = absurd (none-some e is)
  start-next (x ∷ es) zero e is = ap (starts_with cpu (start_of cpu es)) (same_Some _ _ is)
  start-next (x ∷ es) (suc n) e is = start-next es n e is ∙ ap (λ (m : ℕ). starts_with cpu (start_of cpu (drop m (x ∷ es))) e) (let z : suc (n + 1) ≡ suc n + 1 = omega arith in z)

  pub starts-more : (es : List Entry) (list : List ℕ) (back start : ℕ) → length list ≡ back → back ≤ length es → start ≡ start_of cpu (drop (length es - back) es) → AreStarts cpu es list → AreStarts cpu es (list ++ start ∷ [])
  starts-more es list back start many few is are = record {
    each = λ k n x there sum. elim (item_of_push list start k x there) [
      | inl old ↦ are.each k n x old sum
      | inr last ↦ let at : n ≡ length es - back = let l : k ≡ length list = last.0 in omega (arith, l, many, sum) in sym last.1 ∙ is ∙ ap (λ (m : ℕ). start_of cpu (drop m es)) (sym at)
    ];
  }

-- the highest numbers as a loop over the entries makes them, an entry at a time
module _ (cpu : Cpu) (entries : List Entry) where
  pub ends-next : (i end end' : ℕ) (d : Entry) (old new whole : List ℕ) → i < length entries → end' ≡ came_to cpu end (get_or entries i d) → new ≡ old ++ end ∷ [] → old ++ ends_from cpu end (drop i entries) ≡ whole
      → new ++ ends_from cpu end' (drop (i + 1) entries) ≡ whole
  ends-next i end end' d old new whole within end_is grows was =
      ap (λ (l : List ℕ). l ++ ends_from cpu end' (drop (i + 1) entries)) grows
      ∙ append_assoc old (end ∷ []) (ends_from cpu end' (drop (i + 1) entries))
      ∙ ap (λ (n : ℕ). old ++ end ∷ ends_from cpu n (drop (i + 1) entries)) end_is
      ∙ sym (ap (λ (l : List Entry). old ++ ends_from cpu end l) (drop_more entries i d within))
      ∙ was

  pub ends-all : (i end : ℕ) (old new whole : List ℕ) → length entries ≤ i → new ≡ old ++ end ∷ [] → old ++ ends_from cpu end (drop i entries) ≡ whole → new ≡ whole
  ends-all i end old new whole past grows was = grows ∙ sym (ap (λ (l : List Entry). old ++ ends_from cpu end l) (drop_all i entries past)) ∙ was
