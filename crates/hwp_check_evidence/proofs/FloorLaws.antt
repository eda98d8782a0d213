-- The highest places that answers name, page by page.
use Rattle.std.proofs.Common.{◌≡◌, inl, inr, ℕ, zero, suc, ◌<◌, ◌≤◌, max, List, [], ◌∷◌, Option, Some, None, fold, get_or, set, replicate, length, slice_get, refl, sym, ap, ◌∙◌, subst, arith}
use Rattle.std.proofs.lemmas.Bool.{cases_eq}
use Rattle.std.proofs.lemmas.List.{get_or-set_same, get_or-set_other, get_or-replicate, length-replicate, length-set}
use Rattle.std.proofs.lemmas.Option.{none-some, same_Some}
use Rattle.hwp_law.specs.hwp_geom.declared.Page.{Page}
use Rattle.hwp_law.specs.hwp_geom.declared.Who.{Who}
use Rattle.hwp_law.specs.hwp_page.declared.At.{At}
use Rattle.hwp_law.specs.hwp_report_text.declared.Answer.{Answer}
use Rattle.hwp_law.specs.hwp_report_text.declared.CpuLine.{CpuLine}
use Rattle.hwp_law.specs.hwp_report_text.declared.CpuLine.TheVariants as lines
use Rattle.hwp_law.specs.States.{place_named}
use Rattle.hwp_check_evidence.specs.Windows.{AreOfEarlier, IsNotBelow, floors_of, named_in, raised, raised_by}

-- the places of the page that these lines name are no higher
abbrev AreUpTo : List CpuLine → ℕ → ℕ → Type 0
AreUpTo rows p k = (i : ℕ) (row : CpuLine) (bt : At) → slice_get rows i ≡ Some row → named_in row ≡ Some bt → bt.page.0 ≡ p → bt.entry ≤ k

raised-many : (o : Option At) (floors : List ℕ) → length (raised_by o floors) ≡ length floors
raised-many None floors = refl
raised-many (Some at) floors = length-set floors at.page.0 (max (get_or floors at.page.0 0) at.entry)

raised-low : (o : Option At) (floors : List ℕ) (p k : ℕ) → p < length floors → get_or (raised_by o floors) p 0 ≤ k → (get_or floors p 0 ≤ k) × ((bt : At) → o ≡ Some bt → bt.page.0 ≡ p → bt.entry ≤ k)
raised-low None floors p k inside low = (low, λ bt is own. absurd (none-some bt is))
raised-low (Some at) floors p k inside low = elim (cases_eq p at.page.0) [
  | inl own ↦
      let is : get_or (set floors at.page.0 (max (get_or floors at.page.0 0) at.entry)) p 0 ≡ max (get_or floors p 0) at.entry =
      subst (λ (q : ℕ). get_or (set floors q (max (get_or floors q 0) at.entry)) p 0 ≡ max (get_or floors p 0) at.entry) own (get_or-set_same floors p (max (get_or floors p 0) at.entry) 0 inside) in (
        omega (arith, is, low),
        λ bt same here. let e : at.entry ≡ bt.entry = ap (λ (a : At). a.entry) (same_Some _ _ same) in omega (arith, is, low, e),
      )
  | inr other ↦ (
    subst (λ (n : ℕ). n ≤ k) (get_or-set_other floors at.page.0 p (max (get_or floors at.page.0 0) at.entry) 0 other) low,
    λ bt same here. absurd (other (sym here ∙ ap (λ (a : At). a.page.0) (sym (same_Some _ _ same)))),
  )
]

low-raised : (o : Option At) (floors : List ℕ) (p k : ℕ) → p < length floors → get_or floors p 0 ≤ k → ((bt : At) → o ≡ Some bt → bt.page.0 ≡ p → bt.entry ≤ k) → get_or (raised_by o floors) p 0 ≤ k
low-raised None floors p k inside low each = low
low-raised (Some at) floors p k inside low each = elim (cases_eq p at.page.0) [
  | inl own ↦
      let is : get_or (set floors at.page.0 (max (get_or floors at.page.0 0) at.entry)) p 0 ≡ max (get_or floors p 0) at.entry =
      subst (λ (q : ℕ). get_or (set floors q (max (get_or floors q 0) at.entry)) p 0 ≡ max (get_or floors p 0) at.entry) own (get_or-set_same floors p (max (get_or floors p 0) at.entry) 0 inside) in
      let one : at.entry ≤ k = each at refl (sym own) in
      omega (arith, is, low, one)
  | inr other ↦ subst (λ (n : ℕ). n ≤ k) (sym (get_or-set_other floors at.page.0 p (max (get_or floors at.page.0 0) at.entry) 0 other)) low
]

fold-low : (rows : List CpuLine) (floors : List ℕ) (p k : ℕ) → p < length floors → get_or (fold raised floors rows) p 0 ≤ k → (get_or floors p 0 ≤ k) × AreUpTo rows p k
fold-low [] floors p k inside low = (low, λ i row bt is named own. absurd (none-some row is))
fold-low (r ∷ rs) floors p k inside low =
    let inside' : p < length (raised floors r) = subst (λ (n : ℕ). p < n) (sym (raised-many (named_in r) floors)) inside in
    let rest = fold-low rs (raised floors r) p k inside' low in
    let first = raised-low (named_in r) floors p k inside rest.0 in
    (first.0, at first.1 rest.1)
  where
    at : ((bt : At) → named_in r ≡ Some bt → bt.page.0 ≡ p → bt.entry ≤ k) → AreUpTo rs p k → AreUpTo (r ∷ rs) p k
    at one each zero row bt is named own = one bt (ap named_in (same_Some _ _ is) ∙ named) own
    at one each (suc i) row bt is named own = each i row bt is named own

low-fold : (rows : List CpuLine) (floors : List ℕ) (p k : ℕ) → p < length floors → get_or floors p 0 ≤ k → AreUpTo rows p k → get_or (fold raised floors rows) p 0 ≤ k
low-fold [] floors p k inside low each = low
low-fold (r ∷ rs) floors p k inside low each =
    low-fold rs (raised floors r) p k (subst (λ (n : ℕ). p < n) (sym (raised-many (named_in r) floors)) inside)
    (low-raised (named_in r) floors p k inside low (λ bt named own. each 0 r bt refl named own)) (λ i row bt is named own. each (suc i) row bt is named own)

same-page : (a b : Page) → a.0 ≡ b.0 → a ≡ b
same-page a b is = λ i. record { 0 = is i }

answer-row : (row : CpuLine) (bt : At) → named_in row ≡ Some bt → (seq : ℕ) × (answer : Answer) × (row ≡ lines.Answer seq answer) × (place_named answer ≡ Some bt)
answer-row (lines.Event event) bt named = absurd (none-some bt named)
answer-row (lines.Offlined offlined) bt named = absurd (none-some bt named)
answer-row (lines.Guest guest) bt named = absurd (none-some bt named)
answer-row (lines.Answer seq answer) bt named = (seq, answer, refl, named)

module _ (pages : ℕ) (rows : List CpuLine) (who : Who) (at : At) (small : at.page.0 < pages) where
  abbrev none : List ℕ
  none = replicate pages 0

  inside : at.page.0 < length none
  inside = subst (λ (n : ℕ). at.page.0 < n) (sym (length-replicate {A = ℕ} pages 0)) small

  pub floor-above : get_or (floors_of pages rows) at.page.0 0 ≤ at.entry → IsNotBelow rows who at
  floor-above low i seq answer bt is earlier named page_is = (fold-low rows none at.page.0 at.entry inside low).1 i (lines.Answer seq answer) bt is named (ap (λ (p : Page). p.0) page_is)

  pub above-floor : AreOfEarlier rows who.seq → IsNotBelow rows who at → get_or (floors_of pages rows) at.page.0 0 ≤ at.entry
  above-floor earlier above =
      low-fold rows none at.page.0 at.entry inside
      (let z : get_or none at.page.0 0 ≡ 0 = get_or-replicate {A = ℕ} pages at.page.0 0 0 small in omega (arith, z))
      (λ i row bt is named own.
      let a = answer-row row bt named in
      let there : slice_get rows i ≡ Some (lines.Answer a.0 a.1) = is ∙ ap Some a.2 in
      above i a.0 a.1 bt there (earlier i a.0 a.1 there) a.3 (same-page bt.page at.page own))
