-- The command numbers around a place of a page's history tell whether the place is in a command's window.
use Rattle.std.proofs.Common.{◌≡◌, inl, inr, ℕ, zero, suc, ◌+◌, ◌-◌, ◌<◌, ◌≤◌, min, List, [], ◌∷◌, Option, Some, None, fold, length, drop, take, slice_get, slice_index_or, option_and_then, refl, sym, ap, ◌∙◌, subst, arith}
use Rattle.std.proofs.lemmas.Bool.{cases_lt}
use Rattle.std.proofs.lemmas.Option.{get_or_from_slice_get, none-some, same_Some, slice_get_within}
use Rattle.hwp_law.specs.hwp_geom.declared.Cpu.{Cpu}
use Rattle.hwp_law.specs.hwp_geom.declared.Page.{Page}
use Rattle.hwp_law.specs.hwp_geom.declared.Who.{Who}
use Rattle.hwp_law.specs.hwp_page.declared.At.{At}
use Rattle.hwp_law.specs.hwp_page.declared.Entry.{Entry}
use Rattle.hwp_law.specs.Places.{entry_at}
use Rattle.hwp_check_evidence.specs.declared.windows.Span.{Span}
use Rattle.hwp_check_evidence.specs.Windows.{AreSpans, IsBeforeLater, IsPastEarlier, IsSpan, came_to, end_before, none_number, start_from, start_of}
use Rattle.hwp_check_evidence.proofs.ListItems.{item_at, item_of_drop, item_of_take, none_of_take}
use Rattle.hwp_check_evidence.proofs.SpanLaws.{AreBelow, AreFrom, end-get, end-many, fold-low, high-start, low-fold, start-high}

-- an entry of a history, by its place
pub record IsEntry (pages : List (List Entry)) (at : At) (e : Entry) : Type 0 where
  pub entries : List Entry
  pub page : slice_get pages at.page.0 ≡ Some entries
  pub there : slice_get entries at.entry ≡ Some e

pub is-entry : (pages : List (List Entry)) (at : At) (e : Entry) → entry_at pages at ≡ Some e → IsEntry pages at e
is-entry pages at e is = by (slice_get pages at.page.0) refl is
  where
    by : (o : Option (List Entry)) → slice_get pages at.page.0 ≡ o → option_and_then (λ (entries : List Entry). slice_get entries at.entry) o ≡ Some e → IsEntry pages at e
    by None page there = absurd (none-some e there)
    by (Some entries) page there = record { entries = entries; page = page; there = there }

pub entry-is : (pages : List (List Entry)) (page : Page) (n : ℕ) (entries : List Entry) (e : Entry) → slice_get pages page.0 ≡ Some entries → slice_get entries n ≡ Some e
    → entry_at pages (record { page = page; entry = n }) ≡ Some e
entry-is pages page n entries e is there = ap (option_and_then (λ (es : List Entry). slice_get es n)) is ∙ there

same-cpu : (a b : Cpu) → a.0 ≡ b.0 → a ≡ b
same-cpu a b is = λ i. record { 0 = is i }

-- a drop past the end is the drop at the end
drop-most : {X : Type 0} (xs : List X) (n : ℕ) (i : ℕ) (x : X) → slice_get (drop n xs) i ≡ Some x → slice_get xs (n + i) ≡ Some x
drop-most xs n i x is = sym (item_of_drop xs n i) ∙ is

module _ (pages : List (List Entry)) (who : Who) (at : At) (entries : List Entry) (there : slice_get pages at.page.0 ≡ Some entries) where
  in-page : (bt : At) (e : Entry) → entry_at pages bt ≡ Some e → bt.page ≡ at.page → slice_get entries bt.entry ≡ Some e
  in-page bt e is page_is =
      let f = is-entry pages bt e is in
      let same : f.entries ≡ entries = same_Some _ _ (sym f.page ∙ ap (λ (p : Page). slice_get pages p.0) page_is ∙ there) in
      subst (λ (es : List Entry). slice_get es bt.entry ≡ Some e) same f.there

  pub past-from : IsPastEarlier pages who at → AreFrom who.cpu (drop at.entry entries) who.seq
  past-from past i e is own = elim (cases_lt e.who.seq who.seq) [
    | inl low ↦
        let before : at.entry + i < at.entry = past (record { page = at.page; entry = at.entry + i }) e (entry-is pages at.page (at.entry + i) entries e there (drop-most entries at.entry i e is)) refl (same-cpu e.who.cpu who.cpu own) low in
        absurd (omega (arith, before))
    | inr high ↦ high
  ]

  pub from-past : AreFrom who.cpu (drop at.entry entries) who.seq → IsPastEarlier pages who at
  from-past from bt e is page_is cpu_is low = elim (cases_lt bt.entry at.entry) [
    | inl before ↦ before
    | inr after ↦
        let i : ℕ = bt.entry - at.entry in
        let sum : at.entry + (bt.entry - at.entry) ≡ bt.entry = omega (arith, after) in
        let got : slice_get (drop at.entry entries) (bt.entry - at.entry) ≡ Some e = item_of_drop entries at.entry (bt.entry - at.entry) ∙ ap (slice_get entries) sum ∙ in-page bt e is page_is in
        let high : who.seq ≤ e.who.seq = from (bt.entry - at.entry) e got (ap (λ (c : Cpu). c.0) cpu_is) in
        absurd (omega (arith, low, high))
  ]

  pub later-below : IsBeforeLater pages who at → AreBelow who.cpu (take at.entry entries) (who.seq + 1)
  later-below later i e is own = elim (cases_lt who.seq e.who.seq) [
    | inl high ↦ elim (cases_lt i at.entry) [
      | inl before ↦
          let after : at.entry ≤ i = later (record { page = at.page; entry = i }) e (entry-is pages at.page i entries e there (sym (item_of_take entries at.entry i before) ∙ is)) refl (same-cpu e.who.cpu who.cpu own) high in
          absurd (omega (arith, before, after))
      | inr after ↦ absurd (none-some e (sym (none_of_take entries at.entry i after) ∙ is))
    ]
    | inr low ↦ omega (arith, low)
  ]

  pub below-later : AreBelow who.cpu (take at.entry entries) (who.seq + 1) → IsBeforeLater pages who at
  below-later below bt e is page_is cpu_is high = elim (cases_lt bt.entry at.entry) [
    | inl before ↦
        let low : e.who.seq < who.seq + 1 = below bt.entry e (item_of_take entries at.entry bt.entry before ∙ in-page bt e is page_is) (ap (λ (c : Cpu). c.0) cpu_is) in
        absurd (omega (arith, low, high))
    | inr after ↦ after
  ]

-- what a span says at a place
take-most : {X : Type 0} (xs : List X) (n : ℕ) → take (min n (length xs)) xs ≡ take n xs
take-most xs zero = ap (λ (m : ℕ). take m xs) (let z : min 0 (length xs) ≡ 0 = omega arith in z)
take-most [] (suc n) = ap (λ (m : ℕ). take m []) (let z : min (suc n) 0 ≡ 0 = omega arith in z)
take-most (x ∷ xs) (suc n) = ap (λ (m : ℕ). take m (x ∷ xs)) (let z : min (suc n) (suc (length xs)) ≡ suc (min n (length xs)) = omega arith in z) ∙ ap (λ (l : List _). x ∷ l) (take-most xs n)

pub past-empty : {X : Type 0} (xs : List X) (n : ℕ) → length xs ≤ n → drop n xs ≡ []
past-empty [] zero few = refl
past-empty [] (suc n) few = refl
past-empty (x ∷ xs) zero few = absurd (omega (arith, few))
past-empty (x ∷ xs) (suc n) few = past-empty xs n (omega (arith, few))

drop-least : {X : Type 0} (xs : List X) (n : ℕ) → drop (min n (length xs)) xs ≡ drop n xs
drop-least xs n = elim (cases_lt n (length xs)) [
  | inl low ↦ ap (λ (m : ℕ). drop m xs) (let is : min n (length xs) ≡ n = omega (arith, low) in is)
  | inr high ↦ ap (λ (m : ℕ). drop m xs) (let is : min n (length xs) ≡ length xs = omega (arith, high) in is) ∙ past-empty xs (length xs) (omega arith) ∙ sym (past-empty xs n high)
]

pub end-is : (cpu : Cpu) (entries : List Entry) (span : Span) (place : ℕ) → IsSpan cpu entries span → end_before span place ≡ fold (came_to cpu) 0 (take place entries)
end-is cpu entries span place is =
    let many : length span.ends ≡ length entries + 1 = ap length is.ends ∙ end-many cpu 0 entries in
    let at : min place (length span.ends - 1) ≡ min place (length entries) = omega (arith, many) in
    let got : slice_get span.ends (min place (length entries)) ≡ Some (fold (came_to cpu) 0 (take (min place (length entries)) entries)) =
    ap (λ (l : List ℕ). slice_get l (min place (length entries))) is.ends ∙ end-get cpu 0 entries (min place (length entries)) (omega arith) in
    ap (λ (m : ℕ). slice_index_or span.ends m 0) at ∙ get_or_from_slice_get span.ends (min place (length entries)) _ 0 got ∙ ap (fold (came_to cpu) 0) (take-most entries place)

pub start-is : (cpu : Cpu) (entries : List Entry) (span : Span) (place : ℕ) → IsSpan cpu entries span → start_from span place ≡ start_of cpu (drop place entries)
start-is cpu entries span place is =
    let many : length span.starts ≡ length entries + 1 = is.many in
    let at : length span.starts - 1 - min place (length span.starts - 1) ≡ length entries - min place (length entries) = omega (arith, many) in
    let inside : length entries - min place (length entries) < length span.starts = omega (arith, many) in
    let x = item_at span.starts (length entries - min place (length entries)) inside in
    let sum : length entries - min place (length entries) + min place (length entries) ≡ length entries = omega arith in
    let value : x.0 ≡ start_of cpu (drop (min place (length entries)) entries) = is.starts.each (length entries - min place (length entries)) (min place (length entries)) x.0 x.1 sum in
    ap (λ (m : ℕ). slice_index_or span.starts m none_number) at ∙ get_or_from_slice_get span.starts (length entries - min place (length entries)) x.0 none_number x.1 ∙ value ∙ ap (start_of cpu) (drop-least entries place)

module _ (pages : List (List Entry)) (spans : List Span) (who : Who) (at : At) (are : AreSpans who.cpu pages spans) (few : who.seq < none_number) where
  span-is : (span : Span) → slice_get spans at.page.0 ≡ Some span → (entries : List Entry) × (slice_get pages at.page.0 ≡ Some entries) × IsSpan who.cpu entries span
  span-is span there =
      let inside : at.page.0 < length spans = slice_get_within spans at.page.0 span there in
      let many : length spans ≡ length pages = are.many in
      let e = item_at pages at.page.0 (omega (arith, inside, many)) in
      (e.0, e.1, are.each at.page.0 e.0 span e.1 there)

  pub span-in : (span : Span) → slice_get spans at.page.0 ≡ Some span → who.seq ≤ start_from span at.entry → end_before span at.entry ≤ who.seq + 1 → IsPastEarlier pages who at × IsBeforeLater pages who at
  span-in span there start end =
      let s = span-is span there in
      let is : start_from span at.entry ≡ start_of who.cpu (drop at.entry s.0) = start-is who.cpu s.0 span at.entry s.2 in
      let ends : end_before span at.entry ≡ fold (came_to who.cpu) 0 (take at.entry s.0) = end-is who.cpu s.0 span at.entry s.2 in (
        from-past pages who at s.0 s.1 (start-high who.cpu who.seq (drop at.entry s.0) (subst (λ (n : ℕ). who.seq ≤ n) is start)),
        below-later pages who at s.0 s.1 (fold-low who.cpu 0 (who.seq + 1) (take at.entry s.0) (subst (λ (n : ℕ). n ≤ who.seq + 1) ends end)).1,
      )

  pub in-start : (span : Span) → slice_get spans at.page.0 ≡ Some span → IsPastEarlier pages who at → who.seq ≤ start_from span at.entry
  in-start span there past =
      let s = span-is span there in
      subst (λ (n : ℕ). who.seq ≤ n) (sym (start-is who.cpu s.0 span at.entry s.2))
      (high-start who.cpu who.seq (drop at.entry s.0) (omega (arith, few)) (past-from pages who at s.0 s.1 past))

  pub in-end : (span : Span) → slice_get spans at.page.0 ≡ Some span → IsBeforeLater pages who at → end_before span at.entry ≤ who.seq + 1
  in-end span there later =
      let s = span-is span there in
      subst (λ (n : ℕ). n ≤ who.seq + 1) (sym (end-is who.cpu s.0 span at.entry s.2))
      (low-fold who.cpu 0 (who.seq + 1) (take at.entry s.0) (omega arith) (later-below pages who at s.0 s.1 later))

  -- a page that isn't there has no entry
  no-entry : slice_get spans at.page.0 ≡ None → (bt : At) (e : Entry) → entry_at pages bt ≡ Some e → bt.page ≡ at.page → ⊥
  no-entry none bt e is page_is =
      let f = is-entry pages bt e is in
      let inside : bt.page.0 < length pages = slice_get_within pages bt.page.0 f.entries f.page in
      let many : length spans ≡ length pages = are.many in
      let same : bt.page.0 ≡ at.page.0 = ap (λ (p : Page). p.0) page_is in
      let s = item_at spans at.page.0 (omega (arith, inside, many, same)) in
      none-some s.0 (sym none ∙ s.1)

  pub none-in : slice_get spans at.page.0 ≡ None → IsPastEarlier pages who at × IsBeforeLater pages who at
  none-in none = (λ bt e is page_is own low. absurd (no-entry none bt e is page_is), λ bt e is page_is own high. absurd (no-entry none bt e is page_is))
