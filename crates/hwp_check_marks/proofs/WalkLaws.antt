-- What a walk over entries finds is the lowest line that one of them asks for.
use Rattle.std.proofs.Common.{◌≡◌, ◌⊎◌, inl, inr, ℕ, zero, suc, ◌+◌, ◌≤◌, min, Bool, true, List, [], ◌∷◌, Option, Some, None, slice_get, sum_by, take, true≢false, refl, sym, ap, ◌∙◌, subst, arith}
use Rattle.std.proofs.lemmas.Bool.{cases_Bool, cases_lt}
use Rattle.std.proofs.lemmas.List.Sums.{sum_by-cons}
use Rattle.std.proofs.lemmas.Option.{none-some, same_Some}
use Rattle.hwp_check_rules.specs.hwp_page.declared.Entry.{Entry}
use Rattle.hwp_check_rules.specs.Firsts.{sooner, sooner_if}
use Rattle.hwp_check_rules.specs.Standing.{entry_height, page_height}
use Rattle.hwp_check_marks.specs.Walks.{IsAsked, IsAskedIn, IsLowest, walk_entries, walk_pages}

-- one line more that is so
pub sooner-least : (P : ℕ → Type 0) (found : Option ℕ) (line : ℕ) → IsLowest P found → IsLowest (λ (n : ℕ). P n ⊎ (n ≡ line)) (sooner found line)
sooner-least P None line none = record { at = inr refl; first = λ other asked. elim asked [ inl old ↦ absurd (none other old) | inr is ↦ omega (arith, is) ] }
sooner-least P (Some n) line least = elim (cases_lt line n) [
  | inl low ↦
      let is : min n line ≡ line = omega (arith, low) in
      record {
        at = inr is;
        first = λ other asked. elim asked [ inl old ↦ let after : n ≤ other = least.first other old in omega (arith, after, low) | inr same ↦ omega (arith, same) ];
      }
  | inr high ↦
      let is : min n line ≡ n = omega (arith, high) in
      record {
        at = inl (subst P (sym is) least.at);
        first = λ other asked. elim asked [ inl old ↦ let after : n ≤ other = least.first other old in omega (arith, after, is) | inr same ↦ omega (arith, same, high) ];
      }
]

-- what is so in other words
pub other-words : (P Q : ℕ → Type 0) (found : Option ℕ) → ((n : ℕ) → P n → Q n) → ((n : ℕ) → Q n → P n) → IsLowest P found → IsLowest Q found
other-words P Q None to from none = λ line asked. none line (from line asked)
other-words P Q (Some n) to from least = record { at = to n least.at; first = λ other asked. least.first other (from other asked) }

module _ (asks : Entry → Bool) (wants : Entry → ℕ → ℕ) where
  first-one : (line : ℕ) (e : Entry) (es : List Entry) → asks e ≡ true → IsAsked asks wants line (e ∷ es) (wants e line)
  first-one line e es so = record { place = 0; entry = e; there = refl; so = so; line_is = ap (wants e) (omega arith) }

  later-one : (line n : ℕ) (e : Entry) (es : List Entry) → IsAsked asks wants (line + entry_height e) es n → IsAsked asks wants line (e ∷ es) n
  later-one line n e es a = record {
    place = suc a.place;
    entry = a.entry;
    there = a.there;
    so = a.so;
    line_is =
        let more : sum_by entry_height (e ∷ take a.place es) ≡ entry_height e + sum_by entry_height (take a.place es) = sum_by-cons entry_height e (take a.place es) in
        let same : line + entry_height e + sum_by entry_height (take a.place es) ≡ line + sum_by entry_height (e ∷ take a.place es) = omega (arith, more) in
        a.line_is ∙ ap (wants a.entry) same;
  }

  one-of : (line n : ℕ) (e : Entry) (es : List Entry) → IsAsked asks wants line (e ∷ es) n → ((asks e ≡ true) × (n ≡ wants e line)) ⊎ IsAsked asks wants (line + entry_height e) es n
  one-of line n e es a = by a.place a.there a.line_is
    where
      by : (k : ℕ) → slice_get (e ∷ es) k ≡ Some a.entry → n ≡ wants a.entry (line + sum_by entry_height (take k (e ∷ es))) → ((asks e ≡ true) × (n ≡ wants e line)) ⊎ IsAsked asks wants (line + entry_height e) es n
      by zero there is =
          let same : e ≡ a.entry = same_Some _ _ there in
          inl (ap asks same ∙ a.so, is ∙ ap (λ (x : Entry). wants x (line + sum_by entry_height [])) (sym same) ∙ ap (wants e) (omega arith))
      by (suc k) there is =
          let more : sum_by entry_height (e ∷ take k es) ≡ entry_height e + sum_by entry_height (take k es) = sum_by-cons entry_height e (take k es) in
          let same : line + sum_by entry_height (e ∷ take k es) ≡ line + entry_height e + sum_by entry_height (take k es) = omega (arith, more) in
          inr (record { place = k; entry = a.entry; there = there; so = a.so; line_is = is ∙ ap (wants a.entry) same })

  walk-entries : (P : ℕ → Type 0) (line : ℕ) (found : Option ℕ) (es : List Entry) → IsLowest P found → IsLowest (λ (n : ℕ). P n ⊎ IsAsked asks wants line es n) (walk_entries asks wants line found es)
  walk-entries P line found [] low = other-words P (λ (n : ℕ). P n ⊎ IsAsked asks wants line [] n) found (λ n was. inl was) (λ n asked. elim asked [ inl was ↦ was | inr a ↦ absurd (none-some _ a.there) ]) low
  walk-entries P line found (e ∷ es) low = elim (cases_Bool (asks e)) [
    | inl so ↦
        let step : IsLowest (λ (n : ℕ). P n ⊎ (n ≡ wants e line)) (sooner_if (asks e) found (wants e line)) =
        subst (λ (b : Bool). IsLowest (λ (n : ℕ). P n ⊎ (n ≡ wants e line)) (sooner_if b found (wants e line))) (sym so) (sooner-least P found (wants e line) low) in
        other-words (λ (n : ℕ). (P n ⊎ (n ≡ wants e line)) ⊎ IsAsked asks wants (line + entry_height e) es n) (λ (n : ℕ). P n ⊎ IsAsked asks wants line (e ∷ es) n) _
        (λ n asked. elim asked [
          | inl (inl was) ↦ inl was
          | inl (inr is) ↦ inr (subst (λ (k : ℕ). IsAsked asks wants line (e ∷ es) k) (sym is) (first-one line e es so))
          | inr later ↦ inr (later-one line n e es later)
        ])
        (λ n asked. elim asked [
          | inl was ↦ inl (inl was)
          | inr a ↦ elim (one-of line n e es a) [ inl first ↦ inl (inr first.1) | inr later ↦ inr later ]
        ])
        (walk-entries (λ (n : ℕ). P n ⊎ (n ≡ wants e line)) (line + entry_height e) (sooner_if (asks e) found (wants e line)) es step)
    | inr not_so ↦
        let step : IsLowest P (sooner_if (asks e) found (wants e line)) = subst (λ (b : Bool). IsLowest P (sooner_if b found (wants e line))) (sym not_so) low in
        other-words (λ (n : ℕ). P n ⊎ IsAsked asks wants (line + entry_height e) es n) (λ (n : ℕ). P n ⊎ IsAsked asks wants line (e ∷ es) n) _
        (λ n asked. elim asked [ inl was ↦ inl was | inr later ↦ inr (later-one line n e es later) ])
        (λ n asked. elim asked [
          | inl was ↦ inl was
          | inr a ↦ elim (one-of line n e es a) [ inl first ↦ absurd (true≢false (sym first.0 ∙ not_so)) | inr later ↦ inr later ]
        ])
        (walk-entries P (line + entry_height e) (sooner_if (asks e) found (wants e line)) es step)
  ]

  first-page : (line n : ℕ) (es : List Entry) (rest : List (List Entry)) → IsAsked asks wants (line + 1) es n → IsAskedIn asks wants line (es ∷ rest) n
  first-page line n es rest a = record { page = 0; list = es; shown = refl; asked = subst (λ (k : ℕ). IsAsked asks wants k es n) (omega arith) a }

  later-page : (line n : ℕ) (es : List Entry) (rest : List (List Entry)) → IsAskedIn asks wants (line + page_height es) rest n → IsAskedIn asks wants line (es ∷ rest) n
  later-page line n es rest a = record {
    page = suc a.page;
    list = a.list;
    shown = a.shown;
    asked =
        let more : sum_by page_height (es ∷ take a.page rest) ≡ page_height es + sum_by page_height (take a.page rest) = sum_by-cons page_height es (take a.page rest) in
        subst (λ (k : ℕ). IsAsked asks wants k a.list n) (omega (arith, more)) a.asked;
  }

  one-page : (line n : ℕ) (es : List Entry) (rest : List (List Entry)) → IsAskedIn asks wants line (es ∷ rest) n → IsAsked asks wants (line + 1) es n ⊎ IsAskedIn asks wants (line + page_height es) rest n
  one-page line n es rest a = by a.page a.shown a.asked
    where
      by : (k : ℕ) → slice_get (es ∷ rest) k ≡ Some a.list → IsAsked asks wants (line + sum_by page_height (take k (es ∷ rest)) + 1) a.list n → IsAsked asks wants (line + 1) es n ⊎ IsAskedIn asks wants (line + page_height es) rest n
      by zero shown asked =
          let same : es ≡ a.list = same_Some _ _ shown in
          inl (subst (λ (k : ℕ). IsAsked asks wants k es n) (omega arith) (subst (λ (xs : List Entry). IsAsked asks wants (line + sum_by page_height [] + 1) xs n) (sym same) asked))
      by (suc k) shown asked =
          let more : sum_by page_height (es ∷ take k rest) ≡ page_height es + sum_by page_height (take k rest) = sum_by-cons page_height es (take k rest) in
          inr (record { page = k; list = a.list; shown = shown; asked = subst (λ (j : ℕ). IsAsked asks wants j a.list n) (omega (arith, more)) asked })

  walk-pages : (P : ℕ → Type 0) (line : ℕ) (found : Option ℕ) (pages : List (List Entry)) → IsLowest P found → IsLowest (λ (n : ℕ). P n ⊎ IsAskedIn asks wants line pages n) (walk_pages asks wants line found pages)
  walk-pages P line found [] low = other-words P (λ (n : ℕ). P n ⊎ IsAskedIn asks wants line [] n) found (λ n was. inl was) (λ n asked. elim asked [ inl was ↦ was | inr a ↦ absurd (none-some _ a.shown) ]) low
  walk-pages P line found (es ∷ rest) low =
      other-words (λ (n : ℕ). (P n ⊎ IsAsked asks wants (line + 1) es n) ⊎ IsAskedIn asks wants (line + page_height es) rest n) (λ (n : ℕ). P n ⊎ IsAskedIn asks wants line (es ∷ rest) n) _
      (λ n asked. elim asked [
        | inl (inl was) ↦ inl was
        | inl (inr here) ↦ inr (first-page line n es rest here)
        | inr later ↦ inr (later-page line n es rest later)
      ])
      (λ n asked. elim asked [
        | inl was ↦ inl (inl was)
        | inr a ↦ elim (one-page line n es rest a) [ inl here ↦ inl (inr here) | inr later ↦ inr later ]
      ])
      (walk-pages (λ (n : ℕ). P n ⊎ IsAsked asks wants (line + 1) es n) (line + page_height es) (walk_entries asks wants (line + 1) found es) rest (walk-entries P (line + 1) found es low))

  -- the whole walk
  pub walked : (line : ℕ) (pages : List (List Entry)) → IsLowest (IsAskedIn asks wants line pages) (walk_pages asks wants line None pages)
  walked line pages =
      other-words (λ (n : ℕ). ⊥ ⊎ IsAskedIn asks wants line pages n) (IsAskedIn asks wants line pages) _ (λ n asked. elim asked [ inl never ↦ absurd never | inr a ↦ a ]) (λ n a. inr a)
      (walk-pages (λ (n : ℕ). ⊥) line None pages (λ n never. never))
