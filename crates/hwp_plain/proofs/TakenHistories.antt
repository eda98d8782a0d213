-- The histories that were taken so far, page by page. No two pages have one slot.
use Rattle.std.proofs.Common.{◌≡◌, ◌≢◌, ◌⊎◌, ℕ, zero, suc, ◌+◌, ◌<◌, ◌≤◌, List, [], ◌∷◌, ◌++◌, Some, None, length, set, slice_get, slice_index, refl, sym, ap, ◌∙◌, arith, inl, inr}
use Rattle.std.proofs.lemmas.List.{length-append}
use Rattle.std.proofs.lemmas.Option.{none-some, same_Some, slice_get-get_or}
use Rattle.hwp_core_rule.specs.hwp_geom.declared.Page.{Page}
use Rattle.hwp_core_rule.specs.hwp_page.declared.Entry.{Entry}
use Rattle.hwp_core_rule.specs.declared.Log.{Log}
use Rattle.hwp_core_rule.specs.Lists.{Homes}
use Rattle.hwp_core_rule.proofs.PageWords.{same-page}
use Rattle.hwp_core_rule.proofs.Lists.{set_else}
use Rattle.hwp_plain.specs.Ends.{AreHistories, AreLed, HasBody, slot_by}

-- a member of a list that was pushed on
at-end : {A : Type 0} (l : List A) (a b : A) (j : ℕ) → slice_get (l ++ a ∷ []) j ≡ Some b → (slice_get l j ≡ Some b) ⊎ ((j ≡ length l) × (a ≡ b))
at-end [] a b zero e = inr (refl, same_Some a b e)
at-end [] a b (suc j) e = absurd (none-some b e)
at-end (x ∷ xs) a b zero e = inl e
at-end (x ∷ xs) a b (suc j) e = elim (at-end xs a b j e) [
  | inl was ↦ inl was
  | inr is ↦ inr (ap suc is.0, is.1)
]

-- the histories of the first pages were taken, and the bodies of the others are where they were
pub record Taken (frames : ℕ) (caches : List ℕ) (homes now : Homes) (n : ℕ) (pages : List (List Entry)) : Type 0 where
  pub count : length pages ≡ n
  pub told : AreHistories homes pages
  pub others : (q cache : ℕ) → n ≤ q → slice_get caches q ≡ Some cache → slice_get now (slot_by frames cache q) ≡ slice_get homes (slot_by frames cache q)

module _ (frames : ℕ) (caches : List ℕ) (homes now : Homes) (n : ℕ) (pages : List (List Entry)) (led : AreLed frames caches homes) (so-far : Taken frames caches homes now n pages) (cache : ℕ) (there : slice_get caches n ≡ Some cache) where
  -- the next page's body is still there
  still-there : HasBody now (slot_by frames cache n) n
  still-there = let was = led n cache there in (was.0, so-far.others n cache (omega arith) there ∙ was.1)

  -- no other page has its body in that slot
  apart : (q other : ℕ) → n + 1 ≤ q → slice_get caches q ≡ Some other → slot_by frames other q ≢ slot_by frames cache n
  apart q other past at same =
      let mine = led n cache there in
      let its = led q other at in
      let here : Log = record { page = record { 0 = n }; entries = mine.0 } in
      let away : Log = record { page = record { 0 = q }; entries = its.0 } in
      let one : away ≡ here =
      same_Some away here (same_Some (Some away) (Some here) (same_Some (Some (Some away)) (Some (Some here)) (sym its.1 ∙ ap (slice_get homes) same ∙ mine.1))) in
      let number : q ≡ n = ap (λ (log : Log). log.page.0) one in
      omega (arith, number, past)

  one-more : (after : Homes) (entries : List Entry) → after ≡ set now (slot_by frames cache n) (Some None)
      → ((log : Log) → slice_get now (slot_by frames cache n) ≡ Some (Some (Some log)) → entries ≡ log.entries) → Taken frames caches homes after (n + 1) (pages ++ entries ∷ [])
  one-more after entries moved is = record { count = counted; told = told; others = others }
    where
      counted : length (pages ++ entries ∷ []) ≡ n + 1
      counted = length-append pages (entries ∷ []) ∙ ap (λ (k : ℕ). k + 1) so-far.count

      others : (q other : ℕ) → n + 1 ≤ q → slice_get caches q ≡ Some other → slice_get after (slot_by frames other q) ≡ slice_get homes (slot_by frames other q)
      others q other past at =
          ap (λ (l : Homes). slice_get l (slot_by frames other q)) moved
          ∙ set_else now (slot_by frames cache n) (slot_by frames other q) (Some None) (apart q other past at)
          ∙ so-far.others q other (omega (arith, past)) at

      told : AreHistories homes (pages ++ entries ∷ [])
      told page list at = elim (at-end pages entries list page.0 at) [
        | inl earlier ↦ so-far.told page list earlier
        | inr last ↦
            let mine = led n cache there in
            let page-is : record { 0 = n } ≡ page = same-page (record { 0 = n }) page (sym (last.0 ∙ so-far.count)) in
            let history : mine.0 ≡ list = sym (is (record { page = record { 0 = n }; entries = mine.0 }) (so-far.others n cache (omega arith) there ∙ mine.1)) ∙ last.1 in (
              slot_by frames cache n,
              Some (Some (record { page = record { 0 = n }; entries = mine.0 })),
              mine.1,
              (ap (λ (p : Page). Some (Some (record { page = p; entries = mine.0 }))) page-is ∙ ap (λ (es : List Entry). Some (Some (record { page = page; entries = es }))) history),
            )
      ]

-- the same of the slot that was computed
module _ (frames : ℕ) (caches : List ℕ) (homes now : Homes) (n : ℕ) (pages : List (List Entry)) (led : AreLed frames caches homes) (so-far : Taken frames caches homes now n pages) (inside : n < length caches) (slot : ℕ) (is : slot ≡ slot_by frames (slice_index caches n) n) where
  pub next-body : (log : Log) × (slice_get now slot ≡ Some (Some (Some log)))
  next-body =
      let body = still-there frames caches homes now n pages led so-far (slice_index caches n) (slice_get-get_or caches n 0 inside) in
      (record { page = record { 0 = n }; entries = body.0 }, ap (slice_get now) is ∙ body.1)

  pub next-taken : (after : Homes) (entries : List Entry) → after ≡ set now slot (Some None) → ((log : Log) → slice_get now slot ≡ Some (Some (Some log)) → entries ≡ log.entries) → Taken frames caches homes after (n + 1) (pages ++ entries ∷ [])
  next-taken after entries moved taken =
      one-more frames caches homes now n pages led so-far (slice_index caches n) (slice_get-get_or caches n 0 inside) after entries (moved ∙ ap (λ (k : ℕ). set now k (Some None)) is)
      (λ log there. taken log (ap (slice_get now) is ∙ there))
