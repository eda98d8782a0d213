-- Lists that grow by the next number, and slots.
use Rattle.std.proofs.Common.{◌≡◌, ℕ, suc, ◌+◌, List, [], ◌∷◌, ◌++◌, Option, Some, None, map, replicate, refl, sym, ap, ◌∙◌, arith}
use Rattle.std.proofs.lemmas.List.{append_assoc, append-nil, map-append, replicate_more}
use Rattle.std.proofs.lemmas.Option.{none-some, same_Some}
use Rattle.hwp_core_rule.specs.hwp_geom.declared.Layout.{Layout}
use Rattle.hwp_core_rule.specs.hwp_page.History.{BodyValue, IsFresh}
use Rattle.hwp_core_rule.specs.declared.Log.{Log}
use Rattle.hwp_core_rule.specs.Lists.{EachMember}
use Rattle.hwp_core_rule.specs.Opening.{below, opening_log}
use Rattle.hwp_core_rule.proofs.Lists.{each-push}
use Rattle.hwp_core_rule.specs.Calls.{FitsLayout}
use Rattle.hwp_plain.specs.Openings.{home_with}

-- one number more
pub below-more : (n : ℕ) → below n ++ n ∷ [] ≡ below (n + 1)
below-more n = let next : suc n ≡ n + 1 = omega arith in ap below next

pub map-more : {B : Type 0} (f : ℕ → B) (xs : List B) (n : ℕ) → xs ≡ map f (below n) → xs ++ f n ∷ [] ≡ map f (below (n + 1))
map-more f xs n is = ap (λ l. l ++ f n ∷ []) is ∙ sym (map-append f (below n) (n ∷ [])) ∙ ap (map f) (below-more n)

-- a part more, and what still comes behind it
pub added : (w v a rest all : List ℕ) → w ≡ v ++ a → v ++ (a ++ rest) ≡ all → w ++ rest ≡ all
added w v a rest all made before = ap (λ (l : List ℕ). l ++ rest) made ∙ append_assoc v a rest ∙ before

-- so many equal words more, by a count that was read
pub filled : (w v : List ℕ) (count is word : ℕ) (rest all : List ℕ) → w ≡ v ++ replicate count word → count ≡ is → v ++ (replicate is word ++ rest) ≡ all → w ++ rest ≡ all
filled w v count is word rest all made same before = added w v (replicate is word) rest all (made ∙ ap (λ (n : ℕ). v ++ replicate n word) same) before

abbrev pub opening_shelf : ℕ → Option (Option Log)
opening_shelf q = Some (Some (opening_log q))

-- the frames' slots, and so many shelves
abbrev pub slots_open : ℕ → ℕ → List (Option (Option Log))
slots_open frames pages = replicate frames (Some None) ++ map opening_shelf (below pages)

module _ (layout : Layout) (slots : List (Option BodyValue)) where
  pub frame-more : (n : ℕ) → map home_with slots ≡ replicate n (Some None) → EachMember (FitsLayout layout) slots
      → (map home_with (slots ++ None ∷ []) ≡ replicate (n + 1) (Some None)) × EachMember (FitsLayout layout) (slots ++ None ∷ [])
  frame-more n is each = (
    map-append home_with slots (None ∷ []) ∙ ap (λ (l : List (Option (Option Log))). l ++ Some None ∷ []) is ∙ replicate_more n (Some None),
    each-push (FitsLayout layout) slots None (λ b e. absurd (none-some b e)) each,
  )

  pub no-shelf : (n frames : ℕ) → n ≡ frames → map home_with slots ≡ replicate n (Some None) → map home_with slots ≡ slots_open frames 0
  no-shelf n frames same is = is ∙ ap (λ (m : ℕ). replicate m (Some None)) same ∙ sym (append-nil (replicate frames (Some None)))

  pub shelf-more : (frames q : ℕ) (body : BodyValue) → IsFresh layout (record { 0 = q }) body → map home_with slots ≡ slots_open frames q → EachMember (FitsLayout layout) slots
      → (map home_with (slots ++ Some body ∷ []) ≡ slots_open frames (q + 1)) × EachMember (FitsLayout layout) (slots ++ Some body ∷ [])
  shelf-more frames q body fresh is each = (
    map-append home_with slots (Some body ∷ []) ∙ (λ i. is i ++ shelf i ∷ [])
        ∙ append_assoc (replicate frames (Some None)) (map opening_shelf (below q)) (opening_shelf q ∷ [])
        ∙ ap (λ (l : List (Option (Option Log))). replicate frames (Some None) ++ l) (map-more opening_shelf (map opening_shelf (below q)) q refl),
    each-push (FitsLayout layout) slots (Some body) (λ b e. ap (λ (c : BodyValue). c.layout) (sym (same_Some body b e)) ∙ fresh.layout_is) each,
  )
    where
      shelf : home_with (Some body) ≡ opening_shelf q
      shelf = λ i. Some (Some (record { page = fresh.page_is i; entries = fresh.no_entry i }))
