-- The first part of a table, which the frame rule sees, after a step, and where seats are cut and joined.
use Rattle.std.proofs.Common.{◌≡◌, ℕ, zero, suc, ◌<◌, List, [], ◌∷◌, ◌++◌, map, set, take, drop, refl, sym, ap, ◌∙◌, subst, arith}
use mathlib.Core.Option.{some, some-injective, some-ne-none}
use lib.ListN.{get_elem?}
use Rattle.std.proofs.lemmas.List.{map-append, map-set}
use Rattle.atomic_table.specs.Table.{Act, stepped}
use Rattle.hwp_core_rule.specs.hwp_geom.declared.Layout.{Layout}
use Rattle.hwp_core_rule.specs.Words.{size}
use Rattle.hwp_table_words.specs.Known.{Knowing}
use Rattle.hwp_table_words.specs.Rules.{Kept, Reached, cache_seat}
use Rattle.hwp_table_words.specs.Stands.{CachedTable, Content, Table, first_part, stand}
use Rattle.hwp_table_words.specs.tlb.Rule.{CachesAgree}

module _ {A : Type 0} where
  pub take-set : (m : ℕ) (xs : List A) (i : ℕ) (a : A) → take m (set xs i a) ≡ set (take m xs) i a
  take-set zero xs i a = refl
  take-set (suc m) [] i a = refl
  take-set (suc m) (x ∷ xs) zero a = refl
  take-set (suc m) (x ∷ xs) (suc i) a = ap (λ (l : List A). x ∷ l) (take-set m xs i a)

  pub drop-set : (m : ℕ) (xs : List A) (i : ℕ) (a : A) → i < m → drop m (set xs i a) ≡ drop m xs
  drop-set zero xs i a less = absurd (omega (arith, less))
  drop-set (suc m) [] i a less = refl
  drop-set (suc m) (x ∷ xs) zero a less = refl
  drop-set (suc m) (x ∷ xs) (suc i) a less = drop-set m xs i a (omega (arith, less))

  pub element-map : {B : Type 0} (g : A → B) (l : List A) (i : ℕ) (a : A) → get_elem? l i ≡ some a → get_elem? (map g l) i ≡ some (g a)
  element-map g [] i a e = absurd (some-ne-none a (sym e))
  element-map g (x ∷ xs) zero a e = ap (λ (y : A). some (g y)) (some-injective x a e)
  element-map g (x ∷ xs) (suc i) a e = element-map g xs i a e

module _ {A B : Type 0} (g : A → B) (vs : List A) (id : ℕ) where
  pub map-cut : (left right : A) → map g (set vs id left ++ right ∷ []) ≡ set (map g vs) id (g left) ++ g right ∷ []
  map-cut left right = map-append g (set vs id left) (right ∷ []) ∙ ap (λ (l : List B). l ++ g right ∷ []) (map-set g vs id left)

  pub map-joined : (other : ℕ) (both spent : A) → map g (set (set vs id both) other spent) ≡ set (set (map g vs) id (g both)) other (g spent)
  map-joined other both spent = map-set g (set vs id both) other spent ∙ ap (λ (l : List B). set l other (g spent)) (map-set g vs id both)

module _ (ways : ℕ) (layout : Layout) where
  -- a table whose first part keeps the frame rule, and whose entries and seats agree
  pub kept-of : (t : CachedTable) (p : Table) (h : Reached layout p) → first_part layout t ≡ p → CachesAgree ways layout (stand h.views p) (drop (size layout) t.words) (map cache_seat t.views) → Kept ways layout t
  kept-of t p h e agree = subst (λ (q : Table). (k : Reached layout q) → CachesAgree ways layout (stand k.views q) (drop (size layout) t.words) (map cache_seat t.views) → Kept ways layout t) e (λ k a. record { reached = k; agree = a }) h agree

  -- a step on one of the machine's words
  pub first-stepped : (t : CachedTable) (word n id : ℕ) (c : List (ℕ × Content)) (w : Knowing) (a : Act Content) → first_part layout (stepped t word n id c w a) ≡ stepped (first_part layout t) word n id c w.known a
  first-stepped t word n id c w a = λ i. record {
    words = take-set (size layout) t.words word n i;
    homes = (stepped (first_part layout t) word n id c w.known a).homes;
    views = map-set (λ (k : Knowing). k.known) t.views id w i;
  }
