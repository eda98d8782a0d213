-- One seat's views and rights are dealt out to the processors.
use Rattle.std.proofs.Common.{◌≡◌, ◌≢◌, ◌⊎◌, inl, inr, ℕ, zero, suc, ◌+◌, ◌<◌, ◌≤◌, ◌==◌, Bool, true, false, not, cond, List, [], ◌∷◌, ◌++◌, None, filter, map, refl, sym, ap, ◌∙◌, subst, arith, ne_eqb}
use Rattle.std.proofs.lemmas.Option.{same_Some}
use Rattle.hwp_core_rule.specs.hwp_geom.declared.Layout.{Layout}
use Rattle.hwp_core_rule.specs.declared.Rec.{Rec}
use Rattle.hwp_core_rule.specs.declared.View.{View}
use Rattle.hwp_core_rule.specs.Lists.{EachMember}
use Rattle.hwp_core_rule.specs.Opening.{below, opening_view}
use Rattle.hwp_core_rule.specs.parts.Holdings.{HoldsNothing}
use Rattle.hwp_core_rule.proofs.Lists.{each-map, same-number, same-or}
use Rattle.hwp_table_words.specs.Known.{Known, dealt, first_known, kept}
use Rattle.hwp_threads.specs.Dealing.{CanDeal}

abbrev pair : ℕ → ℕ × View
pair c = (c, opening_view c)

module _ {A : Type 0} (g : A → ℕ) where
  -- what is taken of one number leaves what there is of another
  filter-other : (k c : ℕ) → k ≢ c → (xs : List A) → filter (λ (x : A). g x == k) (filter (λ (x : A). not (g x == c)) xs) ≡ filter (λ (x : A). g x == k) xs
  filter-other k c other [] = refl
  filter-other k c other (x ∷ xs) = which (filter-other k c other xs) (same-or (g x) c)
    where
      front : Bool → List A
      front b = filter (λ (y : A). g y == k) (cond (not b) (x ∷ filter (λ (y : A). not (g y == c)) xs) (filter (λ (y : A). not (g y == c)) xs))

      which : filter (λ (y : A). g y == k) (filter (λ (y : A). not (g y == c)) xs) ≡ filter (λ (y : A). g y == k) xs → (g x ≡ c) ⊎ (g x ≢ c) → filter (λ (y : A). g y == k) (filter (λ (y : A). not (g y == c)) (x ∷ xs)) ≡ filter (λ (y : A). g y == k) (x ∷ xs)
      which rest (inl same) = ap front (same-number (g x) c same) ∙ rest
          ∙ sym (ap (λ (b : Bool). cond b (x ∷ filter (λ (y : A). g y == k) xs) (filter (λ (y : A). g y == k) xs)) (ne_eqb (g x) k (λ e. other (sym e ∙ same))))
      which rest (inr apart) = ap front (ne_eqb (g x) c apart) ∙ ap (λ (l : List A). cond (g x == k) (x ∷ l) l) rest

  filter-append : (test : A → Bool) (xs ys : List A) → filter test (xs ++ ys) ≡ filter test xs ++ filter test ys
  filter-append test [] ys = refl
  filter-append test (x ∷ xs) ys = ap (λ (l : List A). cond (test x) (x ∷ l) l) (filter-append test xs ys) ∙ which (test x)
    where
      which : (b : Bool) → cond b (x ∷ (filter test xs ++ filter test ys)) (filter test xs ++ filter test ys) ≡ cond b (x ∷ filter test xs) (filter test xs) ++ filter test ys
      which true = refl
      which false = refl

module _ {A : Type 0} (P : A → Type 0) where
  each-cons : (x : A) (xs : List A) → P x → EachMember P xs → EachMember P (x ∷ xs)
  each-cons x xs p each zero y e = subst P (same_Some x y e) p
  each-cons x xs p each (suc i) y e = each i y e

  -- what each member of a list is, each that is taken of it is
  each-filter : (test : A → Bool) (xs : List A) → EachMember P xs → EachMember P (filter test xs)
  each-filter test [] each = each
  each-filter test (x ∷ xs) each = which (test x) (each-filter test xs (λ i y e. each (suc i) y e))
    where
      which : (b : Bool) → EachMember P (filter test xs) → EachMember P (cond b (x ∷ filter test xs) (filter test xs))
      which true rest = each-cons x (filter test xs) (each 0 x refl) rest
      which false rest = rest

-- of the numbers below n each is there once
none-of : (n c : ℕ) → n ≤ c → filter (λ (m : ℕ). m == c) (below n) ≡ []
none-of zero c past = refl
none-of (suc n) c past =
    filter-append (λ (m : ℕ). m) (λ (m : ℕ). m == c) (below n) (n ∷ [])
    ∙ ap (λ (l : List ℕ). l ++ filter (λ (m : ℕ). m == c) (n ∷ [])) (none-of n c (omega arith)) ∙ ap (λ (b : Bool). cond b (n ∷ []) []) (ne_eqb n c (λ e. omega (arith, e)))

one-of : (n c : ℕ) → c < n → filter (λ (m : ℕ). m == c) (below n) ≡ c ∷ []
one-of zero c less = absurd (omega arith)
one-of (suc n) c less = filter-append (λ (m : ℕ). m) (λ (m : ℕ). m == c) (below n) (n ∷ []) ∙ which (one-of n c) (same-or n c)
  where
    which : (c < n → filter (λ (m : ℕ). m == c) (below n) ≡ c ∷ []) → (n ≡ c) ⊎ (n ≢ c) → filter (λ (m : ℕ). m == c) (below n) ++ filter (λ (m : ℕ). m == c) (n ∷ []) ≡ c ∷ []
    which rest (inl same) = ap (λ (l : List ℕ). l ++ filter (λ (m : ℕ). m == c) (n ∷ [])) (none-of n c (omega (arith, same))) ∙ ap (λ (b : Bool). cond b (n ∷ []) []) (same-number n c same) ∙ ap (λ (m : ℕ). m ∷ []) same
    which rest (inr other) = ap (λ (l : List ℕ). l ++ filter (λ (m : ℕ). m == c) (n ∷ [])) (rest (omega (arith, other))) ∙ ap (λ (b : Bool). c ∷ cond b (n ∷ []) []) (ne_eqb n c other)

-- and so of the views at opening
filter-pairs : (c : ℕ) (ns : List ℕ) → filter (λ (x : ℕ × View). x.0 == c) (map pair ns) ≡ map pair (filter (λ (m : ℕ). m == c) ns)
filter-pairs c [] = refl
filter-pairs c (n ∷ ns) = ap (λ (l : List (ℕ × View)). cond (n == c) (pair n ∷ l) l) (filter-pairs c ns) ∙ which (n == c)
  where
    which : (b : Bool) → cond b (pair n ∷ map pair (filter (λ (m : ℕ). m == c) ns)) (map pair (filter (λ (m : ℕ). m == c) ns)) ≡ map pair (cond b (n ∷ filter (λ (m : ℕ). m == c) ns) (filter (λ (m : ℕ). m == c) ns))
    which true = refl
    which false = refl

-- the opening seat can deal to all
pub first-deals : (layout : Layout) → CanDeal 0 layout.cpus (first_known layout)
first-deals layout = record {
  each = λ c from less. λ i. record { mines = (filter-pairs c (below layout.cpus) ∙ ap (map pair) (one-of layout.cpus c less)) i; own = []; rights = one-of layout.cpus c less i; whole = None };
  unused = record { own = refl; nothing = each-map pair (λ (x : ℕ × View). HoldsNothing x.1) (below layout.cpus) (λ i c e. blank c) };
}
  where
    blank : (c : ℕ) → HoldsNothing (opening_view c)
    blank c = record { refs = refl; locks = refl; pages = refl; reserved = refl; hands = refl; owed = refl; bodies = refl }

-- and the next ones after one
pub deals-on : (c cpus : ℕ) (v : Known) → CanDeal c cpus v → CanDeal (c + 1) cpus (kept c v)
deals-on c cpus v can = record {
  each = λ k from less. others k (omega (arith, from)) ∙ can.each k (omega (arith, from)) less;
  unused = record {
    own = ap (λ (l : List (ℕ × Rec)). filter (λ (x : ℕ × Rec). not (x.0 == c)) l) can.unused.own;
    nothing = each-filter (λ (x : ℕ × View). HoldsNothing x.1) (λ (x : ℕ × View). not (x.0 == c)) v.mines can.unused.nothing;
  };
}
  where
    others : (k : ℕ) → k ≢ c → dealt k (kept c v) ≡ dealt k v
    others k other i = record {
      mines = filter-other (λ (x : ℕ × View). x.0) k c other v.mines i;
      own = filter-other (λ (x : ℕ × Rec). x.0) k c other v.own i;
      rights = filter-other (λ (m : ℕ). m) k c other v.rights i;
      whole = None;
    }
