-- One seat's views are dealt out to the processors, from the first on.
use Rattle.std.proofs.Common.{◌≡◌, ◌≢◌, ℕ, zero, suc, ◌+◌, ◌<◌, ◌==◌, Bool, true, false, not, cond, List, [], ◌∷◌, filter, map, drop, slice_get, refl, sym, ap, ◌∙◌, subst, arith, ne_eqb}
use Rattle.std.specs.Prelude.{Some, None}
use Rattle.std.proofs.lemmas.Option.{none-some, same_Some, slice_get_within}
use Rattle.hwp_core_rule.specs.declared.View.{View}
use Rattle.hwp_core_rule.specs.Lists.{EachMember}
use Rattle.hwp_core_rule.specs.Opening.{below, opening_view}
use Rattle.hwp_core_rule.proofs.Lists.{each-map, same-number}
use Rattle.hwp_core_rule.proofs.WordsOpen.{below-at, length-below}
use Rattle.hwp_table_words.specs.Known.{Known, dealt, forgetting, idling, kept}
use Rattle.hwp_table_words.specs.Stands.{Me}

abbrev pub pair : ℕ → ℕ × View
pair c = (c, opening_view c)

module _ {A : Type 0} where
  drop-there : (xs : List A) (i : ℕ) (x : A) → slice_get xs i ≡ Some x → drop i xs ≡ x ∷ drop (suc i) xs
  drop-there [] i x e = absurd (none-some x e)
  drop-there (y ∷ ys) zero x e = λ i. same_Some y x e i ∷ ys
  drop-there (y ∷ ys) (suc n) x e = drop-there ys n x e

  get-drop : (k : ℕ) (xs : List A) (i : ℕ) → slice_get (drop k xs) i ≡ slice_get xs (k + i)
  get-drop zero xs i = let none : 0 + i ≡ i = omega arith in sym (ap (slice_get xs) none)
  get-drop (suc k) [] i = refl
  get-drop (suc k) (x ∷ xs) i = let next : suc k + i ≡ suc (k + i) = omega arith in get-drop k xs i ∙ sym (ap (slice_get (x ∷ xs)) next)

  filter-none : (test : A → Bool) (xs : List A) → EachMember (λ (x : A). test x ≡ false) xs → filter test xs ≡ []
  filter-none test [] each = refl
  filter-none test (x ∷ xs) each = ap (λ (b : Bool). cond b (x ∷ filter test xs) (filter test xs)) (each 0 x refl) ∙ filter-none test xs (λ i y e. each (suc i) y e)

  filter-all : (test : A → Bool) (xs : List A) → EachMember (λ (x : A). test x ≡ true) xs → filter test xs ≡ xs
  filter-all test [] each = refl
  filter-all test (x ∷ xs) each = ap (λ (b : Bool). cond b (x ∷ filter test xs) (filter test xs)) (each 0 x refl) ∙ ap (λ (l : List A). x ∷ l) (filter-all test xs (λ i y e. each (suc i) y e))

module _ (n c : ℕ) (less : c < n) where
  abbrev rest : List ℕ
  rest = drop (suc c) (below n)

  -- the others are past it
  past : EachMember (λ (d : ℕ). d ≢ c) rest
  past i d e same =
      let at = sym (get-drop (suc c) (below n) i) ∙ e in
      let within : suc c + i < n = subst (λ (m : ℕ). suc c + i < m) (length-below n) (slice_get_within (below n) (suc c + i) d at) in
      let is : suc c + i ≡ d = same_Some (suc c + i) d (sym (below-at n (suc c + i) within) ∙ at) in
      omega (arith, is, same)

  front : map pair (drop c (below n)) ≡ pair c ∷ map pair rest
  front = ap (map pair) (drop-there (below n) c c (below-at n c less))

  is-next : suc c ≡ c + 1
  is-next = omega arith

  pub dealt-is : filter (λ (x : ℕ × View). x.0 == c) (map pair (drop c (below n))) ≡ pair c ∷ []
  dealt-is = ap (filter (λ (x : ℕ × View). x.0 == c)) front
      ∙ ap (λ (b : Bool). cond b (pair c ∷ filter (λ (x : ℕ × View). x.0 == c) (map pair rest)) (filter (λ (x : ℕ × View). x.0 == c) (map pair rest))) (same-number c c refl)
      ∙ ap (λ (l : List (ℕ × View)). pair c ∷ l) (filter-none (λ (x : ℕ × View). x.0 == c) (map pair rest) (each-map pair (λ (x : ℕ × View). (x.0 == c) ≡ false) rest (λ i d e. ne_eqb d c (past i d e))))

  pub kept-is : filter (λ (x : ℕ × View). not (x.0 == c)) (map pair (drop c (below n))) ≡ map pair (drop (c + 1) (below n))
  kept-is = ap (filter (λ (x : ℕ × View). not (x.0 == c))) front
      ∙ ap (λ (b : Bool). cond (not b) (pair c ∷ filter (λ (x : ℕ × View). not (x.0 == c)) (map pair rest)) (filter (λ (x : ℕ × View). not (x.0 == c)) (map pair rest))) (same-number c c refl)
      ∙ filter-all (λ (x : ℕ × View). not (x.0 == c)) (map pair rest) (each-map pair (λ (x : ℕ × View). not (x.0 == c) ≡ true) rest (λ i d e. ap not (ne_eqb d c (past i d e))))
      ∙ ap (λ (m : ℕ). map pair (drop m (below n))) is-next

-- what is still with the one seat
abbrev pub left_from : ℕ → ℕ → Known
left_from c n = record { mines = map pair (drop c (below n)); own = []; rights = []; whole = None }

module _ (n c : ℕ) (less : c < n) (pass own left : Me) (pass-is : pass ≡ (idling (left_from c n), [])) where
  pub own-is : own ≡ (idling (dealt c pass.0.known), []) → own ≡ (idling (record { mines = pair c ∷ []; own = []; rights = []; whole = None }), [])
  own-is is = is ∙ ap (λ (m : Me). (idling (dealt c m.0.known), [])) pass-is ∙ (λ i. (idling (record { mines = dealt-is n c less i; own = []; rights = []; whole = None }), []))

  pub left-is : left ≡ (forgetting (kept c pass.0.known) pass.0.caching, pass.1) → left ≡ (idling (left_from (c + 1) n), [])
  left-is is = is ∙ ap (λ (m : Me). (forgetting (kept c m.0.known) m.0.caching, m.1)) pass-is ∙ (λ i. (idling (record { mines = kept-is n c less i; own = []; rights = []; whole = None }), []))
