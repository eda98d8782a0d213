-- How many entries a seat has cleared of a frame, as its list changes.
use Rattle.std.proofs.Common.{◌≡◌, ◌≢◌, ℕ, zero, suc, ◌+◌, ◌≤◌, ◌==◌, Bool, true, false, not, cond, max, List, [], ◌∷◌, refl, sym, ap, ◌∙◌, subst, arith, ne_eqb}
use Rattle.std.proofs.lemmas.Bool.{eqb-true}
use Rattle.std.proofs.lemmas.Option.{none-some, same_Some}
use Rattle.hwp_core_rule.specs.Lists.{EachMember}
use Rattle.hwp_core_rule.proofs.Lists.{not-both, same-number}
use Rattle.hwp_table_words.specs.tlb.Caching.{Caching, Cleared, idle_caching, joined_caching, upto_of, with_upto, without_frame}

-- raised for its frame
pub upto-raised : (f n : ℕ) (list : List Cleared) → upto_of f (with_upto f n list) ≡ max (upto_of f list) n
upto-raised f n [] = ap (λ (b : Bool). cond b n 0) (same-number f f refl) ∙ zero-max
  where
    zero-max : n ≡ max 0 n
    zero-max = omega arith
upto-raised f n (c ∷ cs) = which (c.frame == f) refl (upto-raised f n cs)
  where
    which : (b : Bool) → (c.frame == f) ≡ b → upto_of f (with_upto f n cs) ≡ max (upto_of f cs) n
        → upto_of f (cond b ((record c { upto = max c.upto n }) ∷ cs) (c ∷ with_upto f n cs)) ≡ max (cond b c.upto (upto_of f cs)) n
    which true is rest = ap (λ (b : Bool). cond b (max c.upto n) (upto_of f cs)) is
    which false isnt rest = ap (λ (b : Bool). cond b c.upto (upto_of f (with_upto f n cs))) isnt ∙ rest

-- nor is it lowered for any
pub upto-grows : (f g n : ℕ) (list : List Cleared) → upto_of g list ≤ upto_of g (with_upto f n list)
upto-grows f g n [] = omega arith
upto-grows f g n (c ∷ cs) = which (c.frame == f) (upto-grows f g n cs)
  where
    which : (b : Bool) → upto_of g cs ≤ upto_of g (with_upto f n cs) → cond (c.frame == g) c.upto (upto_of g cs) ≤ upto_of g (cond b ((record c { upto = max c.upto n }) ∷ cs) (c ∷ with_upto f n cs))
    which true rest = here (c.frame == g)
      where
        here : (b : Bool) → cond b c.upto (upto_of g cs) ≤ cond b (max c.upto n) (upto_of g cs)
        here true = omega arith
        here false = omega arith
    which false rest = here (c.frame == g)
      where
        here : (b : Bool) → cond b c.upto (upto_of g cs) ≤ cond b c.upto (upto_of g (with_upto f n cs))
        here true = omega arith
        here false = rest

-- what is forgotten of a frame is of that frame alone
pub upto-gone : (f g : ℕ) (list : List Cleared) → g ≢ f → upto_of g (without_frame f list) ≡ upto_of g list
upto-gone f g [] other = refl
upto-gone f g (c ∷ cs) other = which (c.frame == f) refl (upto-gone f g cs other)
  where
    which : (b : Bool) → (c.frame == f) ≡ b → upto_of g (without_frame f cs) ≡ upto_of g cs → upto_of g (cond (not b) (c ∷ without_frame f cs) (without_frame f cs)) ≡ cond (c.frame == g) c.upto (upto_of g cs)
    which true is rest = rest ∙ sym (ap (λ (b : Bool). cond b c.upto (upto_of g cs)) (ne_eqb c.frame g (λ e. other (sym e ∙ eqb-true c.frame f is))))
    which false isnt rest = ap (λ (m : ℕ). cond (c.frame == g) c.upto m) rest

-- what is so of each frame listed, and of each where nothing is cleared, is so of all
pub upto-listed : (P : Cleared → Type 0) (f : ℕ) (list : List Cleared) → P (record { frame = f; upto = 0 }) → EachMember P list → P (record { frame = f; upto = upto_of f list })
upto-listed P f [] none each = none
upto-listed P f (c ∷ cs) none each = which (c.frame == f) refl (upto-listed P f cs none (λ i x e. each (suc i) x e))
  where
    which : (b : Bool) → (c.frame == f) ≡ b → P (record { frame = f; upto = upto_of f cs }) → P (record { frame = f; upto = cond b c.upto (upto_of f cs) })
    which true is rest = subst (λ (n : ℕ). P (record { frame = n; upto = c.upto })) (eqb-true c.frame f is) (each 0 c refl)
    which false isnt rest = rest

pub each-cons : (P : Cleared → Type 0) (x : Cleared) (xs : List Cleared) → P x → EachMember P xs → EachMember P (x ∷ xs)
each-cons P x xs p each zero y e = subst P (same_Some x y e) p
each-cons P x xs p each (suc i) y e = each i y e

-- each member of a raised list was there, or is the frame's
pub each-upto : (P : Cleared → Type 0) (f n : ℕ) (list : List Cleared) → P (record { frame = f; upto = n }) → ((c : Cleared) → c.frame ≡ f → P c → P (record c { upto = max c.upto n })) → EachMember P list → EachMember P (with_upto f n list)
each-upto P f n [] here raised each = each-cons P (record { frame = f; upto = n }) [] here each
each-upto P f n (c ∷ cs) here raised each = which (c.frame == f) refl (each-upto P f n cs here raised (λ i x e. each (suc i) x e))
  where
    which : (b : Bool) → (c.frame == f) ≡ b → EachMember P (with_upto f n cs) → EachMember P (cond b ((record c { upto = max c.upto n }) ∷ cs) (c ∷ with_upto f n cs))
    which true is rest = each-cons P (record c { upto = max c.upto n }) cs (raised c (eqb-true c.frame f is) (each 0 c refl)) (λ i x e. each (suc i) x e)
    which false isnt rest = each-cons P c (with_upto f n cs) (each 0 c refl) rest

-- each member of a list without a frame was there, and is of another frame
pub each-gone : (P : Cleared → Type 0) (f : ℕ) (list : List Cleared) → EachMember P list → EachMember (λ (c : Cleared). (c.frame ≢ f) × P c) (without_frame f list)
each-gone P f [] each = λ i x e. absurd (none-some x e)
each-gone P f (c ∷ cs) each = which (c.frame == f) refl (each-gone P f cs (λ i x e. each (suc i) x e))
  where
    Q : Cleared → Type 0
    Q d = (d.frame ≢ f) × P d

    which : (b : Bool) → (c.frame == f) ≡ b → EachMember Q (without_frame f cs) → EachMember Q (cond (not b) (c ∷ without_frame f cs) (without_frame f cs))
    which true is rest = rest
    which false isnt rest = each-cons Q c (without_frame f cs) ((λ e. not-both (c.frame == f) (same-number c.frame f e) isnt), each 0 c refl) rest

-- a seat that takes in one that counted nothing is as it was
pub joined-idle : (k : Caching) → joined_caching k idle_caching ≡ k
joined-idle k = λ i. record k { counts = record { hits = zero-more k.counts.hits i; fills = zero-more k.counts.fills i; flushes = zero-more k.counts.flushes i } }
  where
    zero-more : (n : ℕ) → n + 0 ≡ n
    zero-more n = omega arith
