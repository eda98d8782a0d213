-- Two lists, member by member, as they grow.
use Rattle.std.proofs.Common.{ℕ, ◌≡◌, ◌<◌, ◌+◌, ◌++◌, List, [], ◌∷◌, length, get_or, take, map, Bor, zero, suc, refl, ap, subst, ◌∙◌, arith}
use Rattle.std.specs.Prelude.{All}
use Rattle.std.proofs.lemmas.List.Elements.{All-get_or}
use Rattle.std.proofs.lemmas.List.{length-map, take_more, get_or-map}
use Rattle.hwp_geom.specs.Pairs.{Pairs}

pub Pairs-push : {A B : Type 0} (R : A → B → Type 0) (xs : List A) (ys : List B) (x : A) (y : B) → Pairs R xs ys → R x y
    → Pairs R (xs ++ x ∷ []) (ys ++ y ∷ [])
Pairs-push R [] [] x y h r = (r, tt)
Pairs-push R [] (z ∷ zs) x y h r = absurd h
Pairs-push R (w ∷ ws) [] x y h r = absurd h
Pairs-push R (w ∷ ws) (z ∷ zs) x y h r = (h.0, Pairs-push R ws zs x y h.1 r)

pub Pairs-some : {A B : Type 0} (R : A → B → Type 0) (xs : List A) (ys : List B) → Pairs R xs ys → 0 < length xs → 0 < length ys
Pairs-some R [] ys h l = absurd (omega arith)
Pairs-some R (x ∷ xs) [] h l = absurd h
Pairs-some R (x ∷ xs) (y ∷ ys) h l = omega arith

-- a member has its partner
pub Pairs-partner : {A B : Type 0} (R : A → B → Type 0) (xs : List A) (ys : List B) (i : ℕ) (d : A) → Pairs R xs ys → i < length xs
    → (y : B) × R (get_or xs i d) y
Pairs-partner R [] ys i d h l = absurd (omega arith)
Pairs-partner R (x ∷ xs) [] i d h l = absurd h
Pairs-partner R (x ∷ xs) (y ∷ ys) zero d h l = (y, h.0)
Pairs-partner R (x ∷ xs) (y ∷ ys) (suc i) d h l = Pairs-partner R xs ys i d h.1 (omega arith)

-- a member that stands with one thing only
pub Pairs-unique : {A B : Type 0} (R : A → B → Type 0) → ((x : A) (y z : B) → R x y → R x z → y ≡ z) → (xs : List A) (ys zs : List B)
    → Pairs R xs ys → Pairs R xs zs → ys ≡ zs
Pairs-unique R one [] [] [] h k = refl
Pairs-unique R one [] [] (z ∷ zs) h k = absurd k
Pairs-unique R one [] (y ∷ ys) zs h k = absurd h
Pairs-unique R one (x ∷ xs) [] zs h k = absurd h
Pairs-unique R one (x ∷ xs) (y ∷ ys) [] h k = absurd k
Pairs-unique R one (x ∷ xs) (y ∷ ys) (z ∷ zs) h k =
    let here = one x y z h.0 k.0 in
    let rest = Pairs-unique R one xs ys zs h.1 k.1 in cc

-- the first members of what stands behind references
pub take-now : {A : Type 0} (words : List (Bor A)) (i : ℕ) (d : Bor A) → i < length words
    → take (i + 1) (map (λ w. w.now) words) ≡ take i (map (λ w. w.now) words) ++ (get_or words i d).now ∷ []
take-now words i d l =
    take_more (map (λ w. w.now) words) i d.now (rw length-map l) ∙ ap (λ x. take i (map (λ w. w.now) words) ++ x ∷ []) (get_or-map (λ w. w.now) words i d d.now l)

-- what holds of all that stands behind references holds of each
pub All-now : {A : Type 0} (P : A → Type 0) (words : List (Bor A)) (i : ℕ) (d : Bor A) → i < length words → All P (map (λ w. w.now) words)
    → P (get_or words i d).now
All-now P words i d l all = subst P (get_or-map (λ w. w.now) words i d d.now l) (All-get_or P (map (λ w. w.now) words) i d.now (rw length-map l) all)

-- words that are so many, one by one
pub one-of : (words : List (Bor (List ℕ))) (d : Bor (List ℕ)) → length words ≡ 1 → map (λ w. w.now) words ≡ (get_or words 0 d).now ∷ []
one-of [] d l = absurd (omega (arith, l))
one-of (a ∷ []) d l = refl
one-of (a ∷ b ∷ us) d l = absurd (omega (arith, l))

pub two-of : (words : List (Bor (List ℕ))) (d : Bor (List ℕ)) → length words ≡ 2 → map (λ w. w.now) words ≡ (get_or words 0 d).now ∷ (get_or words 1 d).now ∷ []
two-of [] d l = absurd (omega (arith, l))
two-of (a ∷ us) d l = ap (λ ws. a.now ∷ ws) (one-of us d (omega (arith, l)))

three-of : (words : List (Bor (List ℕ))) (d : Bor (List ℕ)) → length words ≡ 3 → map (λ w. w.now) words ≡ (get_or words 0 d).now ∷ (get_or words 1 d).now ∷ (get_or words 2 d).now ∷ []
three-of [] d l = absurd (omega (arith, l))
three-of (a ∷ us) d l = ap (λ ws. a.now ∷ ws) (two-of us d (omega (arith, l)))

pub four-of : (words : List (Bor (List ℕ))) (d : Bor (List ℕ)) → length words ≡ 4
    → map (λ w. w.now) words ≡ (get_or words 0 d).now ∷ (get_or words 1 d).now ∷ (get_or words 2 d).now ∷ (get_or words 3 d).now ∷ []
four-of [] d l = absurd (omega (arith, l))
four-of (a ∷ us) d l = ap (λ ws. a.now ∷ ws) (three-of us d (omega (arith, l)))

pub five-of : (words : List (Bor (List ℕ))) (d : Bor (List ℕ)) → length words ≡ 5
    → map (λ w. w.now) words ≡ (get_or words 0 d).now ∷ (get_or words 1 d).now ∷ (get_or words 2 d).now ∷ (get_or words 3 d).now ∷ (get_or words 4 d).now ∷ []
five-of [] d l = absurd (omega (arith, l))
five-of (a ∷ us) d l = ap (λ ws. a.now ∷ ws) (four-of us d (omega (arith, l)))

-- what stands behind the reference at a place
pub now-at : (words : List (Bor (List ℕ))) (i : ℕ) (d : Bor (List ℕ)) → i < length words → get_or (map (λ w. w.now) words) i [] ≡ (get_or words i d).now
now-at words i d l = get_or-map (λ w. w.now) words i d [] l
