-- Words with a space behind each, and the line that they begin.
use Rattle.std.proofs.Common.{◌≡◌, ℕ, Bool, false, cond, List, [], ◌∷◌, ◌++◌, refl, sym, ap, ◌∙◌, append_assoc}
use Rattle.hwp_core_rule.specs.hwp_geom.Words.{line}
use Rattle.hwp_plain.specs.TraceText.{spaced}

pub spaced-append : (xs ys : List (List ℕ)) → spaced (xs ++ ys) ≡ spaced xs ++ spaced ys
spaced-append [] ys = refl
spaced-append (x ∷ xs) ys = ap (λ t. x ++ 32 ∷ t) (spaced-append xs ys) ∙ sym (append_assoc x (32 ∷ spaced xs) (spaced ys))

-- the line goes on behind its first words
pub line-after : (xs : List (List ℕ)) (y : List ℕ) (ys : List (List ℕ)) → line (xs ++ y ∷ ys) ≡ spaced xs ++ line (y ∷ ys)
line-after [] y ys = refl
line-after (x ∷ []) y ys = sym (append_assoc x (32 ∷ []) (line (y ∷ ys)))
line-after (x ∷ w ∷ xs) y ys = ap (λ t. x ++ 32 ∷ t) (line-after (w ∷ xs) y ys) ∙ sym (append_assoc x (32 ∷ spaced (w ∷ xs)) (line (y ∷ ys)))

-- a line in five parts, of which the third is a word, and the last begins with it
pub line-whole : (head place change : List (List ℕ)) (c : List ℕ) (end : List (List ℕ))
    → line (head ++ (place ++ c ∷ (change ++ c ∷ end))) ≡ spaced head ++ (spaced place ++ (spaced (c ∷ []) ++ (spaced change ++ line (c ∷ end))))
line-whole head place change c end =
    ap line (whole)
    ∙ line-after (head ++ (place ++ c ∷ change)) c end
    ∙ ap (λ t. t ++ line (c ∷ end)) (spaced-append head (place ++ c ∷ change) ∙ ap (λ t. spaced head ++ t) (spaced-append place (c ∷ change) ∙ ap (λ t. spaced place ++ t) (spaced-append (c ∷ []) change)))
    ∙ (simp append_assoc)
  where
    whole : head ++ (place ++ c ∷ (change ++ c ∷ end)) ≡ (head ++ (place ++ c ∷ change)) ++ c ∷ end
    whole = simp append_assoc

-- the bytes of a line that is put in five parts
pub put-whole : (old a b c d new : List ℕ) (head place change : List (List ℕ)) (colon : List ℕ) (end : List (List ℕ))
    → a ≡ old ++ spaced head → b ≡ a ++ spaced place → c ≡ b ++ spaced (colon ∷ []) → d ≡ c ++ spaced change → new ≡ d ++ line (colon ∷ end)
    → new ≡ old ++ line (head ++ (place ++ colon ∷ (change ++ colon ∷ end)))
put-whole old a b c d new head place change colon end is-a is-b is-c is-d is =
    is
    ∙ ap (λ t. t ++ line (colon ∷ end)) (is-d ∙ ap (λ t. t ++ spaced change) (is-c ∙ ap (λ t. t ++ spaced (colon ∷ [])) (is-b ∙ ap (λ t. t ++ spaced place) is-a)))
    ∙ (simp append_assoc)
    ∙ ap (λ t. old ++ t) (sym (line-whole head place change colon end))

-- the bytes of a value that changed
pub put-changed : (old a b new : List ℕ) (was now : List (List ℕ)) (arrow : List ℕ) (same : Bool) → same ≡ false
    → a ≡ old ++ spaced was → b ≡ a ++ spaced (arrow ∷ []) → new ≡ b ++ spaced now → new ≡ old ++ spaced (was ++ cond same [] (arrow ∷ now))
put-changed old a b new was now arrow same differs is-a is-b is =
    is
    ∙ ap (λ t. t ++ spaced now) (is-b ∙ ap (λ t. t ++ spaced (arrow ∷ [])) is-a)
    ∙ (simp append_assoc)
    ∙ ap (λ t. old ++ t) (sym (ap (λ (t : Bool). spaced (was ++ cond t [] (arrow ∷ now))) differs ∙ spaced-append was (arrow ∷ now)))
