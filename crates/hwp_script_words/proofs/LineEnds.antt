-- Printing a line word by word.
use Rattle.std.proofs.Common.{◌≡◌, ℕ, List, [], ◌∷◌, ◌++◌, map, refl, sym, ap, ◌∙◌, append_assoc}
use Rattle.std.specs.List.{flat_map}
use Rattle.hwp_geom.specs.Words.{line}
use Rattle.hwp_script_words.specs.declared.printing.Word.{Word}
use Rattle.hwp_script_words.specs.Printed.{line_end, word_text}

-- a line is its first word and what stands behind it
line-first : (w : List ℕ) (ws : List (List ℕ)) → line (w ∷ ws) ≡ w ++ line_end ws
line-first w [] = refl
line-first w (v ∷ ws) = ap (λ t. w ++ 32 ∷ t) (line-first v ws)

-- words with a space before each, and a line feed
end-of : (ws : List Word) → flat_map (λ w. 32 ∷ word_text w) ws ++ 10 ∷ [] ≡ line_end (map word_text ws)
end-of [] = refl
end-of (w ∷ ws) =
    append_assoc (32 ∷ word_text w) (flat_map (λ v. 32 ∷ word_text v) ws) (10 ∷ []) ∙ ap (λ t. 32 ∷ (word_text w ++ t)) (end-of ws)

-- words with a space before each, and what stands behind them
words-end : (xs vs : List (List ℕ)) → flat_map (λ x. 32 ∷ x) xs ++ line_end vs ≡ line_end (xs ++ vs)
words-end [] vs = refl
words-end (x ∷ xs) vs = append_assoc (32 ∷ x) (flat_map (λ y. 32 ∷ y) xs) (line_end vs) ∙ ap (λ t. 32 ∷ (x ++ t)) (words-end xs vs)

-- after the words and a line feed stands the rest of the line
pub rest_put : (old put all : List ℕ) (ws : List Word) → put ≡ old ++ flat_map (λ w. 32 ∷ word_text w) ws → all ≡ put ++ 10 ∷ []
    → all ≡ old ++ line_end (map word_text ws)
rest_put old put all ws p a =
    a ∙ ap (λ t. t ++ 10 ∷ []) p ∙ append_assoc old (flat_map (λ w. 32 ∷ word_text w) ws) (10 ∷ []) ∙ ap (λ t. old ++ t) (end-of ws)

-- after the first word and what stands behind it stands the line
pub line_put : (old put all w : List ℕ) (vs ws : List (List ℕ)) → ws ≡ vs → put ≡ old ++ w → all ≡ put ++ line_end ws → all ≡ old ++ line (w ∷ vs)
line_put old put all w vs ws e p a =
    a
    ∙ ap (λ t. put ++ line_end t) e
    ∙ ap (λ t. t ++ line_end vs) p
    ∙ append_assoc old w (line_end vs)
    ∙ ap (λ t. old ++ t) (sym (line-first w vs))

-- and so after the first word, some more, and what stands behind them
pub front_put : (xs : List (List ℕ)) (old put front all w : List ℕ) (vs ws : List (List ℕ))
    → ws ≡ vs → put ≡ old ++ w → front ≡ put ++ flat_map (λ x. 32 ∷ x) xs → all ≡ front ++ line_end ws → all ≡ old ++ line (w ∷ (xs ++ vs))
front_put xs old put front all w vs ws e p f a =
    line_put old put all w (xs ++ vs) _ refl p
    (a
    ∙ ap (λ t. front ++ line_end t) e
    ∙ ap (λ t. t ++ line_end vs) f
    ∙ append_assoc put (flat_map (λ x. 32 ∷ x) xs) (line_end vs)
    ∙ ap (λ t. put ++ t) (words-end xs vs))
