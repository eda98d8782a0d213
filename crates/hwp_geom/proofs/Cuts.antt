-- A line that was put together from words is cut back to them.
use Rattle.std.proofs.Common.{◌≡◌, ◌≢◌, ℕ, ◌==◌, false, List, [], ◌∷◌, ◌++◌, refl, sym, ap, ◌∙◌, append_assoc, arith}
use Rattle.std.specs.Prelude.{All}
use Rattle.std.proofs.lemmas.List.Splits.{slice_split_none, slice_split_at}
use Rattle.std.proofs.lemmas.List.Elements.{All-nil, All-cons, All-head, All-tail, All-append, All-weaker}
use Rattle.std.proofs.lemmas.Bool.Decides.{nat_tests}
use Rattle.hwp_geom.specs.Words.{IsWord, IsLine, line, pieces, cut}

-- the bytes of a line without its line feed
abbrev pub joined : List (List ℕ) → List ℕ
joined [] = []
joined (w ∷ []) = w
joined (w ∷ v ∷ ws) = w ++ 32 ∷ joined (v ∷ ws)

-- a byte that differs from c fails the test for c
pub differs : (c b : ℕ) → b ≢ c → (b == c) ≡ false
differs c b h = grind (arith, nat_tests)

pub none_is : (c : ℕ) (bytes : List ℕ) → All (λ b. b ≢ c) bytes → All (λ b. (b == c) ≡ false) bytes
none_is c bytes h = All-weaker (λ b. b ≢ c) (λ b. (b == c) ≡ false) (differs c) bytes h

pub line-joined : (ws : List (List ℕ)) → line ws ≡ joined ws ++ 10 ∷ []
line-joined [] = refl
line-joined (w ∷ []) = refl
line-joined (w ∷ v ∷ ws) = ap (λ t. w ++ 32 ∷ t) (line-joined (v ∷ ws)) ∙ sym (append_assoc w (32 ∷ joined (v ∷ ws)) (10 ∷ []))

pub no_feed-joined : (ws : List (List ℕ)) → All IsWord ws → All (λ b. b ≢ 10) (joined ws)
no_feed-joined [] h = All-nil (λ b. b ≢ 10)
no_feed-joined (w ∷ []) h = (All-head IsWord w [] h).no_feed
no_feed-joined (w ∷ v ∷ ws) h =
    All-append (λ b. b ≢ 10) w (32 ∷ joined (v ∷ ws)) (All-head IsWord w (v ∷ ws) h).no_feed
    (All-cons (λ b. b ≢ 10) 32 (joined (v ∷ ws)) (omega arith) (no_feed-joined (v ∷ ws) (All-tail IsWord w (v ∷ ws) h)))

-- a line's bytes, cut at the spaces, are its words
pub cut-joined : (w : List ℕ) (ws : List (List ℕ)) → All IsWord (w ∷ ws) → cut (joined (w ∷ ws)) ≡ w ∷ ws
cut-joined w [] h = slice_split_none (λ b. b == 32) w (none_is 32 w (All-head IsWord w [] h).no_space)
cut-joined w (v ∷ ws) h =
    slice_split_at (λ b. b == 32) w 32 (joined (v ∷ ws)) (none_is 32 w (All-head IsWord w (v ∷ ws) h).no_space) refl
    ∙ ap (λ t. w ∷ t) (cut-joined v ws (All-tail IsWord w (v ∷ ws) h))

pub cut-joined_line : (ws : List (List ℕ)) → IsLine ws → cut (joined ws) ≡ ws
cut-joined_line [] h = absurd (h.some refl)
cut-joined_line (w ∷ ws) h = cut-joined w ws h.each

-- a line in front of a text is the text's first piece
pub pieces-line : (ws : List (List ℕ)) (rest : List ℕ) → IsLine ws → pieces (line ws ++ rest) ≡ joined ws ∷ pieces rest
pieces-line ws rest h =
    ap (λ t. pieces (t ++ rest)) (line-joined ws)
    ∙ ap pieces (append_assoc (joined ws) (10 ∷ []) rest)
    ∙ slice_split_at (λ b. b == 10) (joined ws) 10 rest (none_is 10 (joined ws) (no_feed-joined ws h.each)) refl
