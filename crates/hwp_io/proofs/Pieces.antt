-- A piece of a list that a call takes from its front.
use Rattle.std.proofs.Common.{◌≡◌, ℕ, ◌+◌, ◌-◌, ◌≤◌, List, ◌++◌, length, take, drop, arith, sym, ap, ◌∙◌, append_assoc, take-append-drop}
use Rattle.std.proofs.Math.Seq.{take-append_seam}
use Rattle.std.proofs.lemmas.List.{take_rest, drop-drop, length-append, length-take, length-take-le, length-drop}
use Rattle.std.proofs.lemmas.Slice.{drop-append-drop}

-- the next piece joins those before it
pub next_piece : (all done rest : List ℕ) (n : ℕ) → all ≡ done ++ rest → all ≡ (done ++ take n rest) ++ take (length rest - n) (drop n rest)
next_piece all done rest n split =
    split ∙ ap (λ l. done ++ l) (sym (take-append-drop n rest)) ∙ sym (append_assoc done (take n rest) (drop n rest)) ∙ ap (λ l. (done ++ take n rest) ++ l) (sym (take_rest rest n))

-- a buffer of which the first n bytes are a copy of the first n of xs begins with these
pub copied_front : (xs buf copy : List ℕ) (n : ℕ) → n ≤ length xs → copy ≡ take n xs → take n (copy ++ drop n buf) ≡ take n xs
copied_front xs buf copy n fits is =
    let same : length copy ≡ n = ap length is ∙ length-take n xs ∙ omega arith in
    ap (λ k. take k (copy ++ drop n buf)) (sym same) ∙ take-append_seam copy (drop n buf) ∙ is

-- what is left from a place on is the piece that was copied from there, and what is left after it
pub piece_of_left : (all buf copy : List ℕ) (at n : ℕ) → n ≤ length all - at → copy ≡ take n (take (length all - at) (drop at all))
    → drop at all ≡ take n (copy ++ drop n buf) ++ drop (at + n) all
piece_of_left all buf copy at n fits is =
    let left = drop at all in
    let from : copy ≡ take n left = is ∙ ap (take n) (take_rest all at) in
    let room : n ≤ length left = omega (arith, length-drop at all) in
    sym (take-append-drop n left) ∙ ap (λ l. l ++ drop n left) (sym (copied_front left buf copy n room from)) ∙ ap (λ l. take n (copy ++ drop n buf) ++ l) (drop-drop n at all)

-- a buffer whose first n bytes were overwritten
pub long-copied : (buf copy : List ℕ) (n : ℕ) → n ≤ length buf → length copy ≡ length (take n buf) → length (copy ++ drop n buf) ≡ length buf
long-copied buf copy n fits same = omega (arith, same, length-take n buf, length-drop n buf, length-append copy (drop n buf))

pub taken-copied : (buf copy : List ℕ) (n : ℕ) → n ≤ length buf → length copy ≡ length (take n buf) → n ≡ length (take n (copy ++ drop n buf))
taken-copied buf copy n fits same = sym (length-take-le n (copy ++ drop n buf) (omega (arith, long-copied buf copy n fits same)))

pub rest-copied : (buf copy : List ℕ) (n : ℕ) → n ≤ length buf → length copy ≡ length (take n buf) → drop n (copy ++ drop n buf) ≡ drop n buf
rest-copied buf copy n fits same = drop-append-drop n buf copy n (omega arith) (same ∙ length-take-le n buf fits)
