-- Clean lines, one more at a time.
use Rattle.std.proofs.Common.{ℕ, ◌≡◌, ◌<◌, ◌≤◌, ◌++◌, List, [], ◌∷◌, length, Some, zero, suc, ◌∙◌, sym, refl, arith, ⊎_elim}
use Rattle.std.specs.Prelude.{slice_get}
use Rattle.std.proofs.lemmas.List.{take-append-le, take_at, length_push}
use Rattle.std.proofs.lemmas.Option.{slice_get_within, same_Some}
use Rattle.std.proofs.lemmas.Bool.{cases_lt}
use Rattle.hwp_script_read.specs.Reasons.{IsClean, AreClean}
use Rattle.hwp_script_lines.specs.declared.ScriptLine.{ScriptLine}

pub slice_get-append_left : {A : Type 0} (xs ys : List A) (n : ℕ) → n < length xs → slice_get (xs ++ ys) n ≡ slice_get xs n
slice_get-append_left [] ys n h = absurd (omega arith)
slice_get-append_left (x ∷ xs) ys zero h = refl
slice_get-append_left (x ∷ xs) ys (suc n) h = slice_get-append_left xs ys n (omega arith)

pub slice_get-append_at : {A : Type 0} (xs : List A) (y : A) → slice_get (xs ++ y ∷ []) (length xs) ≡ Some y
slice_get-append_at [] y = refl
slice_get-append_at (x ∷ xs) y = slice_get-append_at xs y

pub AreClean-none : AreClean []
AreClean-none = record { each = λ n f e. absurd (grind arith) }

pub AreClean-push : (xs : List ScriptLine) (f : ScriptLine) → AreClean xs → IsClean xs f → AreClean (xs ++ f ∷ [])
AreClean-push xs f h k = record {
  each = λ n g e. ⊎_elim
      (λ (l : n < length xs). rw (take-append-le n xs (f ∷ []) (omega arith)) (h.each n g (sym (slice_get-append_left xs (f ∷ []) n l) ∙ e)))
      (λ (l : length xs ≤ n).
      let within : n < length (xs ++ f ∷ []) = slice_get_within (xs ++ f ∷ []) n g e in
      let at : n ≡ length xs = omega (arith, length_push xs f) in
      let same : f ≡ g = same_Some f g (sym (slice_get-append_at xs f) ∙ rw at at e) in
      rw (at, take_at xs (f ∷ []) (length xs) refl, ← same) k)
      (cases_lt n (length xs));
}
