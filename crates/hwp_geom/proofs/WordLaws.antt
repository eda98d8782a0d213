-- What the bytes of a word are not.
use Rattle.std.proofs.Common.{◌≢◌, ℕ, ◌<◌, ◌≤◌, List, [], ◌∷◌, length, arith}
use Rattle.std.specs.Prelude.{All}
use Rattle.std.specs.Char.{digit_value}
use Rattle.std.specs.Str.Parse.{AllDigits}
use Rattle.std.proofs.lemmas.List.Elements.{All-nil, All-cons}
use Rattle.std.proofs.lemmas.Bool.Decides.{nat_tests}

-- a digit is neither a space nor a line feed
pub digit_differs : (base d b : ℕ) → base ≤ 36 → d < 48 → digit_value b < base → b ≢ d
digit_differs base d b high low h = grind (arith, nat_tests)

pub digits_differ : (base d : ℕ) → base ≤ 36 → d < 48 → (ds : List ℕ) → AllDigits base ds → All (λ b. b ≢ d) ds
digits_differ base d high low [] h = All-nil (λ b. b ≢ d)
digits_differ base d high low (b ∷ ds) h =
    All-cons (λ b. b ≢ d) b ds (digit_differs base d b high low h.0) (digits_differ base d high low ds h.1)

pub not_nil : {A : Type 0} (xs : List A) → 0 < length xs → xs ≢ []
not_nil [] h = absurd (omega arith)
not_nil (x ∷ xs) h = λ e. cc
