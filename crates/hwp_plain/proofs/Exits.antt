-- What is said of a result at an exit with an error.
use Rattle.std.proofs.Common.{Result, Ok, Err, IfErr, IfOk, IsErr, sym}
use Rattle.std.proofs.lemmas.Bool.{true≢false}

-- nothing of a value
pub no-value : {A E : Type 0} (r : Result A E) (P : A → Type 0) → IsErr r → IfOk r P
no-value (Ok x) P err = absurd (true≢false (sym err))
no-value (Err e) P err = tt

-- what holds at it of any error
pub an-error : {A E : Type 0} (r : Result A E) (P : Type 0) → P → IfErr r (λ _. P)
an-error (Ok x) P is = tt
an-error (Err e) P is = is
