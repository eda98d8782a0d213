-- What a number below a bound chooses.
use Rattle.std.proofs.Common.{◌≡◌, ℕ, ◌<◌, ◌≤◌, Bool, nat_lt, if◌then◌else◌, sym, ap}
use Rattle.std.proofs.lemmas.Bool.{lt-ltb, le-ltb}

pub below-first : {A : Type 0} (k n : ℕ) (a b : A) → k < n → a ≡ (if nat_lt k n then a else b)
below-first k n a b less = sym (ap (λ (t : Bool). if t then a else b) (lt-ltb k n less))

pub not-below : {A : Type 0} (k n : ℕ) (a b : A) → n ≤ k → b ≡ (if nat_lt k n then a else b)
not-below k n a b least = sym (ap (λ (t : Bool). if t then a else b) (le-ltb k n least))
