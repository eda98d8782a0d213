-- How often each key was counted. A key is a processor, the number of one of its commands, and a number that says what of the
-- command is counted.
use Rattle.std.specs.Prelude.{ℕ, ◌==◌, ◌&&◌, Bool, cond, unwrap_or}
use Rattle.std.specs.HashMap.{HashMap}
use Rattle.std.specs.HashMap as hash

-- a command is named by its processor and its number
abbrev pub is_pair : ℕ × ℕ → ℕ × ℕ → Bool
is_pair x y = (x.0 == y.0) && (x.1 == y.1)

abbrev pub is_key : (ℕ × ℕ) × ℕ → (ℕ × ℕ) × ℕ → Bool
is_key x y = ((x.0.0 == y.0.0) && (x.0.1 == y.0.1)) && (x.1 == y.1)

abbrev pub at_key : {S : Type 0} → HashMap ((ℕ × ℕ) × ℕ) ℕ S → (ℕ × ℕ) × ℕ → ℕ
at_key m q = unwrap_or (hash.get is_key m q) 0

-- how much the count of the second key rises where the first is counted
abbrev pub raise : (ℕ × ℕ) × ℕ → (ℕ × ℕ) × ℕ → ℕ
raise key q = cond (is_key key q) 1 0
