-- Free frames.
use Rattle.std.specs.Prelude.{◌≡◌, ℕ, ◌+◌, ◌≤◌, List}
use Rattle.std.specs.List.{sum_by}
use Rattle.hwp_core_rule.specs.Words.{free_bit, sum_below}

-- The number of free bits is the available word plus the reservations in all views, and no bit stands for a frame that the
-- layout lacks. Broken by: a `reserve` that takes two; a bit taken without a reservation; `unreserve` of none.
pub record FreeBitsAgree (count : ℕ) (frees : List ℕ) (available : ℕ) (reserved : List ℕ) : Type 0 where
  pub number : sum_below (free_bit frees) count ≡ available + sum_by (λ (n : ℕ). n) reserved
  pub within : (f : ℕ) → count ≤ f → free_bit frees f ≡ 0
