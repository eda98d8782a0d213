-- The limits of a collector. This project's rule.
use Rattle.std.specs.Prelude.{ℕ}

-- the highest threshold
abbrev pub threshold_limit : ℕ
threshold_limit = 1000

-- the most rounds of a window
abbrev pub window_limit : ℕ
window_limit = 64
