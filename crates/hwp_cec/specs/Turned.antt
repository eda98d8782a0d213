-- A ring, read from one of its places on.
use Rattle.std.specs.Prelude.{ℕ, List, ◌++◌, take, drop}

-- the members from place n on, and behind them those before it
abbrev pub turned : ℕ → List ℕ → List ℕ
turned n xs = drop n xs ++ take n xs
