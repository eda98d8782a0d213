-- A line of a frame among some, a bit each.
use Rattle.std.specs.Prelude.{ℕ, ◌/◌, ◌^◌, ◌==◌, Bool, bit_and}

abbrev pub has_line : ℕ → ℕ → Bool
has_line mask line = bit_and (mask / 2 ^ line) 1 == 1
