-- The limits of a set of translations and of a list of signals. The constants of the code are proved to be these.
use Rattle.std.specs.Prelude.{ℕ, ◌/◌}
use Rattle.hwp_geom.specs.Limits.{translation_limit}

-- a set holds translations below this number, as many as a layout can declare
abbrev pub slot_limit : ℕ
slot_limit = translation_limit

-- the machine words of a set, 64 translations in each
abbrev pub word_limit : ℕ
word_limit = slot_limit / 64

-- the most signals of a memory failure: one for each process
abbrev pub signal_limit : ℕ
signal_limit = 16
