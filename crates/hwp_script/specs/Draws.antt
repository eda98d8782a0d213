-- What is drawn from the generator.
use Rattle.std.specs.Prelude.{ℕ, ◌%◌}
use Rattle.rand_pcg.specs.Lcg.{Lcg}
use Rattle.rand_pcg.specs.Pcg.{pcg32}

-- the next word of 32 bits, and the generator after it
abbrev pub word : Lcg → ℕ
word g = (pcg32 g).0

abbrev pub after : Lcg → Lcg
after g = (pcg32 g).1

-- a number below a bound
abbrev pub drawn : ℕ → Lcg → ℕ
drawn bound g = word g % bound
