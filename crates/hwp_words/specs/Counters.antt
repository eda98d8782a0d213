-- The counter word: two counts in one word, of which the low one may be negative for a while.
use Rattle.std.specs.Prelude.{ℕ, ℤ, ◌+◌, ◌*◌, ◌/◌, ◌%◌, ◌^◌}
use Rattle.std.specs.Int.{cast_signed, cast_unsigned, w32, w64}
use Rattle.hwp_words.specs.declared.counter.CounterWord.{CounterWord}

-- `hardware * 2 ^ 32 + poisoned`, modulo 2 ^ 64
abbrev pub counter_word : CounterWord → ℕ
counter_word x = (x.hardware * 2 ^ 32 + cast_unsigned w64 x.poisoned) % 2 ^ 64

-- the failures that a bank reported
abbrev pub hardware_of : ℕ → ℕ
hardware_of w = (w + 2 ^ 31) / 2 ^ 32 % 2 ^ 32

-- the frames that are counted as poisoned, from -2 ^ 31 to 2 ^ 31 - 1
abbrev pub poisoned_of : ℕ → ℤ
poisoned_of w = cast_signed w32 (w % 2 ^ 32)

-- the same plus 2 ^ 31, which is never negative
abbrev pub biased_poisoned_of : ℕ → ℕ
biased_poisoned_of w = (w + 2 ^ 31) % 2 ^ 32

-- what a word says as a counter word
abbrev pub counter_reading : ℕ → CounterWord
counter_reading w = record { hardware = hardware_of w; poisoned = poisoned_of w }
