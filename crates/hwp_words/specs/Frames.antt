-- The frame word, and the lock bit of a page word.
use Rattle.std.specs.Prelude.{ℕ, Bool, ◌==◌, List, [], ◌∷◌}
use Rattle.std.specs.Int.{from_bool}
use Rattle.hwp_words.specs.declared.frame.FrameWord.{FrameWord}
use Rattle.hwp_words.specs.Fields.{Field, field, bit, packed}
use Rattle.hwp_words.specs.Names.{page_name, page_named}

abbrev pub lock_bit : Field
lock_bit = bit 0

abbrev pub poison_bit : Field
poison_bit = bit 1

abbrev pub handled_bit : Field
handled_bit = bit 2

abbrev pub kernel_bit : Field
kernel_bit = bit 3

abbrev pub count_field : Field
count_field = record { shift = 4; width = 20 }

abbrev pub owner_field : Field
owner_field = record { shift = 24; width = 20 }

abbrev pub cycle_field : Field
cycle_field = record { shift = 44; width = 20 }

abbrev pub frame_fields : List Field
frame_fields = lock_bit ∷ poison_bit ∷ handled_bit ∷ kernel_bit ∷ count_field ∷ owner_field ∷ cycle_field ∷ []

-- 1 where the frame, or the page, is locked, else 0
abbrev pub lock_of : ℕ → ℕ
lock_of w = field lock_bit w

-- 1 where the frame is poisoned, else 0
abbrev pub poison_of : ℕ → ℕ
poison_of w = field poison_bit w

-- 1 where the frame's failure has been handled, else 0
abbrev pub handled_of : ℕ → ℕ
handled_of w = field handled_bit w

-- 1 where the frame is the kernel's, else 0
abbrev pub kernel_of : ℕ → ℕ
kernel_of w = field kernel_bit w

-- the references to the frame
abbrev pub count_of : ℕ → ℕ
count_of w = field count_field w

-- the page in the frame plus 1, or 0
abbrev pub owner_of : ℕ → ℕ
owner_of w = field owner_field w

-- how often the frame's poison was cleared
abbrev pub cycle_of : ℕ → ℕ
cycle_of w = field cycle_field w

abbrev pub is_locked : ℕ → Bool
is_locked w = lock_of w == 1

abbrev pub is_poisoned : ℕ → Bool
is_poisoned w = poison_of w == 1

abbrev pub is_handled : ℕ → Bool
is_handled w = handled_of w == 1

abbrev pub is_kernel : ℕ → Bool
is_kernel w = kernel_of w == 1

-- the values of the fields, in their order
abbrev pub frame_values : FrameWord → List ℕ
frame_values x =
    from_bool x.locked ∷ from_bool x.poisoned ∷ from_bool x.handled ∷ from_bool x.kernel ∷ x.count ∷ page_name x.owner ∷ x.cycle ∷ []

abbrev pub frame_word : FrameWord → ℕ
frame_word x = packed frame_fields (frame_values x)

-- what a word says as a frame word
abbrev pub frame_reading : ℕ → FrameWord
frame_reading w = record {
  locked = is_locked w;
  poisoned = is_poisoned w;
  handled = is_handled w;
  kernel = is_kernel w;
  count = count_of w;
  owner = page_named (owner_of w);
  cycle = cycle_of w;
}
