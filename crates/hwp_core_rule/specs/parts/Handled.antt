-- Handled frames.
use Rattle.std.specs.Prelude.{◌≡◌, ℕ, List, Some, slice_get}
use Rattle.hwp_words.specs.Frames.{owner_of, poison_of, handled_of}

-- poisoned, and no page's
pub record IsOutOfUse (word : ℕ) : Type 0 where
  pub poisoned : poison_of word ≡ 1
  pub unowned : owner_of word ≡ 0

-- A handled frame has POISON and no owner. Broken by: a frame handled that isn't poisoned; an owner given to a handled
-- frame.
pub record HandledIsPoisoned (frames : List ℕ) : Type 0 where
  pub out : (f w : ℕ) → slice_get frames f ≡ Some w → handled_of w ≡ 1 → IsOutOfUse w
