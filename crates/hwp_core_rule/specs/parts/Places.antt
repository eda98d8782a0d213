-- Where a frame is.
use Rattle.std.specs.Prelude.{◌≡◌, ℕ, ◌+◌, ◌<◌, ◌==◌, min, Bool, true, false, List, Some, slice_get}
use Rattle.std.specs.Int.{from_bool}
use Rattle.hwp_core_rule.specs.declared.view.FrameInHand.{FrameInHand}
use Rattle.hwp_words.specs.Frames.{count_of, owner_of, lock_of, handled_of, is_kernel, is_poisoned}
use Rattle.hwp_core_rule.specs.Lists.{EachListed, sum_all}
use Rattle.hwp_core_rule.specs.Words.{free_bit}

-- how many times the frame is in a hand
abbrev pub in_hand : ℕ → List (List FrameInHand) → ℕ
in_hand f hands = sum_all (λ (h : FrameInHand). from_bool (h.frame.0 == f)) hands

-- no owner, not locked, not handled
pub record IsBare (word : ℕ) : Type 0 where
  pub unowned : owner_of word ≡ 0
  pub unlocked : lock_of word ≡ 0
  pub unhandled : handled_of word ≡ 0

-- a frame in hand is one of the board, and has POISON where the hand says so
pub record IsHanded (frames : List ℕ) (hand : FrameInHand) : Type 0 where
  pub word : ℕ
  pub there : slice_get frames hand.frame.0 ≡ Some word
  pub poisoned : hand.poisoned ≡ true → is_poisoned word ≡ true

-- the kernel's frame: bare and without references, not free, and in no hand
pub record IsApart (frees : List ℕ) (hands : List (List FrameInHand)) (f word : ℕ) : Type 0 where
  pub bare : IsBare word
  pub uncounted : count_of word ≡ 0
  pub taken : free_bit frees f ≡ 0
  pub unhanded : in_hand f hands ≡ 0

-- A frame that is not the kernel's is in exactly one of three places: its free bit is set, it is in the hand of one
-- view, or its count is above 0. In the first two it is bare. A hand that says of its frame that it is poisoned is
-- right. Broken by: `give_bit` of a frame that is not in hand; `put_ref` of the last reference that doesn't take the
-- frame in hand; a reference to a free frame.
pub record HasOnePlace (kernel : List Bool) (frames frees : List ℕ) (hands : List (List FrameInHand)) : Type 0 where
  pub declared : (f w : ℕ) (k : Bool) → slice_get frames f ≡ Some w → slice_get kernel f ≡ Some k → is_kernel w ≡ k
  pub placed : (f w : ℕ) → slice_get frames f ≡ Some w → is_kernel w ≡ false → free_bit frees f + in_hand f hands + min (count_of w) 1 ≡ 1
  pub idle : (f w : ℕ) → slice_get frames f ≡ Some w → 0 < free_bit frees f + in_hand f hands → IsBare w
  pub kernels : (f w : ℕ) → slice_get frames f ≡ Some w → is_kernel w ≡ true → IsApart frees hands f w
  pub handed : EachListed (IsHanded frames) hands
