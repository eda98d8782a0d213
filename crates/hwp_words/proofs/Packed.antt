-- A name that was packed is read again, and so is a frame word.
use Rattle.std.proofs.Common.{◌≡◌, ◌+◌, ◌*◌, ◌/◌, ◌%◌, ◌^◌, ◌<◌, ◌≤◌, ℕ, Bool, true, false, eqb, Option, Some, None, IfSome, arith, refl, ap, ◌∙◌}
use Rattle.std.specs.Int.{from_bool}
use Rattle.hwp_kill.specs.hwp_geom.declared.numbers.Frame.{Frame}
use Rattle.hwp_kill.specs.hwp_geom.declared.numbers.Page.{Page}
use Rattle.hwp_words.specs.declared.frame.FrameWord.{FrameWord}
use Rattle.hwp_words.specs.Frames.{frame_reading, frame_word}
use Rattle.hwp_words.specs.Names.{frame_name, frame_named, page_name, page_named}

pub frame_named-frame_name : (f : Option Frame) → IfSome f (λ x. x.0 < 2 ^ 16) → frame_named (frame_name f) ≡ f
frame_named-frame_name None fits = refl
frame_named-frame_name (Some f) fits = grind arith

page_named-page_name : (q : Option Page) → page_name q ≤ 2 ^ 16 → page_named (page_name q) ≡ q
page_named-page_name None fits = refl
page_named-page_name (Some q) fits = grind arith

-- the fields of a word that is put together as the code does it
record Fields (w a b h k n o y : ℕ) : Type 0 where
  pub locked : w / 2 ^ 0 % 2 ^ 1 ≡ a
  pub poisoned : w / 2 ^ 1 % 2 ^ 1 ≡ b
  pub handled : w / 2 ^ 2 % 2 ^ 1 ≡ h
  pub kernel : w / 2 ^ 3 % 2 ^ 1 ≡ k
  pub count : w / 2 ^ 4 % 2 ^ 20 ≡ n
  pub owner : w / 2 ^ 24 % 2 ^ 20 ≡ o
  pub cycle : w / 2 ^ 44 % 2 ^ 20 ≡ y

fields-are : (w a b h k n o y : ℕ) → w ≡ a * 1 + (b * 2 + (h * 4 + (k * 8 + (n * 16 + (o * 16777216 + (y * 17592186044416 + 0))))))
    → a < 2 → b < 2 → h < 2 → k < 2 → n < 2 ^ 20 → o ≤ 2 ^ 16 → y < 2 ^ 20 → Fields w a b h k n o y
fields-are w a b h k n o y is al bl hl kl nl ol yl = record {
  locked = omega arith;
  poisoned = omega arith;
  handled = omega arith;
  kernel = omega arith;
  count = omega arith;
  owner = omega arith;
  cycle = omega arith;
}

bit-below : (b : Bool) → from_bool b < 2
bit-below true = omega arith
bit-below false = omega arith

is-bit : (b : Bool) (n : ℕ) → n ≡ from_bool b → eqb n 1 ≡ b
is-bit true n is = ap (λ m. eqb m 1) is
is-bit false n is = ap (λ m. eqb m 1) is

abbrev frame_of : Bool → Bool → Bool → Bool → ℕ → Option Page → ℕ → FrameWord
frame_of a b h k n o y = record { locked = a; poisoned = b; handled = h; kernel = k; count = n; owner = o; cycle = y }

same-frame : (a b h k a' b' h' k' : Bool) (n y n' y' : ℕ) (o o' : Option Page) → a ≡ a' → b ≡ b' → h ≡ h' → k ≡ k' → n ≡ n' → o ≡ o' → y ≡ y'
    → frame_of a b h k n o y ≡ frame_of a' b' h' k' n' o' y'
same-frame a b h k a' b' h' k' n y n' y' o o' ea eb eh ek en eo ey = cc

-- the word of a frame says what it was made of
pub frame-back : (x : FrameWord) → x.count < 2 ^ 20 → page_name x.owner ≤ 2 ^ 16 → x.cycle < 2 ^ 20 → frame_reading (frame_word x) ≡ x
frame-back x count owner cycle =
    let f : Fields (frame_word x) (from_bool x.locked) (from_bool x.poisoned) (from_bool x.handled) (from_bool x.kernel) x.count (page_name x.owner) x.cycle =
    fields-are _ _ _ _ _ _ _ _ refl (bit-below x.locked) (bit-below x.poisoned) (bit-below x.handled) (bit-below x.kernel) count owner cycle in
    same-frame _ _ _ _ _ _ _ _ _ _ _ _ _ _ (is-bit x.locked _ f.locked) (is-bit x.poisoned _ f.poisoned) (is-bit x.handled _ f.handled) (is-bit x.kernel _ f.kernel)
    f.count (ap page_named f.owner ∙ page_named-page_name x.owner owner) f.cycle

-- the code's sum is the word
pub frame-sum : (x : FrameWord) (a b h k n o y : ℕ) → a ≡ from_bool x.locked → b ≡ from_bool x.poisoned → h ≡ from_bool x.handled → k ≡ from_bool x.kernel → n ≡ x.count
    → o ≡ page_name x.owner → y ≡ x.cycle → o ≤ 2 ^ 16 → x.cycle < 2 ^ 20
    → a * 1 + b * 2 + h * 4 + k * 8 + n * 16 + o * 16777216 % 18446744073709551616 + y * 17592186044416 % 18446744073709551616 ≡ frame_word x
frame-sum x a b h k n o y ea eb eh ek en eo ey owner cycle = omega arith
