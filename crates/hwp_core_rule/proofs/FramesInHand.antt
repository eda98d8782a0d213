-- Frames in hand: one comes, one leaves.
use Rattle.std.proofs.Common.{◌≡◌, ℕ, ◌+◌, ◌≤◌, ◌==◌, List, [], ◌∷◌, ◌++◌, Some, slice_get, set, ap, arith, true}
use Rattle.std.specs.List.{sum_by}
use Rattle.std.specs.Int.{from_bool}
use Rattle.std.proofs.lemmas.Bool.{eqb-true}
use Rattle.std.proofs.lemmas.List.Sums.{sum_by_push}
use Rattle.hwp_page.specs.hwp_geom.declared.Frame.{Frame}
use Rattle.hwp_core_rule.specs.declared.view.FrameInHand.{FrameInHand}
use Rattle.hwp_core_rule.specs.Views.{without, is_hand_of}
use Rattle.hwp_core_rule.specs.parts.Places.{in_hand}
use Rattle.hwp_core_rule.proofs.Lists.{sum-set, term-le, same-number}
use Rattle.hwp_core_rule.proofs.ListDrops.{sum-without}

pub is-of : (hand : FrameInHand) (frame : Frame) → hand.frame ≡ frame → is_hand_of frame hand ≡ true
is-of hand frame same = same-number hand.frame.0 frame.0 (ap (λ (f : Frame). f.0) same)

module _ (hands : List (List FrameInHand)) (seat : ℕ) (mine : List FrameInHand) (me : slice_get hands seat ≡ Some mine) where
  abbrev is : ℕ → FrameInHand → ℕ
  is f h = from_bool (h.frame.0 == f)

  -- a frame comes into the hand
  pub in_hand-push : (hand : FrameInHand) (f : ℕ) → in_hand f (set hands seat (mine ++ hand ∷ [])) ≡ in_hand f hands + from_bool (hand.frame.0 == f)
  in_hand-push hand f =
      let change : sum_by (sum_by (is f)) (set hands seat (mine ++ hand ∷ [])) + sum_by (is f) mine ≡ sum_by (sum_by (is f)) hands + sum_by (is f) (mine ++ hand ∷ []) =
      sum-set (sum_by (is f)) hands seat mine (mine ++ hand ∷ []) me in
      let more : sum_by (is f) (mine ++ hand ∷ []) ≡ sum_by (is f) mine + from_bool (hand.frame.0 == f) = sum_by_push (is f) mine hand in
      omega arith

  -- and a frame that was there leaves it
  pub in_hand-without : (hand : FrameInHand) (frame : Frame) → hand.frame ≡ frame → (f i : ℕ) → slice_get mine i ≡ Some hand
      → in_hand f (set hands seat (without (is_hand_of frame) mine)) + from_bool (frame.0 == f) ≡ in_hand f hands
  in_hand-without hand frame same f i there =
      let change : sum_by (sum_by (is f)) (set hands seat (without (is_hand_of frame) mine)) + sum_by (is f) mine ≡ sum_by (sum_by (is f)) hands + sum_by (is f) (without (is_hand_of frame) mine) =
      sum-set (sum_by (is f)) hands seat mine (without (is_hand_of frame) mine) me in
      let less : sum_by (is f) (without (is_hand_of frame) mine) + from_bool (frame.0 == f) ≡ sum_by (is f) mine =
      sum-without (is f) (is_hand_of frame) (from_bool (frame.0 == f)) mine i hand there (is-of hand frame same) (λ h found. ap (λ (n : ℕ). from_bool (n == f)) (eqb-true h.frame.0 frame.0 found)) in
      omega arith

  -- a frame in my hand is in hand
  pub in_hand-mine : (hand : FrameInHand) (frame : Frame) → hand.frame ≡ frame → (i : ℕ) → slice_get mine i ≡ Some hand → 1 ≤ in_hand frame.0 hands
  in_hand-mine hand frame same i there =
      let one : from_bool (hand.frame.0 == frame.0) ≡ 1 = ap from_bool (is-of hand frame same) in
      let here : from_bool (hand.frame.0 == frame.0) ≤ sum_by (is frame.0) mine = term-le (is frame.0) mine i hand there in
      let all : sum_by (is frame.0) mine ≤ sum_by (sum_by (is frame.0)) hands = term-le (sum_by (is frame.0)) hands seat mine me in
      omega arith
