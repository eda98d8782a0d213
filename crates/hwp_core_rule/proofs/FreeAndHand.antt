-- Free bits, the available word, reservations and frames in hand change: the frame rule stays.
use Rattle.std.proofs.Common.{◌≡◌, ℕ, ◌+◌, ◌-◌, ◌*◌, ◌/◌, ◌%◌, ◌^◌, ◌<◌, ◌≤◌, ◌==◌, min, Bool, true, false, List, [], ◌∷◌, ◌++◌, Some, map, length, set, get_or, slice_get, bit_and, bit_or, w64, inl, inr, refl, sym, ap, ◌∙◌, arith, subst}
use Rattle.std.specs.Int.{bit_not, from_bool}
use Rattle.std.specs.List.{sum_by}
use Rattle.std.proofs.lemmas.List.{length-append}
use Rattle.std.proofs.lemmas.Option.{slice_get-get_or, slice_get_within}
use Rattle.hwp_page.specs.hwp_geom.declared.Frame.{Frame}
use Rattle.hwp_page.specs.hwp_geom.declared.Layout.{Layout}
use Rattle.hwp_words.specs.Frames.{count_of, is_kernel}
use Rattle.hwp_core_rule.specs.declared.view.View.{View}
use Rattle.hwp_core_rule.specs.Asks.{HasInHand}
use Rattle.hwp_core_rule.specs.Lists.{Homes, EachMember, EachListed}
use Rattle.hwp_core_rule.specs.Rule.{FrameRule, holdings_of}
use Rattle.hwp_core_rule.specs.Views.{without, is_hand_of, unpoisoned}
use Rattle.hwp_core_rule.specs.Words.{Words, free_bit, sum_below}
use Rattle.hwp_core_rule.specs.parts.Free.{FreeBitsAgree}
use Rattle.hwp_core_rule.specs.parts.Holdings.{IsBounded}
use Rattle.hwp_core_rule.specs.parts.Places.{in_hand, HasOnePlace, IsApart, IsHanded}
use Rattle.hwp_core_rule.proofs.Lists.{change, at_map, each-set, each-push, sum-set, same-or, from_bool-same, from_bool-other, not-both, set_again}
use Rattle.hwp_core_rule.proofs.Bits.{sum-below-change, free_bit-cleared, free_bit-cleared_other, free_bit-raised, free_bit-raised_other}
use Rattle.hwp_core_rule.proofs.ListDrops.{each-without, length-without}
use Rattle.hwp_core_rule.proofs.FramesInHand.{in_hand-push, in_hand-without, in_hand-mine, is-of}
use Rattle.hwp_core_rule.proofs.PartKeeps
use Rattle.hwp_core_rule.specs.declared.view.FrameInHand.{FrameInHand}

-- frames go between free bits and hands: of each frame both together are as many as before
places-moved : (kernel : List Bool) (frames frees frees' : List ℕ) (hands hands' : List (List FrameInHand))
    → ((f : ℕ) → free_bit frees' f + in_hand f hands' ≡ free_bit frees f + in_hand f hands)
    → EachListed (IsHanded frames) hands'
    → HasOnePlace kernel frames frees hands → HasOnePlace kernel frames frees' hands'
places-moved kernel frames frees frees' hands hands' same handed h = record {
  declared = h.declared;
  placed = λ f w there isnt.
      let both : free_bit frees' f + in_hand f hands' ≡ free_bit frees f + in_hand f hands = same f in
      let one : free_bit frees f + in_hand f hands + min (count_of w) 1 ≡ 1 = h.placed f w there isnt in
      omega arith;
  idle = λ f w there some.
      let both : free_bit frees' f + in_hand f hands' ≡ free_bit frees f + in_hand f hands = same f in
      h.idle f w there (omega arith);
  kernels = λ f w there is.
      let both : free_bit frees' f + in_hand f hands' ≡ free_bit frees f + in_hand f hands = same f in
      let apart : IsApart frees hands f w = h.kernels f w there is in
      let taken : free_bit frees f ≡ 0 = apart.taken in
      let unhanded : in_hand f hands ≡ 0 = apart.unhanded in
      record { bare = apart.bare; uncounted = apart.uncounted; taken = omega arith; unhanded = omega arith };
  handed = handed;
}

module _ (layout : Layout) (w : Words) (homes : Homes) (views : List View) (seat : ℕ) (v : View) (me : slice_get views seat ≡ Some v) (h : FrameRule layout w homes views) where
  abbrev hands : List (List FrameInHand)
  hands = map (λ (v : View). v.hands) views

  abbrev reserved : List ℕ
  reserved = map (λ (v : View). v.reserved) views

  pub few-held : v.reserved + length v.hands + length v.refs ≤ 2
  few-held = (h.frames.holdings.bounded seat (holdings_of v) (at_map holdings_of views seat v me)).few

  -- the free bits, the available word, the reservations and the hands: the parts that read them are so, and the view holds few
  pub free-changed : (frees : List ℕ) (available reserved' : ℕ) (hands' : List FrameInHand)
      → HasOnePlace layout.kernel w.frames frees (set hands seat hands')
      → FreeBitsAgree layout.frames frees available (set reserved seat reserved')
      → reserved' + length hands' + length v.refs ≤ 2
      → FrameRule layout (record w { frees = frees; available = available }) homes (set views seat (record v { reserved = reserved'; hands = hands' }))
  free-changed frees available reserved' hands' places free few = record {
    frames = record {
      counts = PartKeeps.kept-counts views seat v u me refl h.frames.counts;
      places = change (λ (v : View). v.hands) (HasOnePlace layout.kernel w.frames frees) views seat u places;
      frame_locks = PartKeeps.kept-frame-locks views seat v u me refl refl h.frames.frame_locks;
      free = change (λ (v : View). v.reserved) (FreeBitsAgree layout.frames frees available) views seat u free;
      holdings = PartKeeps.kept-bounded views seat v u me bounded h.frames.holdings;
    };
    pages = PartKeeps.same-pages views seat v u me refl h.pages;
    histories = PartKeeps.same-histories views seat v u me refl h.histories;
    failures = PartKeeps.same-failures views seat v u me refl h.failures;
    processors = PartKeeps.same-processors views seat v u me refl h.processors;
  }
    where
      u : View
      u = record v { reserved = reserved'; hands = hands' }

      bounded : IsBounded layout (holdings_of u)
      bounded = record { few = few; shares = (h.frames.holdings.bounded seat (holdings_of v) (at_map holdings_of views seat v me)).shares }

  -- the hands stay
  pub reserved-changed : (available reserved' : ℕ) → FreeBitsAgree layout.frames w.frees available (set reserved seat reserved')
      → reserved' + length v.hands + length v.refs ≤ 2
      → FrameRule layout (record w { available = available }) homes (set views seat (record v { reserved = reserved' }))
  reserved-changed available reserved' free few = free-changed w.frees available reserved' v.hands
      (subst (HasOnePlace layout.kernel w.frames w.frees) (sym (set_again hands seat v.hands (at_map (λ (v : View). v.hands) views seat v me))) h.frames.places) free few

  pub my-hands : slice_get hands seat ≡ Some v.hands
  my-hands = at_map (λ (v : View). v.hands) views seat v me

  my-reserved : slice_get reserved seat ≡ Some v.reserved
  my-reserved = at_map (λ (v : View). v.reserved) views seat v me

  module _ (frame : Frame) (within : frame.0 / 64 < length w.frees) (kernel : length layout.kernel ≡ layout.frames) (wide : length w.frames ≡ layout.frames) where
    abbrev found : ℕ
    found = get_or w.frees (frame.0 / 64) 0

    abbrev mask : ℕ
    mask = 1 * 2 ^ (frame.0 % 64) % 2 ^ 64

    abbrev cleared : List ℕ
    cleared = set w.frees (frame.0 / 64) (bit_and found (bit_not w64 mask))

    abbrev raised : List ℕ
    raised = set w.frees (frame.0 / 64) (bit_or found mask)

    -- the bit was set
    pub bit-taken : frame.0 < layout.frames → 0 < v.reserved → free_bit w.frees frame.0 ≡ 1
        → FrameRule layout (record w { frees = cleared }) homes (set views seat (record v { reserved = v.reserved - 1; hands = v.hands ++ unpoisoned frame ∷ [] }))
    bit-taken inside some bit = free-changed cleared w.available (v.reserved - 1) (v.hands ++ unpoisoned frame ∷ []) places free (omega (arith, few-held, length-append v.hands (unpoisoned frame ∷ [])))
      where
        both : (f : ℕ) → free_bit cleared f + in_hand f (set hands seat (v.hands ++ unpoisoned frame ∷ [])) ≡ free_bit w.frees f + in_hand f hands
        both f =
            let more : in_hand f (set hands seat (v.hands ++ unpoisoned frame ∷ [])) ≡ in_hand f hands + from_bool (frame.0 == f) = in_hand-push hands seat v.hands my-hands (unpoisoned frame) f in
            elim (same-or f frame.0) [
              | inl same ↦
                  let now : free_bit cleared f ≡ 0 = ap (free_bit cleared) same ∙ free_bit-cleared w.frees frame.0 within in
                  let was : free_bit w.frees f ≡ 1 = ap (free_bit w.frees) same ∙ bit in
                  let one : from_bool (frame.0 == f) ≡ 1 = from_bool-same frame.0 f (sym same) in
                  omega arith
              | inr other ↦
                  let stays : free_bit cleared f ≡ free_bit w.frees f = free_bit-cleared_other w.frees frame.0 within f other in
                  let none : from_bool (frame.0 == f) ≡ 0 = from_bool-other frame.0 f (λ e. other (sym e)) in
                  omega arith
            ]

        places : HasOnePlace layout.kernel w.frames cleared (set hands seat (v.hands ++ unpoisoned frame ∷ []))
        places = places-moved layout.kernel w.frames w.frees cleared hands (set hands seat (v.hands ++ unpoisoned frame ∷ [])) both
            (each-set (EachMember (IsHanded w.frames)) hands seat (v.hands ++ unpoisoned frame ∷ [])
            (each-push (IsHanded w.frames) v.hands (unpoisoned frame) (record { word = get_or w.frames frame.0 0; there = slice_get-get_or w.frames frame.0 0 (omega (arith, inside, wide)); poisoned = λ e. absurd (not-both false e refl) }) (h.frames.places.handed seat v.hands my-hands)) h.frames.places.handed)
            h.frames.places

        free : FreeBitsAgree layout.frames cleared w.available (set reserved seat (v.reserved - 1))
        free = record {
          number =
              let total : sum_by (λ (n : ℕ). n) (set reserved seat (v.reserved - 1)) + v.reserved ≡ sum_by (λ (n : ℕ). n) reserved + (v.reserved - 1) = sum-set (λ (n : ℕ). n) reserved seat v.reserved (v.reserved - 1) my-reserved in
              let number : sum_below (free_bit w.frees) layout.frames ≡ w.available + sum_by (λ (n : ℕ). n) reserved = h.frames.free.number in
              let now : free_bit cleared frame.0 ≡ 0 = free_bit-cleared w.frees frame.0 within in
              let differs : sum_below (free_bit cleared) layout.frames + free_bit w.frees frame.0 ≡ sum_below (free_bit w.frees) layout.frames + free_bit cleared frame.0 =
              sum-below-change (free_bit cleared) (free_bit w.frees) frame.0 layout.frames inside (λ f other. free_bit-cleared_other w.frees frame.0 within f other) in
              omega (arith, bit, some);
          within = λ f past. free_bit-cleared_other w.frees frame.0 within f (λ e. absurd (omega (arith, inside))) ∙ h.frames.free.within f past;
        }

    -- the frame was in hand
    pub bit-given : HasInHand v frame
        → FrameRule layout (record w { frees = raised }) homes (set views seat (record v { reserved = v.reserved + 1; hands = without (is_hand_of frame) v.hands }))
    bit-given has = free-changed raised w.available (v.reserved + 1) (without (is_hand_of frame) v.hands) places free (omega (arith, few-held, length-without (is_hand_of frame) v.hands has.0 has.1 has.2 (is-of has.1 frame has.3)))
      where
        inside : frame.0 < layout.frames
        inside =
            let handed : IsHanded w.frames has.1 = h.frames.places.handed seat v.hands my-hands has.0 has.1 has.2 in
            let one : has.1.frame.0 < length w.frames = slice_get_within w.frames has.1.frame.0 handed.word handed.there in
            let same : has.1.frame.0 ≡ frame.0 = ap (λ (f : Frame). f.0) has.3 in
            omega (arith, wide)

        word : ℕ
        word = get_or w.frames frame.0 0

        there : slice_get w.frames frame.0 ≡ Some word
        there = slice_get-get_or w.frames frame.0 0 (omega (arith, inside, wide))

        was : free_bit w.frees frame.0 ≡ 0
        was = which (is_kernel word) refl
          where
            which : (b : Bool) → is_kernel word ≡ b → free_bit w.frees frame.0 ≡ 0
            which true is = (h.frames.places.kernels frame.0 word there is).taken
            which false isnt =
                let some : 1 ≤ in_hand frame.0 hands = in_hand-mine hands seat v.hands my-hands has.1 frame has.3 has.0 has.2 in
                let one : free_bit w.frees frame.0 + in_hand frame.0 hands + min (count_of word) 1 ≡ 1 = h.frames.places.placed frame.0 word there isnt in
                omega arith

        both : (f : ℕ) → free_bit raised f + in_hand f (set hands seat (without (is_hand_of frame) v.hands)) ≡ free_bit w.frees f + in_hand f hands
        both f =
            let less : in_hand f (set hands seat (without (is_hand_of frame) v.hands)) + from_bool (frame.0 == f) ≡ in_hand f hands = in_hand-without hands seat v.hands my-hands has.1 frame has.3 f has.0 has.2 in
            elim (same-or f frame.0) [
              | inl same ↦
                  let now : free_bit raised f ≡ 1 = ap (free_bit raised) same ∙ free_bit-raised w.frees frame.0 within in
                  let before : free_bit w.frees f ≡ 0 = ap (free_bit w.frees) same ∙ was in
                  let one : from_bool (frame.0 == f) ≡ 1 = from_bool-same frame.0 f (sym same) in
                  omega arith
              | inr other ↦
                  let stays : free_bit raised f ≡ free_bit w.frees f = free_bit-raised_other w.frees frame.0 within f other in
                  let none : from_bool (frame.0 == f) ≡ 0 = from_bool-other frame.0 f (λ e. other (sym e)) in
                  omega arith
            ]

        places : HasOnePlace layout.kernel w.frames raised (set hands seat (without (is_hand_of frame) v.hands))
        places = places-moved layout.kernel w.frames w.frees raised hands (set hands seat (without (is_hand_of frame) v.hands)) both
            (each-set (EachMember (IsHanded w.frames)) hands seat (without (is_hand_of frame) v.hands)
            (each-without (IsHanded w.frames) (is_hand_of frame) v.hands (h.frames.places.handed seat v.hands my-hands)) h.frames.places.handed)
            h.frames.places

        free : FreeBitsAgree layout.frames raised w.available (set reserved seat (v.reserved + 1))
        free = record {
          number =
              let total : sum_by (λ (n : ℕ). n) (set reserved seat (v.reserved + 1)) + v.reserved ≡ sum_by (λ (n : ℕ). n) reserved + (v.reserved + 1) = sum-set (λ (n : ℕ). n) reserved seat v.reserved (v.reserved + 1) my-reserved in
              let number : sum_below (free_bit w.frees) layout.frames ≡ w.available + sum_by (λ (n : ℕ). n) reserved = h.frames.free.number in
              let now : free_bit raised frame.0 ≡ 1 = free_bit-raised w.frees frame.0 within in
              let differs : sum_below (free_bit raised) layout.frames + free_bit w.frees frame.0 ≡ sum_below (free_bit w.frees) layout.frames + free_bit raised frame.0 =
              sum-below-change (free_bit raised) (free_bit w.frees) frame.0 layout.frames inside (λ f other. free_bit-raised_other w.frees frame.0 within f other) in
              omega (arith, was);
          within = λ f past. free_bit-raised_other w.frees frame.0 within f (λ e. absurd (omega (arith, inside))) ∙ h.frames.free.within f past;
        }
