-- Why no frame is available: each that isn't the kernel's is free, in hand, named by a cache word, referenced or marked.
use Rattle.std.proofs.Common.{◌≡◌, ◌≢◌, ℕ, ◌+◌, ◌*◌, ◌^◌, ◌<◌, ◌≤◌, ◌==◌, ◌&&◌, nat_lt, not, min, eq-eqb, eqb-true, le-ltb, Bool, true, false, cond, List, [], Some, map, length, slice_get, slice_index, slice_index_or, inl, inr, refl, sym, ap, ◌∙◌, subst, arith}
use Rattle.std.specs.Int.{from_bool}
use Rattle.std.specs.List.{sum_by}
use Rattle.std.proofs.lemmas.Option.{same_Some, slice_get_within, slice_get-get_or, slice_get_cases}
use Rattle.hwp_page.specs.hwp_geom.declared.Layout.{Layout}
use Rattle.hwp_page.specs.hwp_geom.Layout.{IsSound}
use Rattle.hwp_page.specs.hwp_geom.Limits.{frame_limit}
use Rattle.hwp_words.specs.Frames.{count_of, owner_of, poison_of, handled_of, cycle_of}
use Rattle.hwp_core_rule.specs.declared.view.FrameLock.{FrameLock}
use Rattle.hwp_core_rule.specs.declared.view.Mark.{Mark}
use Rattle.hwp_core_rule.specs.declared.view.PageLock.{PageLock}
use Rattle.hwp_core_rule.specs.declared.view.Part.{Part}
use Rattle.hwp_core_rule.specs.declared.view.Ref.{Ref}
use Rattle.hwp_core_rule.specs.declared.view.Stamp.{Stamp}
use Rattle.hwp_core_rule.specs.declared.view.View.{View}
use Rattle.hwp_core_rule.specs.Lists.{Homes, SomeMember, sum_all}
use Rattle.hwp_core_rule.specs.Rule.{FrameRule, holdings_of}
use Rattle.hwp_core_rule.specs.Views.{refs_on, locks_on}
use Rattle.hwp_core_rule.specs.Words.{Words, free_bit, sum_below}
use Rattle.hwp_core_rule.specs.parts.Counter.{is_poisoning}
use Rattle.hwp_core_rule.specs.parts.Counts.{named}
use Rattle.hwp_core_rule.specs.parts.Exhaustion.{usable, is_marked}
use Rattle.hwp_core_rule.specs.parts.Holdings.{IsBounded, frames_held, HoldsNothing, HeldByProcessors}
use Rattle.hwp_core_rule.specs.parts.Locks.{IsLocked}
use Rattle.hwp_core_rule.specs.parts.Marks.{poisonings}
use Rattle.hwp_core_rule.specs.parts.Places.{in_hand}
use Rattle.hwp_core_rule.proofs.CountsBelow.{below-le, below-add, below-swap, hit-one, sum-le, sum-ones, sum-add, some-term, hits-all-le}
use Rattle.hwp_core_rule.proofs.Keeps.{IsShaped}
use Rattle.hwp_core_rule.proofs.Lists.{from_bool-same, same-or, at_map, map-was, term-le, sum-map}
use Rattle.hwp_core_rule.proofs.bounds.RefBounds.{parts-number}
use Rattle.hwp_core_rule.proofs.Sights.{IsExplained, explained-exhausted}
use Rattle.hwp_core_rule.specs.declared.shared_word.SharedWord.TheVariants as places
use Rattle.std.proofs.lemmas.List.{nil_from_length}
use Rattle.hwp_core_rule.specs.declared.view.FrameInHand.{FrameInHand}

-- a term above 0 of equal numbers
is-equal : (a b : ℕ) (c : Bool) → (a == b) ≡ c → 0 < from_bool c → a ≡ b
is-equal a b true e above = eqb-true a b e
is-equal a b false e above = absurd (omega arith)

counted-equal : (a b n : ℕ) (c : Bool) → (a == b) ≡ c → 0 < cond c n 0 → a ≡ b
counted-equal a b n true e above = eqb-true a b e
counted-equal a b n false e above = absurd (omega arith)

both-le : (a b : Bool) → from_bool (a && b) ≤ from_bool a
both-le true true = omega arith
both-le true false = omega arith
both-le false b = omega arith

handled-one : (word : ℕ) → handled_of word ≢ 0 → handled_of word ≡ 1
handled-one word some = omega arith

module _ (layout : Layout) (w : Words) (homes : Homes) (views : List View) (sound : IsSound layout) (shaped : IsShaped layout w homes) (h : FrameRule layout w homes views) (held : HeldByProcessors views) where
  abbrev refs : List (List Ref)
  refs = map (λ (v : View). v.refs) views

  abbrev hands : List (List FrameInHand)
  hands = map (λ (v : View). v.hands) views

  abbrev marks : List (List Mark)
  marks = map (λ (v : View). v.marks) views

  -- how many listed references are to the frame
  abbrev listed_on : ℕ → ℕ
  listed_on f = sum_all (λ (r : Ref). from_bool (r.frame.0 == f)) refs

  module _ (f word : ℕ) (there : slice_get w.frames f ≡ Some word) where
    by-reference : 0 < sum_by (refs_on f) refs → 0 < listed_on f
    by-reference above =
        let some : SomeMember (λ (l : List Ref). 0 < refs_on f l) refs = some-term (refs_on f) refs above in
        let one : SomeMember (λ (r : Ref). 0 < cond (r.frame.0 == f) r.count 0) some.1 = some-term (λ (r : Ref). cond (r.frame.0 == f) r.count 0) some.1 some.3 in
        let same : one.1.frame.0 ≡ f = counted-equal one.1.frame.0 f one.1.count (one.1.frame.0 == f) refl one.3 in
        let is : from_bool (one.1.frame.0 == f) ≡ 1 = from_bool-same one.1.frame.0 f same in
        let in_list : from_bool (one.1.frame.0 == f) ≤ sum_by (λ (r : Ref). from_bool (r.frame.0 == f)) some.1 = term-le (λ (r : Ref). from_bool (r.frame.0 == f)) some.1 one.0 one.1 one.2 in
        let in_all : sum_by (λ (r : Ref). from_bool (r.frame.0 == f)) some.1 ≤ listed_on f = term-le (λ (l : List Ref). sum_by (λ (r : Ref). from_bool (r.frame.0 == f)) l) refs some.0 some.1 some.2 in
        omega arith

    by-lock : (v : View) (i : ℕ) → slice_get views i ≡ Some v → 0 < locks_on f v.locks → 0 < listed_on f
    by-lock v i is above =
        let one : SomeMember (λ (l : FrameLock). 0 < from_bool (l.frame.0 == f)) v.locks = some-term (λ (l : FrameLock). from_bool (l.frame.0 == f)) v.locks above in
        let same : one.1.frame.0 ≡ f = is-equal one.1.frame.0 f (one.1.frame.0 == f) refl one.3 in
        let locked : IsLocked w.frames v.refs one.1 = h.frames.frame_locks.known i (v.refs, v.locks) (at_map (λ (v : View). (v.refs, v.locks)) views i v is) one.0 one.1 one.2 in
        let referenced : 0 < refs_on f v.refs = subst (λ (n : ℕ). 0 < refs_on n v.refs) same locked.referenced in
        let more : refs_on f v.refs ≤ sum_by (refs_on f) refs = term-le (refs_on f) refs i v.refs (at_map (λ (v : View). v.refs) views i v is) in
        by-reference (omega arith)

    by-owner : (q : ℕ) → owner_of word ≡ q + 1 → 0 < named f w.caches + listed_on f
    by-owner q owned = elim (h.pages.caches.named f word q there owned) [
      | inl cached ↦
          let one : from_bool (f + 1 == f + 1) ≡ 1 = from_bool-same (f + 1) (f + 1) refl in
          let more : from_bool (f + 1 == f + 1) ≤ named f w.caches = term-le (λ (x : ℕ). from_bool (x == f + 1)) w.caches q (f + 1) cached in
          omega arith
      | inr some ↦
          let was : (v : View) × (slice_get views some.0 ≡ Some v) × ((v.locks, v.pages) ≡ some.1) = map-was (λ (v : View). (v.locks, v.pages)) views some.0 some.1 some.2 in
          let both : 0 < locks_on f was.0.locks = subst (λ (x : List FrameLock × List PageLock). 0 < locks_on f x.0) (sym was.2) some.3.frame in
          let listed : 0 < listed_on f = by-lock was.0 some.0 was.1 both in
          omega arith
    ]

    by-translation : f < layout.frames → 0 < named f w.trans → 0 < named f w.caches + listed_on f
    by-translation before above =
        let one : SomeMember (λ (x : ℕ). 0 < from_bool (x == f + 1)) w.trans = some-term (λ (x : ℕ). from_bool (x == f + 1)) w.trans above in
        let names : one.1 ≡ f + 1 = is-equal one.1 (f + 1) (one.1 == f + 1) refl one.3 in
        let frames : layout.frames ≤ frame_limit = sound.frames in
        elim (slice_get_cases layout.trans one.0).1 [
          | inl found ↦ elim (h.pages.translations.owned one.0 one.1 found.0 one.2 found.2) [
            | inl none ↦ let none : one.1 ≡ 0 = none in absurd (omega arith)
            | inr some ↦ elim some [
              | inl poison ↦ let poison : one.1 ≡ 2 ^ 63 = poison in absurd (omega arith)
              | inr own ↦
                  let frame_is : one.1 ≡ own.frame + 1 = own.named in
                  let same : own.frame ≡ f = omega arith in
                  let standing : slice_get w.frames f ≡ Some own.owner_word = subst (λ (n : ℕ). slice_get w.frames n ≡ Some own.owner_word) same own.there in
                  let word_is : own.owner_word ≡ word = same_Some own.owner_word word (sym standing ∙ there) in
                  by-owner found.0.page.0 (subst (λ (x : ℕ). owner_of x ≡ found.0.page.0 + 1) word_is own.owned)
            ]
          ]
          | inr past ↦
              let within : one.0 < length w.trans = slice_get_within w.trans one.0 one.1 one.2 in
              let wide : length w.trans ≡ length layout.trans = shaped.trans in
              let beyond : length layout.trans ≤ one.0 = past.0 in
              absurd (omega arith)
        ]

    by-handled : usable layout f ≡ 1 → handled_of word ≡ 1 → 0 < is_marked layout marks f
    by-handled is handled =
        let poison : poison_of word ≡ 1 = (h.failures.handled.out f word there handled).poisoned in
        let marked : poisonings f (cycle_of word) marks ≡ cond (nat_lt (cycle_of word) (cycle_of word)) 1 (cond (cycle_of word == cycle_of word) (poison_of word) 0) = h.failures.marks.poisoned f word (cycle_of word) there in
        let now : cond (nat_lt (cycle_of word) (cycle_of word)) 1 (cond (cycle_of word == cycle_of word) (poison_of word) 0) ≡ poison_of word =
        ap (λ (b : Bool). cond b 1 (cond (cycle_of word == cycle_of word) (poison_of word) 0)) (le-ltb (cycle_of word) (cycle_of word) (omega arith)) ∙ ap (λ (b : Bool). cond b (poison_of word) 0) (eq-eqb (cycle_of word) (cycle_of word) refl) in
        let more : poisonings f (cycle_of word) marks ≤ sum_all (λ (m : Mark). from_bool (m.frame.0 == f)) marks =
        sum-le (λ (l : List Mark). sum_by (λ (m : Mark). from_bool ((m.frame.0 == f) && ((m.cycle == cycle_of word) && is_poisoning m.kind))) l) (λ (l : List Mark). sum_by (λ (m : Mark). from_bool (m.frame.0 == f)) l) marks
        (λ i l e. sum-le (λ (m : Mark). from_bool ((m.frame.0 == f) && ((m.cycle == cycle_of word) && is_poisoning m.kind))) (λ (m : Mark). from_bool (m.frame.0 == f)) l
        (λ j m e. both-le (m.frame.0 == f) ((m.cycle == cycle_of word) && is_poisoning m.kind))) in
        omega arith

    -- a frame with a count is named by a cache word, referenced or marked
    used : f < layout.frames → usable layout f ≡ 1 → 0 < count_of word → 0 < named f w.caches + (is_marked layout marks f + listed_on f)
    used before is above =
        let balance : count_of word ≡ named f w.trans + named f w.caches + sum_by (refs_on f) refs + handled_of word = h.frames.counts.balance f word there in
        elim (same-or (named f w.trans) 0) [
          | inr some ↦ let owned : 0 < named f w.caches + listed_on f = by-translation before (omega arith) in omega arith
          | inl unnamed ↦ elim (same-or (sum_by (refs_on f) refs) 0) [
            | inr some ↦ let referenced : 0 < listed_on f = by-reference (omega arith) in omega arith
            | inl unreferenced ↦ elim (same-or (handled_of word) 0) [
              | inr some ↦ let marked : 0 < is_marked layout marks f = by-handled is (handled-one word some) in omega arith
              | inl unhandled ↦ omega arith
            ]
          ]
        ]

  -- a frame that isn't the kernel's has a cause that it isn't available
  abbrev cause : ℕ → ℕ
  cause f = free_bit w.frees f + (in_hand f hands + (named f w.caches + (is_marked layout marks f + listed_on f)))

  caused : (f : ℕ) → f < layout.frames → usable layout f ≤ cause f
  caused f before = by-kernel (slice_index_or layout.kernel f true) refl
    where
      there : slice_get w.frames f ≡ Some (slice_index w.frames f)
      there = slice_get-get_or w.frames f 0 (omega (arith, shaped.frames))

      declared : slice_get layout.kernel f ≡ Some (slice_index_or layout.kernel f true)
      declared = slice_get-get_or layout.kernel f true (omega (arith, sound.kernel))

      by-kernel : (b : Bool) → slice_index_or layout.kernel f true ≡ b → usable layout f ≤ cause f
      by-kernel true is = let unusable : usable layout f ≡ 0 = ap (λ (b : Bool). from_bool (not b)) is in omega arith
      by-kernel false is =
          let usable_is : usable layout f ≡ 1 = ap (λ (b : Bool). from_bool (not b)) is in
          let placed : free_bit w.frees f + in_hand f hands + min (count_of (slice_index w.frames f)) 1 ≡ 1 =
          h.frames.places.placed f (slice_index w.frames f) there (h.frames.places.declared f (slice_index w.frames f) (slice_index_or layout.kernel f true) there declared ∙ is) in
          elim (same-or (count_of (slice_index w.frames f)) 0) [
            | inl uncounted ↦ omega arith
            | inr counted ↦
                let why : 0 < named f w.caches + (is_marked layout marks f + listed_on f) = used f (slice_index w.frames f) there before usable_is (omega arith) in
                omega arith
          ]

  -- what all views hold of frames is at most two for each processor
  held-few : sum_by (λ (v : View). frames_held (holdings_of v)) views ≤ 2 * layout.cpus
  held-few =
      let parts : List (List Part) = map (λ (v : View). v.parts) views in
      let few : sum_by (λ (v : View). frames_held (holdings_of v)) views ≤ sum_by (λ (v : View). length v.parts + length v.parts) views =
      sum-le (λ (v : View). frames_held (holdings_of v)) (λ (v : View). length v.parts + length v.parts) views (λ i v is. bounded v (h.frames.holdings.bounded i (holdings_of v) (at_map holdings_of views i v is)) (held.nothing i v is)) in
      let twice : sum_by (λ (v : View). length v.parts + length v.parts) views ≡ sum_by (λ (v : View). length v.parts) views + sum_by (λ (v : View). length v.parts) views = sum-add (λ (v : View). length v.parts) (λ (v : View). length v.parts) views in
      let mapped : sum_by (λ (l : List Part). length l) parts ≡ sum_by (λ (v : View). length v.parts) views = sum-map (λ (l : List Part). length l) (λ (v : View). v.parts) views in
      let number : sum_by (λ (l : List Part). length l) parts ≡ layout.cpus = parts-number layout parts h.processors.processors in
      omega arith
    where
      bounded : (v : View) → IsBounded layout (holdings_of v) → (v.parts ≡ [] → HoldsNothing v) → frames_held (holdings_of v) ≤ length v.parts + length v.parts
      bounded v is nothing = elim (same-or (length v.parts) 0) [
        | inl none ↦
            let empty : HoldsNothing v = nothing (nil_from_length v.parts none) in
            let reserved : v.reserved ≡ 0 = empty.reserved in
            let hands : length v.hands ≡ 0 = ap (λ (l : List FrameInHand). length l) empty.hands in
            let refs : length v.refs ≡ 0 = ap (λ (l : List Ref). length l) empty.refs in
            omega arith
        | inr some ↦ let few : frames_held (holdings_of v) ≤ 2 = is.few in omega arith
      ]

  named-few : sum_below (λ f. named f w.caches) layout.frames ≤ length layout.pages
  named-few =
      let swapped : sum_below (λ f. named f w.caches) layout.frames ≡ sum_by (λ (x : ℕ). sum_below (λ f. from_bool (x == f + 1)) layout.frames) w.caches = below-swap (λ f (x : ℕ). from_bool (x == f + 1)) w.caches layout.frames in
      let few : sum_by (λ (x : ℕ). sum_below (λ f. from_bool (x == f + 1)) layout.frames) w.caches ≤ sum_by (λ (x : ℕ). 1) w.caches =
      sum-le (λ (x : ℕ). sum_below (λ f. from_bool (x == f + 1)) layout.frames) (λ (x : ℕ). 1) w.caches (λ i x is. hit-one x (λ f. f + 1) layout.frames (λ f g less e. let e : f + 1 ≡ g + 1 = e in omega arith)) in
      let ones : sum_by (λ (x : ℕ). 1) w.caches ≡ length w.caches = sum-ones w.caches in
      omega (arith, shaped.caches)

  pub exhausted : w.available ≡ 0
      → sum_below (usable layout) layout.frames ≤ sum_below (is_marked layout marks) layout.frames + length layout.pages + 2 * layout.cpus
  exhausted none =
      let causes : sum_below (usable layout) layout.frames ≤ sum_below cause layout.frames = below-le (usable layout) cause layout.frames caused in
      let one : sum_below cause layout.frames ≡ sum_below (free_bit w.frees) layout.frames + sum_below (λ f. in_hand f hands + (named f w.caches + (is_marked layout marks f + listed_on f))) layout.frames =
      below-add (free_bit w.frees) (λ f. in_hand f hands + (named f w.caches + (is_marked layout marks f + listed_on f))) layout.frames in
      let two : sum_below (λ f. in_hand f hands + (named f w.caches + (is_marked layout marks f + listed_on f))) layout.frames ≡ sum_below (λ f. in_hand f hands) layout.frames + sum_below (λ f. named f w.caches + (is_marked layout marks f + listed_on f)) layout.frames =
      below-add (λ f. in_hand f hands) (λ f. named f w.caches + (is_marked layout marks f + listed_on f)) layout.frames in
      let three : sum_below (λ f. named f w.caches + (is_marked layout marks f + listed_on f)) layout.frames ≡ sum_below (λ f. named f w.caches) layout.frames + sum_below (λ f. is_marked layout marks f + listed_on f) layout.frames =
      below-add (λ f. named f w.caches) (λ f. is_marked layout marks f + listed_on f) layout.frames in
      let four : sum_below (λ f. is_marked layout marks f + listed_on f) layout.frames ≡ sum_below (is_marked layout marks) layout.frames + sum_below listed_on layout.frames = below-add (is_marked layout marks) listed_on layout.frames in
      let free : sum_below (free_bit w.frees) layout.frames ≡ w.available + sum_by (λ (n : ℕ). n) (map (λ (v : View). v.reserved) views) = h.frames.free.number in
      let free_held : sum_by (λ (n : ℕ). n) (map (λ (v : View). v.reserved) views) ≡ sum_by (λ (v : View). v.reserved) views = sum-map (λ (n : ℕ). n) (λ (v : View). v.reserved) views in
      let handed : sum_below (λ f. in_hand f hands) layout.frames ≤ sum_by (λ (l : List FrameInHand). length l) hands = hits-all-le (λ (h : FrameInHand). h.frame.0) hands layout.frames in
      let handed_held : sum_by (λ (l : List FrameInHand). length l) hands ≡ sum_by (λ (v : View). length v.hands) views = sum-map (λ (l : List FrameInHand). length l) (λ (v : View). v.hands) views in
      let listed : sum_below listed_on layout.frames ≤ sum_by (λ (l : List Ref). length l) refs = hits-all-le (λ (r : Ref). r.frame.0) refs layout.frames in
      let listed_held : sum_by (λ (l : List Ref). length l) refs ≡ sum_by (λ (v : View). length v.refs) views = sum-map (λ (l : List Ref). length l) (λ (v : View). v.refs) views in
      let held : sum_by (λ (v : View). v.reserved + length v.hands + length v.refs) views ≡ sum_by (λ (v : View). v.reserved + length v.hands) views + sum_by (λ (v : View). length v.refs) views =
      sum-add (λ (v : View). v.reserved + length v.hands) (λ (v : View). length v.refs) views in
      let held_more : sum_by (λ (v : View). v.reserved + length v.hands) views ≡ sum_by (λ (v : View). v.reserved) views + sum_by (λ (v : View). length v.hands) views = sum-add (λ (v : View). v.reserved) (λ (v : View). length v.hands) views in
      let few : sum_by (λ (v : View). v.reserved + length v.hands + length v.refs) views ≤ 2 * layout.cpus = held-few in
      let named_few : sum_below (λ f. named f w.caches) layout.frames ≤ length layout.pages = named-few in
      omega arith

-- a sight of the available word as it stands
pub explained-available : (layout : Layout) (w : Words) (homes : Homes) (views : List View) (stamp : Stamp)
    → IsSound layout → IsShaped layout w homes → FrameRule layout w homes views → HeldByProcessors views
    → IsExplained layout w homes views (record { stamp = stamp; place = places.Available; word = w.available })
explained-available layout w homes views stamp sound shaped h held =
    explained-exhausted layout w homes views (record { stamp = stamp; place = places.Available; word = w.available }) refl (exhausted layout w homes views sound shaped h held)
