-- References given back keep the frame rule.
use Rattle.std.proofs.Common.{◌≡◌, ◌≢◌, ℕ, ◌+◌, ◌-◌, ◌*◌, ◌%◌, ◌^◌, ◌<◌, ◌≤◌, ◌==◌, min, Bool, true, false, cond, List, [], ◌∷◌, ◌++◌, Some, map, set, length, slice_get, slice_index, length-append, inl, inr, refl, sym, ap, ◌∙◌, subst, arith}
use Rattle.std.proofs.lemmas.Bool.{eqb-true, eqb-false, ne_eqb}
use Rattle.std.proofs.lemmas.List.Sums.{sum_by_push}
use Rattle.std.proofs.lemmas.Option.{same_Some}
use Rattle.std.specs.Int.{from_bool}
use Rattle.std.specs.List.{sum_by}
use Rattle.hwp_page.specs.hwp_geom.declared.Frame.{Frame}
use Rattle.hwp_words.specs.Frames.{lock_of, poison_of, handled_of, count_of, owner_of, kernel_of, cycle_of}
use Rattle.hwp_words.proofs.FrameSteps.{FieldsAre, fields-put_ref}
use Rattle.hwp_core_rule.specs.declared.view.FrameLock.{FrameLock}
use Rattle.hwp_core_rule.specs.declared.view.Ref.{Ref}
use Rattle.hwp_core_rule.specs.declared.view.View.{View}
use Rattle.hwp_core_rule.specs.Lists.{EachMember}
use Rattle.hwp_core_rule.specs.Rule.{FrameRule, holdings_of}
use Rattle.hwp_core_rule.specs.Steps.{is_last}
use Rattle.hwp_core_rule.specs.Views.{refs_on, less_refs, locks_on, hand_found}
use Rattle.hwp_core_rule.specs.Words.{free_bit}
use Rattle.hwp_core_rule.specs.parts.Counts.{CountsBalance, named}
use Rattle.hwp_core_rule.specs.parts.Holdings.{IsBounded, frames_held}
use Rattle.hwp_core_rule.specs.parts.Locks.{IsLocked}
use Rattle.hwp_core_rule.specs.parts.Owners.{HoldsBoth}
use Rattle.hwp_core_rule.specs.parts.Places.{HasOnePlace, IsBare, in_hand, IsHanded}
use Rattle.hwp_core_rule.proofs.Lists.{at_map, map-was, same-or, same-number, set_again, sum-set, term-le, terms-le, each-set, each-push, sum-zero}
use Rattle.hwp_core_rule.proofs.Keeps.{Keeps}
use Rattle.hwp_core_rule.proofs.FrameWordLaws.{IsLike, bare-like, like-fields, placed-again, counted-again, like-handed-all}
use Rattle.hwp_core_rule.proofs.steps.CountSteps.{keeps-refs}
use Rattle.hwp_core_rule.proofs.WordsByKind.{word-there}
use Rattle.hwp_core_rule.specs.declared.step.Step.TheVariants as steps
use Rattle.hwp_core_rule.proofs.Refs
use Rattle.hwp_core_rule.specs.declared.view.FrameInHand.{FrameInHand}

pub keeps-put_ref : (frame : Frame) (count : ℕ) → Keeps (steps.PutRef frame count)
keeps-put_ref frame count layout w homes views seat v who content given =
    keeps-refs layout w homes views seat v frame.0 found now less after given.me h there like are.lock counts placed referenced bounded-less
  where
    h : FrameRule layout w homes views
    h = given.rule

    found : ℕ
    found = slice_index w.frames frame.0

    now : ℕ
    now = (slice_index w.frames frame.0 + (2 ^ 64 - count * 16)) % 2 ^ 64

    less : List Ref
    less = less_refs frame count v.refs

    after : List FrameInHand
    after = cond (is_last count (slice_index w.frames frame.0)) (v.hands ++ hand_found frame (slice_index w.frames frame.0) ∷ []) v.hands

    there : slice_get w.frames frame.0 ≡ Some (slice_index w.frames frame.0)
    there = word-there w.frames frame.0 layout.frames given.shaped.frames given.place

    some : 0 < count
    some = given.asks.0

    has : count + locks_on frame.0 v.locks ≤ refs_on frame.0 v.refs
    has = given.asks.1

    refs : List (List Ref)
    refs = map (λ (v : View). v.refs) views

    my_refs : slice_get (map (λ (v : View). v.refs) views) seat ≡ Some v.refs
    my_refs = at_map (λ (v : View). v.refs) views seat v given.me

    balance : count_of (slice_index w.frames frame.0) ≡ named frame.0 w.trans + named frame.0 w.caches + sum_by (refs_on frame.0) (map (λ (v : View). v.refs) views) + handled_of (slice_index w.frames frame.0)
    balance = h.frames.counts.balance frame.0 (slice_index w.frames frame.0) there

    mine : refs_on frame.0 v.refs ≤ sum_by (refs_on frame.0) (map (λ (v : View). v.refs) views)
    mine = term-le (refs_on frame.0) (map (λ (v : View). v.refs) views) seat v.refs my_refs

    enough : count ≤ count_of (slice_index w.frames frame.0)
    enough = omega (arith, has, mine, balance)

    are : FieldsAre ((slice_index w.frames frame.0 + (2 ^ 64 - count * 16)) % 2 ^ 64) (lock_of (slice_index w.frames frame.0)) (poison_of (slice_index w.frames frame.0)) (handled_of (slice_index w.frames frame.0)) (kernel_of (slice_index w.frames frame.0))
        (count_of (slice_index w.frames frame.0) - count) (owner_of (slice_index w.frames frame.0)) (cycle_of (slice_index w.frames frame.0))
    are = fields-put_ref (slice_index w.frames frame.0) (count * 16) count refl given.fits enough

    like : IsLike (slice_index w.frames frame.0) ((slice_index w.frames frame.0 + (2 ^ 64 - count * 16)) % 2 ^ 64)
    like = like-fields (slice_index w.frames frame.0) ((slice_index w.frames frame.0 + (2 ^ 64 - count * 16)) % 2 ^ 64) (lock_of (slice_index w.frames frame.0)) (count_of (slice_index w.frames frame.0) - count) are

    left : refs_on frame.0 (less_refs frame count v.refs) ≡ refs_on frame.0 v.refs - count
    left = Refs.refs-less frame count v.refs

    counts : CountsBalance (set w.frames frame.0 now) w.trans w.caches (set (map (λ (v : View). v.refs) views) seat less)
    counts = counted-again w.frames frame.0 found now there like w.trans w.caches (map (λ (v : View). v.refs) views) seat v.refs less my_refs
        (let count_is : count_of ((slice_index w.frames frame.0 + (2 ^ 64 - count * 16)) % 2 ^ 64) ≡ count_of (slice_index w.frames frame.0) - count = are.count in
        omega (arith, enough, has, left, count_is))
        (λ g differs. Refs.refs-less-other frame count g v.refs differs) h.frames.counts

    known : EachMember (IsLocked w.frames v.refs) v.locks
    known = h.frames.frame_locks.known seat (v.refs, v.locks) (at_map (λ (v : View). (v.refs, v.locks)) views seat v given.me)

    -- a lock keeps a reference back
    referenced : EachMember (λ (l : FrameLock). 0 < refs_on l.frame.0 (less_refs frame count v.refs)) v.locks
    referenced i l e =
        let was : 0 < refs_on l.frame.0 v.refs = (known i l e).referenced in
        elim (same-or l.frame.0 frame.0) [
          | inl is ↦ subst (λ (n : ℕ). 0 < refs_on n (less_refs frame count v.refs)) (sym is)
              (let one : from_bool (l.frame.0 == frame.0) ≤ locks_on frame.0 v.locks = term-le (λ (l : FrameLock). from_bool (l.frame.0 == frame.0)) v.locks i l e in
              let is_one : from_bool (l.frame.0 == frame.0) ≡ 1 = ap from_bool (same-number l.frame.0 frame.0 is) in
              omega (arith, has, left, one, is_one))
          | inr differs ↦ subst (λ (n : ℕ). 0 < n) (sym (Refs.refs-less-other frame count l.frame.0 v.refs differs)) was
        ]

    bounded : IsBounded layout (holdings_of v)
    bounded = h.frames.holdings.bounded seat (holdings_of v) (at_map holdings_of views seat v given.me)

    -- the last references: all of the view's, and the frame has no others
    all-mine : count_of (slice_index w.frames frame.0) ≡ count → refs_on frame.0 v.refs ≡ count
    all-mine last = omega (arith, has, mine, balance, last)

    few-less : (b : Bool) → is_last count (slice_index w.frames frame.0) ≡ b → v.reserved + length (cond b (v.hands ++ hand_found frame (slice_index w.frames frame.0) ∷ []) v.hands) + length (less_refs frame count v.refs) ≤ 2
    few-less true e =
        let few : frames_held (holdings_of v) ≤ 2 = bounded.few in
        let one : length (less_refs frame count v.refs) + 1 ≤ length v.refs = Refs.length-less-all frame count v.refs some (all-mine (eqb-true (count_of (slice_index w.frames frame.0)) count e)) in
        let more : length (v.hands ++ hand_found frame (slice_index w.frames frame.0) ∷ []) ≡ length v.hands + 1 = length-append v.hands (hand_found frame (slice_index w.frames frame.0) ∷ []) in
        omega arith
    few-less false e =
        let few : frames_held (holdings_of v) ≤ 2 = bounded.few in
        let no_longer : length (less_refs frame count v.refs) ≤ length v.refs = Refs.length-less frame count v.refs in
        omega arith

    bounded-less : IsBounded layout (record (holdings_of v) { refs = less_refs frame count v.refs; hands = cond (is_last count (slice_index w.frames frame.0)) (v.hands ++ hand_found frame (slice_index w.frames frame.0) ∷ []) v.hands })
    bounded-less = record {
      few = few-less (is_last count (slice_index w.frames frame.0)) refl;
      shares = λ g. elim (same-or g frame.0) [
        | inl same ↦ subst (λ (n : ℕ). refs_on n (less_refs frame count v.refs) ≤ length layout.trans + 2) (sym same) (let most : refs_on frame.0 v.refs ≤ length layout.trans + 2 = bounded.shares frame.0 in omega (arith, left))
        | inr differs ↦ subst (λ (n : ℕ). n ≤ length layout.trans + 2) (sym (Refs.refs-less-other frame count g v.refs differs)) (bounded.shares g)
      ];
    }

    held : List (List Ref × List FrameLock)
    held = map (λ (v : View). (v.refs, v.locks)) views

    -- with the last reference no view has the frame's lock
    no-lock : count_of (slice_index w.frames frame.0) ≡ count → (i : ℕ) (x : View) → slice_get views i ≡ Some x → locks_on frame.0 x.locks ≡ 0
    no-lock last i x is = elim (same-or i seat) [
      | inl same ↦
          let me_too : x ≡ v = same_Some x v (sym is ∙ ap (slice_get views) same ∙ given.me) in
          subst (λ (y : View). locks_on frame.0 y.locks ≡ 0) (sym me_too) (omega (arith, has, mine, balance, last))
      | inr differs ↦
          let two : refs_on frame.0 x.refs + refs_on frame.0 v.refs ≤ sum_by (refs_on frame.0) (map (λ (v : View). v.refs) views) = terms-le (refs_on frame.0) (map (λ (v : View). v.refs) views) i seat x.refs v.refs differs (at_map (λ (v : View). v.refs) views i x is) my_refs in
          let no_refs : refs_on frame.0 x.refs ≡ 0 = omega (arith, has, balance, last, two) in
          sum-zero (λ (l : FrameLock). from_bool (l.frame.0 == frame.0)) x.locks (λ j l e.
          let some_refs : 0 < refs_on l.frame.0 x.refs = (h.frames.frame_locks.known i (x.refs, x.locks) (at_map (λ (v : View). (v.refs, v.locks)) views i x is) j l e).referenced in
          ap from_bool (ne_eqb l.frame.0 frame.0 (λ same. absurd (omega (arith, no_refs, subst (λ (n : ℕ). 0 < refs_on n x.refs) same some_refs)))))
    ]

    unlocked : count_of (slice_index w.frames frame.0) ≡ count → lock_of (slice_index w.frames frame.0) ≡ 0
    unlocked last = sym (h.frames.frame_locks.one frame.0 (slice_index w.frames frame.0) there)
        ∙ sum-zero (λ (o : List Ref × List FrameLock). locks_on frame.0 o.1) held (λ i o e.
        let was : (x : View) × (slice_get views i ≡ Some x) × ((x.refs, x.locks) ≡ o) = map-was (λ (v : View). (v.refs, v.locks)) views i o e in
        subst (λ (o : List Ref × List FrameLock). locks_on frame.0 o.1 ≡ 0) was.2 (no-lock last i was.0 was.1))

    unowned : count_of (slice_index w.frames frame.0) ≡ count → owner_of (slice_index w.frames frame.0) ≡ 0
    unowned last = elim (same-or (owner_of (slice_index w.frames frame.0)) 0) [
      | inl none ↦ none
      | inr some_owner ↦
          let page : owner_of (slice_index w.frames frame.0) ≡ (owner_of (slice_index w.frames frame.0) - 1) + 1 = omega (arith, some_owner) in
          elim (h.pages.caches.named frame.0 (slice_index w.frames frame.0) (owner_of (slice_index w.frames frame.0) - 1) there page) [
            | inl cached ↦
                let one : from_bool (frame.0 + 1 == frame.0 + 1) ≤ named frame.0 w.caches = term-le (λ (x : ℕ). from_bool (x == frame.0 + 1)) w.caches (owner_of (slice_index w.frames frame.0) - 1) (frame.0 + 1) cached in
                let is_one : from_bool (frame.0 + 1 == frame.0 + 1) ≡ 1 = ap from_bool (same-number (frame.0 + 1) (frame.0 + 1) refl) in
                absurd (omega (arith, has, mine, balance, last, one, is_one))
            | inr both ↦
                let was : (x : View) × (slice_get views both.0 ≡ Some x) × ((x.locks, x.pages) ≡ both.1) = map-was (λ (v : View). (v.locks, v.pages)) views both.0 both.1 both.2 in
                let holds : HoldsBoth frame.0 (owner_of (slice_index w.frames frame.0) - 1) (was.0.locks, was.0.pages) = subst (HoldsBoth frame.0 (owner_of (slice_index w.frames frame.0) - 1)) (sym was.2) both.3 in
                absurd (omega (arith, no-lock last both.0 was.0 was.1, holds.frame))
          ]
    ]

    bare : count_of (slice_index w.frames frame.0) ≡ count → IsBare (slice_index w.frames frame.0)
    bare last = record { unowned = unowned last; unlocked = unlocked last; unhandled = omega (arith, has, mine, balance, last) }

    hands : List (List FrameInHand)
    hands = map (λ (v : View). v.hands) views

    hand-moved : (g : ℕ) (mine' : List FrameInHand) → in_hand g (set (map (λ (v : View). v.hands) views) seat mine') + sum_by (λ (x : FrameInHand). from_bool (x.frame.0 == g)) v.hands ≡ in_hand g (map (λ (v : View). v.hands) views) + sum_by (λ (x : FrameInHand). from_bool (x.frame.0 == g)) mine'
    hand-moved g mine' = sum-set (sum_by (λ (x : FrameInHand). from_bool (x.frame.0 == g))) (map (λ (v : View). v.hands) views) seat v.hands mine' (at_map (λ (v : View). v.hands) views seat v given.me)

    pushed : (g : ℕ) → sum_by (λ (x : FrameInHand). from_bool (x.frame.0 == g)) (v.hands ++ hand_found frame (slice_index w.frames frame.0) ∷ []) ≡ sum_by (λ (x : FrameInHand). from_bool (x.frame.0 == g)) v.hands + from_bool (frame.0 == g)
    pushed g = sum_by_push (λ (x : FrameInHand). from_bool (x.frame.0 == g)) v.hands (hand_found frame (slice_index w.frames frame.0))

    placed-at : (b : Bool) → is_last count (slice_index w.frames frame.0) ≡ b → HasOnePlace layout.kernel (set w.frames frame.0 now) w.frees (set (map (λ (v : View). v.hands) views) seat (cond b (v.hands ++ hand_found frame (slice_index w.frames frame.0) ∷ []) v.hands))
    placed-at true e = placed-again w.frames frame.0 found now there like layout.kernel w.frees hands (set hands seat (v.hands ++ hand_found frame (slice_index w.frames frame.0) ∷ [])) (omega (arith, some, enough))
        (λ g differs. omega (arith, hand-moved g (v.hands ++ hand_found frame (slice_index w.frames frame.0) ∷ []), pushed g, ap from_bool (ne_eqb frame.0 g (λ same. differs (sym same)))))
        (λ usable.
        let was : free_bit w.frees frame.0 + in_hand frame.0 (map (λ (v : View). v.hands) views) + min (count_of (slice_index w.frames frame.0)) 1 ≡ 1 = h.frames.places.placed frame.0 (slice_index w.frames frame.0) there usable in
        let count_is : count_of ((slice_index w.frames frame.0 + (2 ^ 64 - count * 16)) % 2 ^ 64) ≡ count_of (slice_index w.frames frame.0) - count = are.count in
        let last : count_of (slice_index w.frames frame.0) ≡ count = eqb-true (count_of (slice_index w.frames frame.0)) count e in
        let one : from_bool (frame.0 == frame.0) ≡ 1 = ap from_bool (same-number frame.0 frame.0 refl) in
        omega (arith, hand-moved frame.0 (v.hands ++ hand_found frame (slice_index w.frames frame.0) ∷ []), pushed frame.0, some))
        (λ one. bare-like found now like are.lock (bare (eqb-true (count_of (slice_index w.frames frame.0)) count e)))
        (like-handed-all w.frames frame.0 found now there like (set hands seat (v.hands ++ hand_found frame (slice_index w.frames frame.0) ∷ []))
        (each-set (EachMember (IsHanded w.frames)) hands seat (v.hands ++ hand_found frame (slice_index w.frames frame.0) ∷ [])
        (each-push (IsHanded w.frames) v.hands (hand_found frame (slice_index w.frames frame.0)) (record { word = slice_index w.frames frame.0; there = there; poisoned = λ e. e })
        (h.frames.places.handed seat v.hands (at_map (λ (v : View). v.hands) views seat v given.me)))
        h.frames.places.handed))
        h.frames.places
    placed-at false e = subst (HasOnePlace layout.kernel (set w.frames frame.0 now) w.frees) (sym (set_again hands seat v.hands (at_map (λ (v : View). v.hands) views seat v given.me)))
        (placed-again w.frames frame.0 found now there like layout.kernel w.frees hands hands (omega (arith, some, enough)) (λ g differs. refl)
        (λ usable.
        let was : free_bit w.frees frame.0 + in_hand frame.0 (map (λ (v : View). v.hands) views) + min (count_of (slice_index w.frames frame.0)) 1 ≡ 1 = h.frames.places.placed frame.0 (slice_index w.frames frame.0) there usable in
        let count_is : count_of ((slice_index w.frames frame.0 + (2 ^ 64 - count * 16)) % 2 ^ 64) ≡ count_of (slice_index w.frames frame.0) - count = are.count in
        let not_last : count_of (slice_index w.frames frame.0) ≢ count = eqb-false (count_of (slice_index w.frames frame.0)) count e in
        omega (arith, some, enough))
        (λ one. bare-like found now like are.lock (h.frames.places.idle frame.0 found there one))
        (like-handed-all w.frames frame.0 found now there like hands h.frames.places.handed) h.frames.places)

    placed : HasOnePlace layout.kernel (set w.frames frame.0 now) w.frees (set (map (λ (v : View). v.hands) views) seat (cond (is_last count (slice_index w.frames frame.0)) (v.hands ++ hand_found frame (slice_index w.frames frame.0) ∷ []) v.hands))
    placed = placed-at (is_last count (slice_index w.frames frame.0)) refl
