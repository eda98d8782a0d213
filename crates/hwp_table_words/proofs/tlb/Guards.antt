-- The guard after a step: only the lock of a frame or of a page leaves frames of which a seat doesn't know that no entry names them.
use Rattle.std.proofs.Common.{◌≡◌, ◌≢◌, ◌⊎◌, ℕ, zero, suc, ◌+◌, ◌-◌, ◌/◌, ◌^◌, ◌<◌, ◌≤◌, ◌==◌, ◌&&◌, nat_lt, Bool, true, false, cond, max, List, [], ◌∷◌, ◌++◌, Some, None, map, length, slice_get, inl, inr, refl, sym, ap, ◌∙◌, subst, arith}
use Rattle.std.specs.List.{sum_by}
use Rattle.std.specs.Int.{from_bool}
use Rattle.std.proofs.lemmas.Bool.{lt-ltb}
use Rattle.std.proofs.lemmas.List.{length-map}
use Rattle.std.proofs.lemmas.Nat.{mod_below}
use Rattle.std.proofs.lemmas.Option.{slice_get_within}
use Rattle.hwp_core_rule.specs.hwp_geom.declared.Frame.{Frame}
use Rattle.hwp_core_rule.specs.hwp_geom.declared.Layout.{Layout}
use Rattle.hwp_core_rule.specs.hwp_geom.declared.Page.{Page}
use Rattle.hwp_core_rule.specs.hwp_geom.declared.VSlot.{VSlot}
use Rattle.hwp_core_rule.specs.hwp_words.Frames.{lock_of}
use Rattle.hwp_core_rule.specs.declared.FrameLock.{FrameLock}
use Rattle.hwp_core_rule.specs.declared.PageLock.{PageLock}
use Rattle.hwp_core_rule.specs.declared.Rec.{Rec}
use Rattle.hwp_core_rule.specs.declared.Ref.{Ref}
use Rattle.hwp_core_rule.specs.declared.SharedWord.TheVariants as places
use Rattle.hwp_core_rule.specs.declared.State.{State}
use Rattle.hwp_core_rule.specs.declared.Step.{Step}
use Rattle.hwp_core_rule.specs.declared.Step.TheVariants as steps
use Rattle.hwp_core_rule.specs.declared.View.{View}
use Rattle.hwp_core_rule.specs.Rule.{Holds}
use Rattle.hwp_core_rule.specs.Steps.{goes}
use Rattle.hwp_core_rule.specs.Views.{locks_on, noted, view_after}
use Rattle.hwp_core_rule.specs.Words.{words_of}
use Rattle.hwp_core_rule.proofs.Lists.{at_map, same-or, term-le, from_bool-other}
use Rattle.hwp_core_rule.proofs.MoveKeeps.{shaped}
use Rattle.hwp_table_words.specs.tlb.Caching.{Caching, Cleared, upto_of, with_upto, without_frame}
use Rattle.hwp_table_words.specs.tlb.Rule.{frames_of, times}
use Rattle.hwp_table_words.specs.tlb.Steps.{IsGuarded, caching_after, cleared_after, shown_after}
use Rattle.hwp_table_words.proofs.tlb.CachingLaws.{upto-gone, upto-grows, upto-raised}
use Rattle.hwp_table_words.proofs.tlb.LockSlots.{less, locks-after, locks_then, pages-after, pages_of, pages_then}
use Rattle.hwp_table_words.proofs.tlb.LockTimes.{times-append, times-cons, times-frames}
use Rattle.hwp_table_words.proofs.tlb.SeatViews.{lock-there}

-- a view lists the lock of a frame at most once
pub locks-once : (layout : Layout) (s : State) → Holds layout s → (c : ℕ) (v : View) → slice_get s.views c ≡ Some v → (f : ℕ) → locks_on f v.locks ≤ 1
locks-once layout s holds c v at f = which (locks_on f v.locks) refl
  where
    which : (n : ℕ) → locks_on f v.locks ≡ n → locks_on f v.locks ≤ 1
    which zero is = omega (arith, is)
    which (suc n) is =
        let there = lock-there layout s holds f c v at (omega (arith, is)) in
        let one : sum_by (λ (h : List Ref × List FrameLock). locks_on f h.1) (map (λ (v : View). (v.refs, v.locks)) s.views) ≡ lock_of there.0 = holds.rule.frames.frame_locks.one f there.0 there.1 in
        let mine : locks_on f v.locks ≤ sum_by (λ (h : List Ref × List FrameLock). locks_on f h.1) (map (λ (v : View). (v.refs, v.locks)) s.views) =
        term-le (λ (h : List Ref × List FrameLock). locks_on f h.1) (map (λ (v : View). (v.refs, v.locks)) s.views) c (v.refs, v.locks) (at_map (λ (v : View). (v.refs, v.locks)) s.views c v at) in
        let small : lock_of there.0 < 2 ^ 1 = mod_below (there.0 / 2 ^ 0) (2 ^ 1) (omega arith) in
        omega (arith, one, mine, small)

-- and so only of frames of the layout
pub locks-within : (layout : Layout) (s : State) → Holds layout s → (c : ℕ) (v : View) → slice_get s.views c ≡ Some v → (f : ℕ) → 0 < locks_on f v.locks → f < layout.frames
locks-within layout s holds c v at f some =
    let there = lock-there layout s holds f c v at some in
    subst (λ (n : ℕ). f < n) (shaped layout s holds).frames (slice_get_within (words_of layout s.words).frames f there.0 there.1)

-- a load of a translation that leads to a frame whose lock is listed shows it
pub shown-load : (slot : VSlot) (found f : ℕ) (locks : List ℕ) → found ≡ f + 1 → 0 < times f locks → shown_after (steps.Load (places.Trans slot)) found locks ≡ Some (record { slot = slot.0; frame = f })
shown-load slot found f locks is listed =
    let frame : found - 1 ≡ f = omega (arith, is) in
    ap (λ (b : Bool). cond (b && nat_lt 0 (times (found - 1) locks)) (Some (record { slot = slot.0; frame = found - 1 })) None) (lt-ltb 0 found (omega (arith, is)))
    ∙ ap (λ (n : ℕ). cond (nat_lt 0 (times n locks)) (Some (record { slot = slot.0; frame = n })) None) frame
    ∙ ap (λ (b : Bool). cond b (Some (record { slot = slot.0; frame = f })) None) (lt-ltb 0 (times f locks) listed)

-- a number that a list has once, and then no more
less-gone : (f : ℕ) (list : List ℕ) → times f list ≤ 1 → times f (less f list) ≡ 0
less-gone f [] once = refl
less-gone f (x ∷ xs) once = which (x == f) refl (less-gone f xs)
  where
    all : times f (x ∷ xs) ≡ from_bool (x == f) + times f xs
    all = times-cons f x xs

    which : (b : Bool) → (x == f) ≡ b → (times f xs ≤ 1 → times f (less f xs) ≡ 0) → times f (cond b xs (x ∷ less f xs)) ≡ 0
    which true is rest = let one : from_bool (x == f) ≡ 1 = ap from_bool is in omega (arith, all, one, once)
    which false isnt rest =
        let none : from_bool (x == f) ≡ 0 = ap from_bool isnt in
        let then : times f (x ∷ less f xs) ≡ from_bool (x == f) + times f (less f xs) = times-cons f x (less f xs) in
        let gone : times f (less f xs) ≡ 0 = rest (omega (arith, all, once)) in
        omega (arith, none, then, gone)

pub less-times : (f g : ℕ) (list : List ℕ) → times f (less g list) ≤ times f list
less-times f g [] = omega arith
less-times f g (x ∷ xs) = which (x == g) (less-times f g xs)
  where
    all : times f (x ∷ xs) ≡ from_bool (x == f) + times f xs
    all = times-cons f x xs

    which : (b : Bool) → times f (less g xs) ≤ times f xs → times f (cond b xs (x ∷ less g xs)) ≤ times f (x ∷ xs)
    which true rest = omega (arith, all)
    which false rest = let then : times f (x ∷ less g xs) ≡ from_bool (x == f) + times f (less g xs) = times-cons f x (less g xs) in omega (arith, all, then, rest)

less-length : (g : ℕ) (list : List ℕ) → length (less g list) ≤ length list
less-length g [] = omega arith
less-length g (x ∷ xs) = which (x == g) (less-length g xs)
  where
    which : (b : Bool) → length (less g xs) ≤ length xs → length (cond b xs (x ∷ less g xs)) ≤ suc (length xs)
    which true rest = omega arith
    which false rest = omega (arith, rest)

-- of the frames that are locked then, with a page, each is to be swept or was guarded
module _ (all-places : ℕ) (locks pages : List ℕ) (list : List Cleared) (guarded : 0 < length pages → (f : ℕ) → 0 < times f locks → all-places ≤ upto_of f list) (once : (f : ℕ) → times f locks ≤ 1) (Sweeps : ℕ → Type 0) where
  abbrev Guarded : Step → ℕ → Type 0
  Guarded step found = 0 < length (pages_then step found pages) → (f : ℕ) → 0 < times f (locks_then step found locks) → Sweeps f ⊎ (all-places ≤ upto_of f (cleared_after all-places step list))

  was : 0 < length pages → (f : ℕ) → 0 < times f locks → Sweeps f ⊎ (all-places ≤ upto_of f list)
  was some f listed = inr (guarded some f listed)

  freed : (frame : ℕ) → 0 < length pages → (f : ℕ) → 0 < times f (less frame locks) → Sweeps f ⊎ (all-places ≤ upto_of f (without_frame frame list))
  freed frame some f listed = elim (same-or f frame) [
    | inl same ↦ absurd (let gone : times f (less frame locks) ≡ 0 = ap (λ (n : ℕ). times n (less frame locks)) same ∙ less-gone frame locks (once frame) in omega (arith, gone, listed))
    | inr other ↦
        let less-now : times f (less frame locks) ≤ times f locks = less-times f frame locks in
        let now : all-places ≤ upto_of f list = guarded some f (omega (arith, less-now, listed)) in
        inr (subst (λ (n : ℕ). all-places ≤ n) (sym (upto-gone frame f list other)) now)
  ]

  one-more : (frame f : ℕ) → f ≢ frame → times f (locks ++ frame ∷ []) ≡ times f locks
  one-more frame f other =
      let all : times f (locks ++ frame ∷ []) ≡ times f locks + times f (frame ∷ []) = times-append f locks (frame ∷ []) in
      let last : times f (frame ∷ []) ≡ from_bool (frame == f) + times f [] = times-cons f frame [] in
      let none : from_bool (frame == f) ≡ 0 = from_bool-other frame f (λ e. other (sym e)) in
      omega (arith, all, last, none)

  guard-then : (step : Step) (found : ℕ) → ((frame : Frame) → step ≡ steps.LockFrame frame → goes step found ≡ true → Sweeps frame.0)
      → ((page : Page) → step ≡ steps.LockPage page → goes step found ≡ true → (f : ℕ) → 0 < times f locks → Sweeps f) → Guarded step found
  guard-then (steps.Adopt frame) found by-frame by-page some f listed = elim (same-or f frame.0) [
    | inl same ↦ inr (let now : upto_of f (with_upto frame.0 all-places list) ≡ max (upto_of frame.0 list) all-places = ap (λ (n : ℕ). upto_of n (with_upto frame.0 all-places list)) same ∙ upto-raised frame.0 all-places list in omega (arith, now))
    | inr other ↦
        let now : all-places ≤ upto_of f list = guarded some f (subst (λ (n : ℕ). 0 < n) (one-more frame.0 f other) listed) in
        let grows : upto_of f list ≤ upto_of f (with_upto frame.0 all-places list) = upto-grows frame.0 f all-places list in
        inr (omega (arith, now, grows))
  ]
  guard-then (steps.LockFrame frame) found by-frame by-page some f listed = which (goes (steps.LockFrame frame) found) refl listed
    where
      which : (b : Bool) → goes (steps.LockFrame frame) found ≡ b → 0 < times f (cond b (locks ++ frame.0 ∷ []) locks) → Sweeps f ⊎ (all-places ≤ upto_of f list)
      which true is now = elim (same-or f frame.0) [
        | inl same ↦ inl (subst Sweeps (sym same) (by-frame frame refl is))
        | inr other ↦ was some f (subst (λ (n : ℕ). 0 < n) (one-more frame.0 f other) now)
      ]
      which false isnt now = was some f now
  guard-then (steps.UnlockFrame frame) found by-frame by-page some f listed = freed frame.0 some f listed
  guard-then (steps.Retire frame) found by-frame by-page some f listed = freed frame.0 some f listed
  guard-then (steps.LockPage page) found by-frame by-page some f listed = which (goes (steps.LockPage page) found) refl some
    where
      which : (b : Bool) → goes (steps.LockPage page) found ≡ b → 0 < length (cond b (pages ++ page.0 ∷ []) pages) → Sweeps f ⊎ (all-places ≤ upto_of f list)
      which true is now = inl (by-page page refl is f listed)
      which false isnt now = was now f listed
  guard-then (steps.UnlockPage page) found by-frame by-page some f listed = was (let fewer : length (less page.0 pages) ≤ length pages = less-length page.0 pages in omega (arith, fewer, some)) f listed
  guard-then step found by-frame by-page some f listed = was some f listed

-- so it is of a view that was guarded
pub guard-after : (layout : Layout) (r : Rec) (v : View) (k : Caching) (all-places : ℕ) (locks : List ℕ) (Sweeps : ℕ → Type 0) → IsGuarded all-places v k → ((f : ℕ) → locks_on f v.locks ≤ 1)
    → ((frame : Frame) → r.step ≡ steps.LockFrame frame → goes r.step r.found ≡ true → Sweeps frame.0)
    → ((page : Page) → r.step ≡ steps.LockPage page → goes r.step r.found ≡ true → (f : ℕ) → 0 < locks_on f v.locks → Sweeps f)
    → 0 < length (view_after layout r v).pages → (f : ℕ) → 0 < locks_on f (view_after layout r v).locks → Sweeps f ⊎ (all-places ≤ upto_of f (caching_after all-places r.step r.found locks k).cleared)
guard-after layout r v k all-places locks Sweeps guarded once by-frame by-page some f listed =
    guard-then all-places (frames_of v.locks) (pages_of v.pages) k.cleared before (λ f. subst (λ (n : ℕ). n ≤ 1) (sym (times-frames f v.locks)) (once f)) Sweeps r.step r.found by-frame
    (λ page is went f listed. by-page page is went f (subst (λ (n : ℕ). 0 < n) (times-frames f v.locks) listed)) pages-now f locks-now
  where
    before : 0 < length (pages_of v.pages) → (f : ℕ) → 0 < times f (frames_of v.locks) → all-places ≤ upto_of f k.cleared
    before some f listed = guarded (subst (λ (n : ℕ). 0 < n) (length-map v.pages (λ (l : PageLock). l.page.0)) some) f (subst (λ (n : ℕ). 0 < n) (times-frames f v.locks) listed)

    pages-now : 0 < length (pages_then r.step r.found (pages_of v.pages))
    pages-now = subst (λ (n : ℕ). 0 < n) (sym (length-map (view_after layout r v).pages (λ (l : PageLock). l.page.0)) ∙ ap (λ (l : List ℕ). length l) (pages-after layout r.who r.step r.found r.content (noted r.who v))) some

    locks-now : 0 < times f (locks_then r.step r.found (frames_of v.locks))
    locks-now = subst (λ (n : ℕ). 0 < n) (sym (times-frames f (view_after layout r v).locks) ∙ ap (times f) (locks-after layout r.who r.step r.found r.content (noted r.who v))) listed
