-- The views that seats have: two seats have no view of one processor, and no lock of one frame.
use Rattle.std.proofs.Common.{◌≡◌, ◌≢◌, ℕ, suc, ◌+◌, ◌/◌, ◌^◌, ◌<◌, ◌≤◌, ◌==◌, List, [], ◌∷◌, Some, map, inl, inr, slice_get, refl, sym, ap, ◌∙◌, subst, arith}
use Rattle.std.proofs.lemmas.List.Sums.{sum_by-cons}
use Rattle.std.proofs.lemmas.Nat.{mod_below}
use Rattle.std.proofs.lemmas.Option.{slice_get_within}
use Rattle.std.specs.List.{sum_by}
use Rattle.std.specs.Int.{from_bool}
use Rattle.hwp_core_rule.specs.hwp_geom.declared.Layout.{Layout}
use Rattle.hwp_core_rule.specs.hwp_geom.Limits.{frame_limit}
use Rattle.hwp_core_rule.specs.hwp_words.Frames.{lock_of}
use Rattle.hwp_core_rule.specs.declared.FrameLock.{FrameLock}
use Rattle.hwp_core_rule.specs.declared.Ref.{Ref}
use Rattle.hwp_core_rule.specs.declared.State.{State}
use Rattle.hwp_core_rule.specs.declared.View.{View}
use Rattle.hwp_core_rule.specs.Lists.{EachMember}
use Rattle.hwp_core_rule.specs.parts.Locks.{IsLocked}
use Rattle.hwp_core_rule.specs.Rule.{Holds}
use Rattle.hwp_core_rule.specs.Views.{locks_on}
use Rattle.hwp_core_rule.specs.Words.{words_of}
use Rattle.hwp_core_rule.proofs.Lists.{same-or, at_map, each-map, sum-map, term-le, terms-le, from_bool-same, from_bool-other}
use Rattle.hwp_core_rule.proofs.MoveKeeps.{shaped}
use Rattle.hwp_table_words.specs.tlb.Caching.{Caching}
use Rattle.hwp_table_words.specs.tlb.Rule.{HaveViews, Seat, locks_in, times, views_for}
use Rattle.hwp_table_words.proofs.tlb.LockTimes.{some-listed}

-- a view that is there is counted
pub counted : (c : ℕ) (m : View) (mines : List (ℕ × View)) (i : ℕ) → slice_get mines i ≡ Some (c, m) → 0 < views_for c mines
counted c m mines i at =
    let less : from_bool (c == c) ≤ views_for c mines = term-le (λ (x : ℕ × View). from_bool (x.0 == c)) mines i (c, m) at in
    let one : from_bool (c == c) ≡ 1 = from_bool-same c c refl in
    omega (arith, less, one)

-- a lock that is listed is of a frame that the board has
listed-there : (f : ℕ) (frames : List ℕ) (refs : List Ref) (locks : List FrameLock) → EachMember (IsLocked frames refs) locks → 0 < locks_on f locks → (w : ℕ) × (slice_get frames f ≡ Some w)
listed-there f frames refs [] known some = absurd (omega (arith, some))
listed-there f frames refs (l ∷ ls) known some = elim (same-or l.frame.0 f) [
  | inl same ↦ ((known 0 l refl).word, ap (slice_get frames) (sym same) ∙ (known 0 l refl).there)
  | inr other ↦ listed-there f frames refs ls (λ i x e. known (suc i) x e) (later other)
]
  where
    later : l.frame.0 ≢ f → 0 < locks_on f ls
    later other =
        let all : locks_on f (l ∷ ls) ≡ from_bool (l.frame.0 == f) + locks_on f ls = sum_by-cons (λ (l : FrameLock). from_bool (l.frame.0 == f)) l ls in
        let none : from_bool (l.frame.0 == f) ≡ 0 = from_bool-other l.frame.0 f other in
        omega (arith, all, none, some)

module _ (layout : Layout) (s : State) (holds : Holds layout s) where
  abbrev frames : List ℕ
  frames = (words_of layout s.words).frames

  -- a frame whose lock a view lists is one of the board
  pub lock-there : (f i : ℕ) (v : View) → slice_get s.views i ≡ Some v → 0 < locks_on f v.locks → (w : ℕ) × (slice_get frames f ≡ Some w)
  lock-there f i v at some = listed-there f frames v.refs v.locks (holds.rule.frames.frame_locks.known i (v.refs, v.locks) (at_map (λ (v : View). (v.refs, v.locks)) s.views i v at)) some

  -- two views that list the lock of one frame are one
  pub lock-apart : (f i j : ℕ) (u v : View) → i ≢ j → slice_get s.views i ≡ Some u → slice_get s.views j ≡ Some v → 0 < locks_on f u.locks → 0 < locks_on f v.locks → ⊥
  lock-apart f i j u v other at_i at_j a b =
      let there = lock-there f i u at_i a in
      let one : sum_by (λ (h : List Ref × List FrameLock). locks_on f h.1) (map (λ (v : View). (v.refs, v.locks)) s.views) ≡ lock_of there.0 = holds.rule.frames.frame_locks.one f there.0 there.1 in
      let two : locks_on f u.locks + locks_on f v.locks ≤ sum_by (λ (h : List Ref × List FrameLock). locks_on f h.1) (map (λ (v : View). (v.refs, v.locks)) s.views) =
      terms-le (λ (h : List Ref × List FrameLock). locks_on f h.1) (map (λ (v : View). (v.refs, v.locks)) s.views) i j (u.refs, u.locks) (v.refs, v.locks) other
      (at_map (λ (v : View). (v.refs, v.locks)) s.views i u at_i) (at_map (λ (v : View). (v.refs, v.locks)) s.views j v at_j) in
      let small : lock_of there.0 < 2 ^ 1 = mod_below (there.0 / 2 ^ 0) (2 ^ 1) (omega arith) in
      omega (arith, one, two, small, a, b)

  module _ (seats : List Seat) (views : HaveViews s seats) where
    -- two seats have no view of one processor
    pub view-apart : (c i j : ℕ) (x y : Seat) → i ≢ j → slice_get seats i ≡ Some x → slice_get seats j ≡ Some y → 0 < views_for c x.0 → 0 < views_for c y.0 → ⊥
    view-apart c i j x y other at_i at_j a b =
        let two : views_for c x.0 + views_for c y.0 ≤ sum_by (λ (x : Seat). views_for c x.0) seats = terms-le (λ (x : Seat). views_for c x.0) seats i j x y other at_i at_j in
        let one : sum_by (λ (x : Seat). views_for c x.0) seats ≤ 1 = views.one_view c in
        omega (arith, a, b, two, one)

    -- two seats that have the lock of one frame are one
    pub seats-apart : (f i j : ℕ) (x y : Seat) → i ≢ j → slice_get seats i ≡ Some x → slice_get seats j ≡ Some y → 0 < times f (locks_in x.0) → 0 < times f (locks_in y.0) → ⊥
    seats-apart f i j x y other at_i at_j a b =
        let u = some-listed f x.0 a in
        let v = some-listed f y.0 b in
        let apart : u.1.0 ≢ v.1.0 = λ same. view-apart u.1.0 i j x y other at_i at_j (counted u.1.0 u.1.1 x.0 u.0 u.2) (counted u.1.0 v.1.1 y.0 v.0 (v.2 ∙ ap (λ (n : ℕ). Some (n, v.1.1)) (sym same))) in
        lock-apart f u.1.0 v.1.0 u.1.1 v.1.1 apart (views.mines i x at_i u.0 u.1 u.2) (views.mines j y at_j v.0 v.1 v.2) u.3 v.3

-- a lock that a seat has is of a frame, a number of 16 bits
pub listed-few : (layout : Layout) (s : State) → Holds layout s → (seats : List Seat) → HaveViews s seats → (f i : ℕ) (x : Seat) → slice_get seats i ≡ Some x → 0 < times f (locks_in x.0) → f < 2 ^ 16
listed-few layout s holds seats views f i x at some =
    let view = some-listed f x.0 some in
    let there = lock-there layout s holds f view.1.0 view.1.1 (views.mines i x at view.0 view.1 view.2) view.3 in
    let inside : f < layout.frames = subst (λ (n : ℕ). f < n) (shaped layout s holds).frames (slice_get_within (words_of layout s.words).frames f there.0 there.1) in
    let all : layout.frames ≤ frame_limit = holds.sound.frames in
    omega (arith, inside, all)

-- the views that seats have, where what a seat knows has other parts too
pub have-views : {A B : Type 0} (known : A → B) (mines : B → List (ℕ × View)) (caching : A → Caching) (s : State) (list : List A)
    → EachMember (λ (v : B). EachMember (λ (y : ℕ × View). slice_get s.views y.0 ≡ Some y.1) (mines v)) (map known list)
    → ((c : ℕ) → sum_by (λ (v : B). views_for c (mines v)) (map known list) ≤ 1)
    → HaveViews s (map (λ (a : A). (mines (known a), caching a)) list)
have-views {A} {B} known mines caching s list each one = record {
  mines = each-map (λ (a : A). (mines (known a), caching a)) (λ (x : Seat). EachMember (λ (y : ℕ × View). slice_get s.views y.0 ≡ Some y.1) x.0) list (λ i a e. each i (known a) (at_map known list i a e));
  one_view = λ c. subst (λ (n : ℕ). n ≤ 1) (sum-map (λ (v : B). views_for c (mines v)) known list ∙ sym (sum-map (λ (x : Seat). views_for c x.0) (λ (a : A). (mines (known a), caching a)) list)) (one c);
}
