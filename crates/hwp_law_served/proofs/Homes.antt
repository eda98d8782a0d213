-- A body at home is of a page of the layout.
use Rattle.std.proofs.Common.{◌≡◌, ℕ, zero, suc, ◌+◌, ◌-◌, ◌<◌, ◌≤◌, ◌==◌, ◌⊎◌, Bool, true, false, not, cond, List, [], ◌∷◌, Some, None, length, map, slice_get, refl, sym, ap, ◌∙◌, subst, arith, inl, inr}
use Rattle.std.specs.List.{sum_by}
use Rattle.std.proofs.lemmas.Bool.{cases_lt}
use Rattle.std.proofs.lemmas.Option.{none-some, same_Some, slice_get_within}
use Rattle.hwp_law.specs.hwp_geom.declared.Layout.{Layout}
use Rattle.hwp_plain.specs.hwp_words.Frames.{is_locked, lock_of, owner_of}
use Rattle.hwp_plain.specs.hwp_core_rule.declared.FrameLock.{FrameLock}
use Rattle.hwp_plain.specs.hwp_core_rule.declared.Log.{Log}
use Rattle.hwp_plain.specs.hwp_core_rule.declared.Ref.{Ref}
use Rattle.hwp_plain.specs.hwp_core_rule.declared.State.{State}
use Rattle.hwp_plain.specs.hwp_core_rule.declared.View.{View}
use Rattle.hwp_plain.specs.hwp_core_rule.Rule.{Holds}
use Rattle.hwp_plain.specs.hwp_core_rule.Views.{locks_on}
use Rattle.hwp_plain.specs.hwp_core_rule.Words.{Words, words_of}
use Rattle.hwp_plain.specs.hwp_core_rule.parts.Bodies.{IsAtHome, content_name}
use Rattle.hwp_plain.specs.hwp_core_rule.parts.Owners.{HoldsBoth}
use Rattle.hwp_plain.proofs.of_hwp_core_rule.Keeps.{IsShaped}
use Rattle.hwp_plain.proofs.of_hwp_core_rule.Lists.{at_map, map-was, term-le}
use Rattle.hwp_plain.proofs.of_hwp_core_rule.MetWords.{free-word, held-word}
use Rattle.hwp_plain.proofs.of_hwp_core_rule.MoveKeeps.{shaped}

-- a member of a list at a place within it
pub there-is : {A : Type 0} (list : List A) (i : ℕ) → i < length list → (x : A) × (slice_get list i ≡ Some x)
there-is [] i within = absurd (omega arith)
there-is (x ∷ xs) zero within = (x, refl)
there-is (x ∷ xs) (suc i) within = there-is xs i (omega arith)

module _ (layout : Layout) (s : State) (h : Holds layout s) (log : Log) where
  abbrev w : Words
  w = words_of layout s.words

  shape : IsShaped layout (words_of layout s.words) s.homes
  shape = shaped layout s h

  -- the content of an unlocked slot is the one that is there
  named : (slot name : ℕ) → slice_get s.homes slot ≡ Some (Some (Some log)) → IsAtHome s.homes slot name → log.page.0 + 1 ≡ name
  named slot name there home =
      let same : home.content ≡ Some log = same_Some home.content (Some log) (same_Some (Some home.content) (Some (Some log)) (sym home.there ∙ there)) in
      sym (ap content_name same) ∙ home.named

  not-out : (slot : ℕ) → slice_get s.homes slot ≡ Some (Some (Some log)) → slice_get s.homes slot ≡ Some None → ⊥
  not-out slot there out = none-some (Some log) (same_Some None (Some (Some log)) (sym out ∙ there))

  -- in a frame
  in-frame : (slot : ℕ) → slot < layout.frames → slice_get s.homes slot ≡ Some (Some (Some log)) → log.page.0 < length layout.pages
  in-frame slot inside there = by-lock (not (is_locked word.0)) refl
    where
      word : (x : ℕ) × (slice_get (words_of layout s.words).frames slot ≡ Some x)
      word = there-is (words_of layout s.words).frames slot (subst (λ (n : ℕ). slot < n) (sym shape.frames) inside)

      cached : lock_of word.0 ≡ 0 → owner_of word.0 ≡ log.page.0 + 1 → slice_get (words_of layout s.words).caches log.page.0 ≡ Some (slot + 1)
      cached free owner = elim (h.rule.pages.caches.named slot word.0 log.page.0 word.1 owner) [
        | inl is ↦ is
        | inr both ↦
            let was : (x : View) × (slice_get s.views both.0 ≡ Some x) × ((x.locks, x.pages) ≡ both.1) = map-was (λ (v : View). (v.locks, v.pages)) s.views both.0 both.1 both.2 in
            let holds : HoldsBoth slot log.page.0 (was.0.locks, was.0.pages) = subst (HoldsBoth slot log.page.0) (sym was.2) both.3 in
            let one : sum_by (λ (o : List Ref × List FrameLock). locks_on slot o.1) (map (λ (v : View). (v.refs, v.locks)) s.views) ≡ lock_of word.0 = h.rule.frames.frame_locks.one slot word.0 word.1 in
            let term : locks_on slot was.0.locks ≤ sum_by (λ (o : List Ref × List FrameLock). locks_on slot o.1) (map (λ (v : View). (v.refs, v.locks)) s.views) =
            term-le (λ (o : List Ref × List FrameLock). locks_on slot o.1) (map (λ (v : View). (v.refs, v.locks)) s.views) both.0 (was.0.refs, was.0.locks) (at_map (λ (v : View). (v.refs, v.locks)) s.views both.0 was.0 was.1) in
            absurd (omega (arith, holds.frame, free))
      ]

      by-lock : (b : Bool) → not (is_locked word.0) ≡ b → log.page.0 < length layout.pages
      by-lock true free =
          let unlocked : lock_of word.0 ≡ 0 = free-word word.0 free in
          let owner : log.page.0 + 1 ≡ owner_of word.0 = named slot (owner_of word.0) there (h.rule.pages.bodies.frame_home slot word.0 word.1 unlocked) in
          subst (λ (n : ℕ). log.page.0 < n) shape.caches (slice_get_within (words_of layout s.words).caches log.page.0 (slot + 1) (cached unlocked (sym owner)))
      by-lock false held = absurd (not-out slot there (h.rule.pages.bodies.frame_out slot word.0 word.1 (held-word word.0 held)))

  -- on a shelf
  on-shelf : (q : ℕ) → q < length layout.pages → slice_get s.homes (layout.frames + q) ≡ Some (Some (Some log)) → log.page.0 < length layout.pages
  on-shelf q inside there = by-lock (not (is_locked word.0)) refl
    where
      word : (x : ℕ) × (slice_get (words_of layout s.words).pages q ≡ Some x)
      word = there-is (words_of layout s.words).pages q (subst (λ (n : ℕ). q < n) (sym shape.pages) inside)

      cache : (x : ℕ) × (slice_get (words_of layout s.words).caches q ≡ Some x)
      cache = there-is (words_of layout s.words).caches q (subst (λ (n : ℕ). q < n) (sym shape.caches) inside)

      by-name : (b : Bool) → log.page.0 + 1 ≡ cond b (q + 1) 0 → log.page.0 < length layout.pages
      by-name true is = omega (arith, inside)
      by-name false is = absurd (omega arith)

      by-lock : (b : Bool) → not (is_locked word.0) ≡ b → log.page.0 < length layout.pages
      by-lock true free = by-name (cache.0 == 0) (named (layout.frames + q) (cond (cache.0 == 0) (q + 1) 0) there (h.rule.pages.bodies.shelf_home q word.0 cache.0 word.1 cache.1 (free-word word.0 free)))
      by-lock false held = absurd (not-out (layout.frames + q) there (h.rule.pages.bodies.shelf_out q word.0 word.1 (held-word word.0 held)))

  pub home-within : (slot : ℕ) → slice_get s.homes slot ≡ Some (Some (Some log)) → log.page.0 < length layout.pages
  home-within slot there = elim (below slot layout.frames) [
    | inl inside ↦ in-frame slot inside there
    | inr past ↦
        let all : slot < length s.homes = slice_get_within s.homes slot (Some (Some log)) there in
        let slots : length s.homes ≡ layout.frames + length layout.pages = h.slots in
        let at : layout.frames + (slot - layout.frames) ≡ slot = omega arith in
        on-shelf (slot - layout.frames) (omega arith) (ap (slice_get s.homes) at ∙ there)
  ]
    where
      below : (n k : ℕ) → (n < k) ⊎ (k ≤ n)
      below n k = cases_lt n k
