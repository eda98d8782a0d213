-- What a step leaves of the guard: only the lock of a frame or of a page that went leaves frames to be swept.
use Rattle.std.proofs.Common.{◌≡◌, ◌⊎◌, ℕ, ◌+◌, ◌<◌, ◌≤◌, ◌==◌, Bool, true, cond, List, [], ◌∷◌, ◌++◌, length, inl, inr, refl, sym, ap, ◌∙◌, subst, arith}
use Rattle.std.specs.Int.{from_bool}
use Rattle.hwp_core_rule.specs.hwp_geom.declared.Frame.{Frame}
use Rattle.hwp_core_rule.specs.hwp_geom.declared.Layout.{Layout}
use Rattle.hwp_core_rule.specs.hwp_geom.declared.Page.{Page}
use Rattle.hwp_core_rule.specs.declared.Rec.{Rec}
use Rattle.hwp_core_rule.specs.declared.Step.{Step}
use Rattle.hwp_core_rule.specs.declared.Step.TheVariants as steps
use Rattle.hwp_core_rule.specs.declared.View.{View}
use Rattle.hwp_core_rule.specs.Moves.{Told}
use Rattle.hwp_core_rule.specs.Steps.{goes}
use Rattle.hwp_core_rule.specs.Views.{locks_on, noted, view_after}
use Rattle.hwp_core_rule.proofs.Lists.{same-or, from_bool-other, from_bool-same}
use Rattle.hwp_table_words.specs.tlb.Caching.{Caching, upto_of}
use Rattle.hwp_table_words.specs.tlb.Rule.{frames_of, times}
use Rattle.hwp_table_words.specs.tlb.Steps.{IsGuarded, caching_after}
use Rattle.hwp_table_words.proofs.tlb.Guards.{guard-after, locks-once, locks-within}
use Rattle.hwp_table_words.proofs.tlb.LockSlots.{less, locks-after, locks_then}
use Rattle.hwp_table_words.proofs.tlb.LockTimes.{times-append, times-cons, times-frames}

-- a frame that is locked after a step was so before, or is the frame of the step
module _ (layout : Layout) (locks : List ℕ) (f : ℕ) (within : 0 < times f locks → f < layout.frames) where
  one-more : (frame : ℕ) → frame < layout.frames → 0 < times f (locks ++ frame ∷ []) → f < layout.frames
  one-more frame less some = elim (same-or f frame) [
    | inl same ↦ omega (arith, same, less)
    | inr other ↦
        let all : times f (locks ++ frame ∷ []) ≡ times f locks + times f (frame ∷ []) = times-append f locks (frame ∷ []) in
        let last : times f (frame ∷ []) ≡ from_bool (frame == f) + times f [] = times-cons f frame [] in
        let none : from_bool (frame == f) ≡ 0 = from_bool-other frame f (λ e. other (sym e)) in
        within (omega (arith, all, last, none, some))
  ]

module _ (layout : Layout) (r : Rec) (old new : View) (told : Told layout r old new) where
  -- the guard, but for the frames that are to be swept
  pub almost-guarded : (places : ℕ) (k : Caching) (locks : List ℕ) (Sweeps : ℕ → Type 0) → IsGuarded places old k
      → ((frame : Frame) → r.step ≡ steps.LockFrame frame → goes r.step r.found ≡ true → Sweeps frame.0)
      → ((page : Page) → r.step ≡ steps.LockPage page → goes r.step r.found ≡ true → (f : ℕ) → f < layout.frames → Sweeps f)
      → 0 < length new.pages → (f : ℕ) → 0 < locks_on f new.locks → Sweeps f ⊎ (places ≤ upto_of f (caching_after places r.step r.found locks k).cleared)
  almost-guarded places k locks Sweeps guarded by-frame by-page =
      subst (λ (v : View). 0 < length v.pages → (f : ℕ) → 0 < locks_on f v.locks → Sweeps f ⊎ (places ≤ upto_of f (caching_after places r.step r.found locks k).cleared)) (sym told.next)
      (guard-after layout r old k places locks Sweeps guarded (locks-once layout told.board told.rule told.seat old told.me) by-frame
      (λ page is went f listed. by-page page is went f (locks-within layout told.board told.rule told.seat old told.me f listed)))

  -- the frame whose lock was taken is listed
  pub lock-taken : (frame : Frame) → r.step ≡ steps.LockFrame frame → goes r.step r.found ≡ true → 0 < locks_on frame.0 new.locks
  lock-taken frame is went = subst (λ (n : ℕ). 0 < n) (sym (sym (times-frames frame.0 new.locks) ∙ ap (λ (v : View). times frame.0 (frames_of v.locks)) told.next ∙ ap (times frame.0) after)) more
    where
      after : frames_of (view_after layout r old).locks ≡ frames_of old.locks ++ frame.0 ∷ []
      after = locks-after layout r.who r.step r.found r.content (noted r.who old) ∙ ap (λ (u : Step). locks_then u r.found (frames_of old.locks)) is
          ∙ ap (λ (b : Bool). cond b (frames_of old.locks ++ frame.0 ∷ []) (frames_of old.locks)) (ap (λ (u : Step). goes u r.found) (sym is) ∙ went)

      more : 0 < times frame.0 (frames_of old.locks ++ frame.0 ∷ [])
      more =
          let all : times frame.0 (frames_of old.locks ++ frame.0 ∷ []) ≡ times frame.0 (frames_of old.locks) + times frame.0 (frame.0 ∷ []) = times-append frame.0 (frames_of old.locks) (frame.0 ∷ []) in
          let last : times frame.0 (frame.0 ∷ []) ≡ from_bool (frame.0 == frame.0) + times frame.0 [] = times-cons frame.0 frame.0 [] in
          let one : from_bool (frame.0 == frame.0) ≡ 1 = from_bool-same frame.0 frame.0 refl in
          omega (arith, all, last, one)
