-- The parts of the rule under a change of a frame's word that leaves its poison, owner and cycle: references and the lock.
use Rattle.std.proofs.Common.{◌≡◌, ◌≢◌, ℕ, ◌+◌, ◌<◌, ◌==◌, min, Bool, false, List, Some, set, slice_get, inl, inr, refl, sym, ap, ◌∙◌, subst, arith, map}
use Rattle.std.proofs.lemmas.Option.{same_Some}
use Rattle.std.specs.List.{sum_by}
use Rattle.hwp_page.specs.hwp_geom.declared.Layout.{Layout}
use Rattle.hwp_page.specs.hwp_geom.declared.TransDecl.{TransDecl}
use Rattle.hwp_words.specs.Frames.{lock_of, poison_of, handled_of, kernel_of, count_of, owner_of, cycle_of, is_kernel}
use Rattle.hwp_words.proofs.FrameSteps.{FieldsAre}
use Rattle.hwp_core_rule.specs.declared.view.FrameLock.{FrameLock}
use Rattle.hwp_core_rule.specs.declared.view.PageLock.{PageLock}
use Rattle.hwp_core_rule.specs.declared.view.Ref.{Ref}
use Rattle.hwp_core_rule.specs.Lists.{Homes, EachMember, EachListed}
use Rattle.hwp_core_rule.specs.Views.{refs_on, locks_on}
use Rattle.hwp_core_rule.specs.Words.{free_bit}
use Rattle.hwp_core_rule.specs.parts.Counts.{CountsBalance, named}
use Rattle.hwp_core_rule.specs.parts.Handled.{HandledIsPoisoned, IsOutOfUse}
use Rattle.hwp_core_rule.specs.parts.Locks.{FrameLocksHeld, IsLocked}
use Rattle.hwp_core_rule.specs.parts.Owners.{TranslationsOwned, CacheWordsOwned}
use Rattle.hwp_core_rule.specs.parts.Places.{HasOnePlace, IsBare, in_hand, IsHanded}
use Rattle.hwp_core_rule.proofs.FrameFields.{translations-kept, caches-kept, bodies-kept, handed-kept, placed-kept, failures-kept}
use Rattle.hwp_core_rule.proofs.Lists.{at_set, set_here, set_else, same-or, sum-set, each-set, each-weaken}
use Rattle.hwp_core_rule.specs.declared.view.FrameInHand.{FrameInHand}
use Rattle.hwp_core_rule.specs.Rule.{PageParts, FailureParts, holder_of}
use Rattle.hwp_core_rule.specs.declared.view.View.{View}

-- the words differ at most in their count and their lock
pub record IsLike (w u : ℕ) : Type 0 where
  pub poison : poison_of u ≡ poison_of w
  pub handled : handled_of u ≡ handled_of w
  pub kernel : kernel_of u ≡ kernel_of w
  pub owner : owner_of u ≡ owner_of w
  pub cycle : cycle_of u ≡ cycle_of w

like-self : (w : ℕ) → IsLike w w
like-self w = record { poison = refl; handled = refl; kernel = refl; owner = refl; cycle = refl }

pub like-fields : (w u lock' count' : ℕ) → FieldsAre u lock' (poison_of w) (handled_of w) (kernel_of w) count' (owner_of w) (cycle_of w) → IsLike w u
like-fields w u lock' count' are = record { poison = are.poison; handled = are.handled; kernel = are.kernel; owner = are.owner; cycle = are.cycle }

pub bare-like : (w u : ℕ) → IsLike w u → lock_of u ≡ lock_of w → IsBare w → IsBare u
bare-like w u like lock bare = record { unowned = like.owner ∙ bare.unowned; unlocked = lock ∙ bare.unlocked; unhandled = like.handled ∙ bare.unhandled }

-- the word w of frame f becomes u
module _ (frames : List ℕ) (f w u : ℕ) (there : slice_get frames f ≡ Some w) (like : IsLike w u) where
  -- what was there before
  pub word-was : (g x : ℕ) → slice_get (set frames f u) g ≡ Some x → (y : ℕ) × (slice_get frames g ≡ Some y) × IsLike y x
  word-was g x e = elim (at_set frames f g u x e) [
    | inl t ↦ (w, ap (slice_get frames) t.0 ∙ there, subst (IsLike w) t.1 like)
    | inr t ↦ (x, t.1, like-self x)
  ]

  pub word-is : (g y : ℕ) → slice_get frames g ≡ Some y → (x : ℕ) × (slice_get (set frames f u) g ≡ Some x) × IsLike y x
  word-is g y e = elim (same-or g f) [
    | inl same ↦ (u, ap (slice_get (set frames f u)) same ∙ set_here frames f u w there, subst (λ (z : ℕ). IsLike z u) (same_Some w y (sym there ∙ ap (slice_get frames) (sym same) ∙ e)) like)
    | inr differs ↦ (y, set_else frames f g u differs ∙ e, like-self y)
  ]

  pub like-translations : (decls : List TransDecl) (trans : List ℕ) → TranslationsOwned decls frames trans → TranslationsOwned decls (set frames f u) trans
  like-translations = translations-kept frames f w u there like.owner

  pub like-caches : (caches : List ℕ) (locks : List (List FrameLock × List PageLock)) → CacheWordsOwned frames caches locks → CacheWordsOwned (set frames f u) caches locks
  like-caches = caches-kept frames f w u there like.owner

  like-handled : HandledIsPoisoned frames → HandledIsPoisoned (set frames f u)
  like-handled h = record {
    out = λ g x a is.
        let was : (y : ℕ) × (slice_get frames g ≡ Some y) × IsLike y x = word-was g x a in
        let out : IsOutOfUse was.0 = h.out g was.0 was.1 (sym was.2.handled ∙ is) in
        record { poisoned = was.2.poison ∙ out.poisoned; unowned = was.2.owner ∙ out.unowned };
  }

  -- a listed lock is still known
  pub like-locked : (refs now : List Ref) (l : FrameLock) → 0 < refs_on l.frame.0 now → IsLocked frames refs l → IsLocked (set frames f u) now l
  like-locked refs now l some known = record {
    word = is.0;
    there = is.1;
    owner = is.2.owner ∙ known.owner;
    handled = ap (λ (n : ℕ). n == 1) is.2.handled ∙ known.handled;
    poisoned = λ e. ap (λ (n : ℕ). n == 1) is.2.poison ∙ known.poisoned e;
    referenced = some;
  }
    where
      is : (x : ℕ) × (slice_get (set frames f u) l.frame.0 ≡ Some x) × IsLike known.word x
      is = word-is l.frame.0 known.word known.there

  pub like-handed-all : (hands : List (List FrameInHand)) → EachListed (IsHanded frames) hands → EachListed (IsHanded (set frames f u)) hands
  like-handed-all = handed-kept frames f w u there like.poison

  -- the places, where the frame had a reference before
  pub placed-again : (kernel : List Bool) (frees : List ℕ) (hands now : List (List FrameInHand)) → 0 < count_of w
      → ((g : ℕ) → g ≢ f → in_hand g now ≡ in_hand g hands)
      → (is_kernel w ≡ false → free_bit frees f + in_hand f now + min (count_of u) 1 ≡ 1)
      → (0 < free_bit frees f + in_hand f now → IsBare u)
      → EachListed (IsHanded (set frames f u)) now
      → HasOnePlace kernel frames frees hands → HasOnePlace kernel (set frames f u) frees now
  placed-again = placed-kept frames f w u there like.kernel

  -- the counts, where one view's references change
  pub counted-again : (trans caches : List ℕ) (refs : List (List Ref)) (seat : ℕ) (mine now : List Ref) → slice_get refs seat ≡ Some mine
      → count_of u + refs_on f mine ≡ count_of w + refs_on f now
      → ((g : ℕ) → g ≢ f → refs_on g now ≡ refs_on g mine)
      → CountsBalance frames trans caches refs → CountsBalance (set frames f u) trans caches (set refs seat now)
  counted-again trans caches refs seat mine now me here others h = record {
    balance = λ g x a. elim (at_set frames f g u x a) [
      | inl t ↦ subst (λ (p : ℕ × ℕ). count_of p.1 ≡ named p.0 trans + named p.0 caches + sum_by (refs_on p.0) (set refs seat now) + handled_of p.1) (λ i. (sym t.0 i, t.1 i)) at_f
      | inr t ↦
          let was : count_of x ≡ named g trans + named g caches + sum_by (refs_on g) refs + handled_of x = h.balance g x t.1 in
          let moved : sum_by (refs_on g) (set refs seat now) + refs_on g mine ≡ sum_by (refs_on g) refs + refs_on g now = sum-set (refs_on g) refs seat mine now me in
          let same : refs_on g now ≡ refs_on g mine = others g t.0 in
          omega arith
    ];
  }
    where
      at_f : count_of u ≡ named f trans + named f caches + sum_by (refs_on f) (set refs seat now) + handled_of u
      at_f =
          let was : count_of w ≡ named f trans + named f caches + sum_by (refs_on f) refs + handled_of w = h.balance f w there in
          let moved : sum_by (refs_on f) (set refs seat now) + refs_on f mine ≡ sum_by (refs_on f) refs + refs_on f now = sum-set (refs_on f) refs seat mine now me in
          let handled : handled_of u ≡ handled_of w = like.handled in
          omega arith

  -- the locks, where one view's references or locks change
  pub locked-again : (held : List (List Ref × List FrameLock)) (seat : ℕ) (mine now : List Ref × List FrameLock) → slice_get held seat ≡ Some mine
      → lock_of u + locks_on f mine.1 ≡ lock_of w + locks_on f now.1
      → ((g : ℕ) → g ≢ f → locks_on g now.1 ≡ locks_on g mine.1)
      → EachMember (IsLocked (set frames f u) now.0) now.1
      → FrameLocksHeld frames held → FrameLocksHeld (set frames f u) (set held seat now)
  locked-again held seat mine now me here others known h = record {
    one = λ g x a. elim (at_set frames f g u x a) [
      | inl t ↦ subst (λ (p : ℕ × ℕ). sum_by (λ (o : List Ref × List FrameLock). locks_on p.0 o.1) (set held seat now) ≡ lock_of p.1) (λ i. (sym t.0 i, t.1 i)) at_f
      | inr t ↦
          let was : sum_by (λ (o : List Ref × List FrameLock). locks_on g o.1) held ≡ lock_of x = h.one g x t.1 in
          let moved : sum_by (λ (o : List Ref × List FrameLock). locks_on g o.1) (set held seat now) + locks_on g mine.1 ≡ sum_by (λ (o : List Ref × List FrameLock). locks_on g o.1) held + locks_on g now.1 =
          sum-set (λ (o : List Ref × List FrameLock). locks_on g o.1) held seat mine now me in
          let same : locks_on g now.1 ≡ locks_on g mine.1 = others g t.0 in
          omega arith
    ];
    known = each-set (λ (o : List Ref × List FrameLock). EachMember (IsLocked (set frames f u) o.0) o.1) held seat now known
        (each-weaken (λ (o : List Ref × List FrameLock). EachMember (IsLocked frames o.0) o.1) (λ (o : List Ref × List FrameLock). EachMember (IsLocked (set frames f u) o.0) o.1) held
        (λ o each. each-weaken (IsLocked frames o.0) (IsLocked (set frames f u) o.0) o.1 (λ l k. like-locked o.0 o.0 l k.referenced k) each) h.known);
  }
    where
      at_f : sum_by (λ (o : List Ref × List FrameLock). locks_on f o.1) (set held seat now) ≡ lock_of u
      at_f =
          let was : sum_by (λ (o : List Ref × List FrameLock). locks_on f o.1) held ≡ lock_of w = h.one f w there in
          let moved : sum_by (λ (o : List Ref × List FrameLock). locks_on f o.1) (set held seat now) + locks_on f mine.1 ≡ sum_by (λ (o : List Ref × List FrameLock). locks_on f o.1) held + locks_on f now.1 =
          sum-set (λ (o : List Ref × List FrameLock). locks_on f o.1) held seat mine now me in
          omega arith

  -- all parts of a group that read the word, where nothing else changes
  pub like-pages : {layout : Layout} {trans caches pages : List ℕ} {homes : Homes} {views : List View} → lock_of u ≡ lock_of w
      → PageParts layout frames trans caches pages homes views → PageParts layout (set frames f u) trans caches pages homes views
  like-pages {layout} {trans} {caches} {pages} {homes} {views} lock h = record {
    page_locks = h.page_locks;
    translations = like-translations layout.trans trans h.translations;
    caches = like-caches caches (map (λ (v : View). (v.locks, v.pages)) views) h.caches;
    bodies = bodies-kept frames f w u there like.owner lock layout caches pages homes (map holder_of views) h.bodies;
    fits = h.fits;
  }

  pub like-failures : {layout : Layout} {counter : ℕ} {bads weaks : List ℕ} {homes : Homes} {views : List View}
      → FailureParts layout frames counter bads weaks homes views → FailureParts layout (set frames f u) counter bads weaks homes views
  like-failures h = failures-kept frames f w u there like.poison like.cycle (like-handled h.handled) h
