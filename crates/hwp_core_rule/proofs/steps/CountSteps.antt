-- Steps on a frame's count keep the frame rule, where the parts on counts, places and locks do.
use Rattle.std.proofs.Common.{◌≡◌, ℕ, ◌+◌, ◌<◌, List, Some, map, set, slice_get, refl, ap}
use Rattle.hwp_page.specs.hwp_geom.declared.Layout.{Layout}
use Rattle.hwp_words.specs.Frames.{lock_of}
use Rattle.hwp_core_rule.specs.declared.view.FrameLock.{FrameLock}
use Rattle.hwp_core_rule.specs.declared.view.Ref.{Ref}
use Rattle.hwp_core_rule.specs.declared.view.View.{View}
use Rattle.hwp_core_rule.specs.Lists.{Homes, EachMember}
use Rattle.hwp_core_rule.specs.Rule.{FrameRule, holdings_of}
use Rattle.hwp_core_rule.specs.Views.{refs_on, locks_on}
use Rattle.hwp_core_rule.specs.Words.{Words}
use Rattle.hwp_core_rule.specs.parts.Counts.{CountsBalance}
use Rattle.hwp_core_rule.specs.parts.Holdings.{IsBounded}
use Rattle.hwp_core_rule.specs.parts.Locks.{FrameLocksHeld}
use Rattle.hwp_core_rule.specs.parts.Places.{HasOnePlace}
use Rattle.hwp_core_rule.proofs.Lists.{change, at_map}
use Rattle.hwp_core_rule.proofs.FrameWordLaws.{IsLike, like-locked, locked-again, like-failures, like-pages}
use Rattle.hwp_core_rule.proofs.PartKeeps
use Rattle.hwp_core_rule.specs.declared.view.FrameInHand.{FrameInHand}

-- a frame's count, a view's references and its frames in hand change
module _ (layout : Layout) (w : Words) (homes : Homes) (views : List View) (seat : ℕ) (v : View) (f word now : ℕ) (refs : List Ref) (hands : List FrameInHand) where
  abbrev u : View
  u = record v { refs = refs; hands = hands }

  pub keeps-refs : slice_get views seat ≡ Some v → FrameRule layout w homes views → slice_get w.frames f ≡ Some word → IsLike word now → lock_of now ≡ lock_of word
      → CountsBalance (set w.frames f now) w.trans w.caches (set (map (λ (v : View). v.refs) views) seat refs)
      → HasOnePlace layout.kernel (set w.frames f now) w.frees (set (map (λ (v : View). v.hands) views) seat hands)
      → EachMember (λ (l : FrameLock). 0 < refs_on l.frame.0 refs) v.locks
      → IsBounded layout (holdings_of u)
      → FrameRule layout (record w { frames = set w.frames f now }) homes (set views seat u)
  keeps-refs me h there like lock counts placed referenced bounded = record {
    frames = record {
      counts = change (λ (v : View). v.refs) (CountsBalance frames w.trans w.caches) views seat u counts;
      places = change (λ (v : View). v.hands) (HasOnePlace layout.kernel frames w.frees) views seat u placed;
      frame_locks = change (λ (v : View). (v.refs, v.locks)) (FrameLocksHeld frames) views seat u
          (locked-again w.frames f word now there like (map (λ (v : View). (v.refs, v.locks)) views) seat (v.refs, v.locks) (refs, v.locks) (at_map (λ (v : View). (v.refs, v.locks)) views seat v me)
          (ap (λ (n : ℕ). n + locks_on f v.locks) lock) (λ g differs. refl)
          (λ i l e. like-locked w.frames f word now there like v.refs refs l (referenced i l e) (h.frames.frame_locks.known seat (v.refs, v.locks) (at_map (λ (v : View). (v.refs, v.locks)) views seat v me) i l e))
          h.frames.frame_locks);
      free = PartKeeps.kept-free views seat v u me refl h.frames.free;
      holdings = PartKeeps.kept-bounded views seat v u me bounded h.frames.holdings;
    };
    pages = PartKeeps.same-pages views seat v u me refl (like-pages w.frames f word now there like lock h.pages);
    histories = PartKeeps.same-histories views seat v u me refl h.histories;
    failures = PartKeeps.same-failures views seat v u me refl (like-failures w.frames f word now there like h.failures);
    processors = PartKeeps.same-processors views seat v u me refl h.processors;
  }
    where
      frames : List ℕ
      frames = set w.frames f now
