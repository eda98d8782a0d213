-- References taken keep the frame rule.
use Rattle.std.proofs.Common.{◌≡◌, ℕ, ◌+◌, ◌*◌, ◌%◌, ◌^◌, ◌<◌, ◌≤◌, ◌==◌, min, Bool, true, false, cond, List, Some, map, set, length, slice_get, slice_index, slice_set, inl, inr, refl, sym, ap, subst, arith}
use Rattle.std.proofs.lemmas.Bool.{eqb-true}
use prog.Atomic.{either}
use Rattle.hwp_page.specs.hwp_geom.declared.Frame.{Frame}
use Rattle.hwp_words.specs.Frames.{lock_of, poison_of, handled_of, count_of, owner_of, kernel_of, cycle_of}
use Rattle.hwp_words.proofs.FrameSteps.{FieldsAre, fields-get_ref}
use Rattle.hwp_core_rule.specs.declared.view.FrameLock.{FrameLock}
use Rattle.hwp_core_rule.specs.declared.view.View.{View}
use Rattle.hwp_core_rule.specs.Lists.{EachMember}
use Rattle.hwp_core_rule.specs.Rule.{FrameRule, holdings_of}
use Rattle.hwp_core_rule.specs.Views.{refs_on, with_refs, sighted, stamp_of}
use Rattle.hwp_core_rule.specs.Words.{free_bit}
use Rattle.hwp_core_rule.specs.parts.Counts.{CountsBalance}
use Rattle.hwp_core_rule.specs.parts.Holdings.{IsBounded, frames_held}
use Rattle.hwp_core_rule.specs.parts.Places.{HasOnePlace, in_hand}
use Rattle.hwp_core_rule.proofs.Lists.{at_map, same-or, set_again}
use Rattle.hwp_core_rule.proofs.Keeps.{Keeps}
use Rattle.hwp_core_rule.proofs.FrameWordLaws.{IsLike, bare-like, like-fields, placed-again, counted-again, like-handed-all}
use Rattle.hwp_core_rule.proofs.bounds.RefBounds.{count-fits}
use Rattle.hwp_core_rule.proofs.steps.CountSteps.{keeps-refs}
use Rattle.hwp_core_rule.proofs.WordsByKind.{word-there}
use Rattle.hwp_core_rule.proofs.Sights.{keeps-shown, explained-frame}
use Rattle.hwp_core_rule.specs.declared.step.Step.TheVariants as steps
use Rattle.hwp_core_rule.specs.declared.shared_word.SharedWord.TheVariants as places
use Rattle.hwp_core_rule.proofs.Refs
use Rattle.hwp_core_rule.specs.declared.view.FrameInHand.{FrameInHand}

pub keeps-get_ref : (frame : Frame) (seen count : ℕ) → Keeps (steps.GetRef frame seen count)
keeps-get_ref frame seen count layout w homes views seat v who content given = which (found == seen) refl
  where
    found : ℕ
    found = slice_index w.frames frame.0

    h : FrameRule layout w homes views
    h = given.rule

    there : slice_get w.frames frame.0 ≡ Some (slice_index w.frames frame.0)
    there = word-there w.frames frame.0 layout.frames given.shaped.frames given.place

    some : 0 < count_of seen
    some = given.asks.0

    shares : refs_on frame.0 v.refs + count ≤ length layout.trans + 2
    shares = given.asks.2.shares

    room : count_of (slice_index w.frames frame.0) + count < 2 ^ 20
    room = count-fits layout w homes views given.sound given.shaped given.rule given.held frame.0 (slice_index w.frames frame.0) count there (omega (arith, given.asks.2.shares))

    bounded : IsBounded layout (holdings_of v)
    bounded = h.frames.holdings.bounded seat (holdings_of v) (at_map holdings_of views seat v given.me)

    bounded-more : IsBounded layout (record (holdings_of v) { refs = with_refs frame count v.refs })
    bounded-more = record {
      few = elim (same-or (refs_on frame.0 v.refs) 0) [
        | inl none ↦
            let more : frames_held (holdings_of v) + 1 ≤ 2 = given.asks.2.first none in
            let longer : length (with_refs frame count v.refs) ≤ length v.refs + 1 = Refs.length-with frame count v.refs in
            omega arith
        | inr listed ↦
            let few : frames_held (holdings_of v) ≤ 2 = bounded.few in
            let as_long : length (with_refs frame count v.refs) ≡ length v.refs = Refs.length-with-listed frame count v.refs (omega (arith, listed)) in
            omega arith
      ];
      shares = λ g. elim (same-or g frame.0) [
        | inl same ↦ subst (λ (n : ℕ). refs_on n (with_refs frame count v.refs) ≤ length layout.trans + 2) (sym same)
            (subst (λ (n : ℕ). n ≤ length layout.trans + 2) (sym (Refs.refs-with frame count v.refs)) shares)
        | inr differs ↦ subst (λ (n : ℕ). n ≤ length layout.trans + 2) (sym (Refs.refs-with-other frame count g v.refs differs)) (bounded.shares g)
      ];
    }

    which : (b : Bool) → (slice_index w.frames frame.0 == seen) ≡ b
        → FrameRule layout (record w { frames = slice_set w.frames frame.0 (either b ((seen + count * 16) % 2 ^ 64) (slice_index w.frames frame.0)) }) homes
        (set views seat (cond b (record v { refs = with_refs frame count v.refs }) (sighted who (places.Frame frame) (slice_index w.frames frame.0) v)))
    which false e = keeps-shown layout w homes views seat v who (places.Frame frame) given.me given.past (explained-frame layout w homes views (stamp_of who v) frame (slice_index w.frames frame.0) there) given.rule
    which true e = subst (λ (n : ℕ). FrameRule layout (record w { frames = slice_set w.frames frame.0 n }) homes (set views seat (record v { refs = with_refs frame count v.refs }))) now-is
        (keeps-refs layout w homes views seat v frame.0 found now (with_refs frame count v.refs) v.hands given.me h there like are.lock counts placed referenced bounded-more)
      where
        same : found ≡ seen
        same = eqb-true found seen e

        now : ℕ
        now = (found + count * 16) % 2 ^ 64

        fits : found < 2 ^ 64
        fits = given.fits

        are : FieldsAre now (lock_of found) (poison_of found) (handled_of found) (kernel_of found) (count_of found + count) (owner_of found) (cycle_of found)
        are = fields-get_ref found (count * 16) count refl fits room

        now-is : now ≡ (seen + count * 16) % 2 ^ 64
        now-is = ap (λ (n : ℕ). (n + count * 16) % 2 ^ 64) same

        like : IsLike found now
        like = like-fields found now (lock_of found) (count_of found + count) are

        counted : 0 < count_of found
        counted = subst (λ (n : ℕ). 0 < count_of n) (sym same) some

        counts : CountsBalance (set w.frames frame.0 now) w.trans w.caches (set (map (λ (v : View). v.refs) views) seat (with_refs frame count v.refs))
        counts = counted-again w.frames frame.0 found now there like w.trans w.caches (map (λ (v : View). v.refs) views) seat v.refs (with_refs frame count v.refs) (at_map (λ (v : View). v.refs) views seat v given.me)
            (let more : refs_on frame.0 (with_refs frame count v.refs) ≡ refs_on frame.0 v.refs + count = Refs.refs-with frame count v.refs in
            let count_is : count_of now ≡ count_of found + count = are.count in
            omega arith)
            (λ g differs. Refs.refs-with-other frame count g v.refs differs) h.frames.counts

        hands : List (List FrameInHand)
        hands = map (λ (v : View). v.hands) views

        hands-same : set hands seat v.hands ≡ hands
        hands-same = set_again hands seat v.hands (at_map (λ (v : View). v.hands) views seat v given.me)

        placed : HasOnePlace layout.kernel (set w.frames frame.0 now) w.frees (set (map (λ (v : View). v.hands) views) seat v.hands)
        placed = subst (HasOnePlace layout.kernel (set w.frames frame.0 now) w.frees) (sym hands-same)
            (placed-again w.frames frame.0 found now there like layout.kernel w.frees hands hands counted (λ g differs. refl)
            (λ usable.
            let was : free_bit w.frees frame.0 + in_hand frame.0 hands + min (count_of found) 1 ≡ 1 = h.frames.places.placed frame.0 found there usable in
            let count_is : count_of now ≡ count_of found + count = are.count in
            omega (arith, counted))
            (λ some. bare-like found now like are.lock (h.frames.places.idle frame.0 found there some))
            (like-handed-all w.frames frame.0 found now there like hands h.frames.places.handed) h.frames.places)

        referenced : EachMember (λ (l : FrameLock). 0 < refs_on l.frame.0 (with_refs frame count v.refs)) v.locks
        referenced i l e' =
            let was : 0 < refs_on l.frame.0 v.refs = (h.frames.frame_locks.known seat (v.refs, v.locks) (at_map (λ (v : View). (v.refs, v.locks)) views seat v given.me) i l e').referenced in
            elim (same-or l.frame.0 frame.0) [
              | inl is ↦ subst (λ (n : ℕ). 0 < refs_on n (with_refs frame count v.refs)) (sym is)
                  (let more : refs_on frame.0 (with_refs frame count v.refs) ≡ refs_on frame.0 v.refs + count = Refs.refs-with frame count v.refs in
                  let some_there : 0 < refs_on frame.0 v.refs = subst (λ (n : ℕ). 0 < refs_on n v.refs) is was in
                  omega arith)
              | inr differs ↦ subst (λ (n : ℕ). 0 < n) (sym (Refs.refs-with-other frame count l.frame.0 v.refs differs)) was
            ]
