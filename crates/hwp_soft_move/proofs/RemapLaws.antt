-- The laws of `Remap`.
use Rattle.std.proofs.Common.{◌≡◌, ◌≢◌, ◌⊎◌, inl, inr, ℕ, ◌+◌, ◌-◌, ◌^◌, ◌<◌, ◌≤◌, ◌==◌, Bool, true, false, cond, nat_lt, List, [], ◌∷◌, Option, Some, None, length, slice_get, slice_set, refl, sym, ap, ◌∙◌, subst, arith}
use Rattle.std.proofs.lemmas.Bool.{le-ltb, ne_eqb}
use Rattle.std.proofs.lemmas.Option.{none-some, same_Some, slice_get_within}
use Rattle.std.specs.FinSet as set
use Rattle.std.specs.List.{find}
use Rattle.hwp_claim_frame.specs.hwp_geom.declared.Frame.{Frame}
use Rattle.hwp_claim_frame.specs.hwp_geom.declared.Layout.{Layout}
use Rattle.hwp_claim_frame.specs.hwp_geom.declared.Page.{Page}
use Rattle.hwp_claim_frame.specs.hwp_geom.declared.TransDecl.{TransDecl}
use Rattle.hwp_claim_frame.specs.hwp_geom.declared.VSlot.{VSlot}
use Rattle.hwp_claim_frame.specs.hwp_kill.Limits.{slot_limit}
use Rattle.hwp_claim_frame.specs.hwp_page.declared.PageState.{PageState}
use Rattle.hwp_claim_frame.specs.hwp_page.History.{BodyValue}
use Rattle.hwp_claim_frame.specs.hwp_words.Translations.{pte_word}
use Rattle.hwp_claim_frame.specs.hwp_words.declared.Pte.TheVariants as ptes
use Rattle.hwp_claim_frame.specs.hwp_core_rule.declared.FrameLock.{FrameLock}
use Rattle.hwp_claim_frame.specs.hwp_core_rule.declared.Ref.{Ref}
use Rattle.hwp_claim_frame.specs.hwp_core_rule.declared.Step.{Step}
use Rattle.hwp_claim_frame.specs.hwp_core_rule.declared.Step.TheVariants as steps
use Rattle.hwp_claim_frame.specs.hwp_core_rule.declared.View.{View}
use Rattle.hwp_claim_frame.specs.hwp_core_rule.Asks.{CanFree, CanName, CanSetPte, HasLock}
use Rattle.hwp_claim_frame.specs.hwp_core_rule.Logs.{state_of}
use Rattle.hwp_claim_frame.specs.hwp_core_rule.Lasting.{IsMild}
use Rattle.hwp_claim_frame.specs.hwp_core_rule.Views.{frame_in, is_body_of, less_named, less_refs, refs_on, with_named, with_refs}
use Rattle.hwp_claim_frame.specs.hwp_core_rule.Words.{Words}
use Rattle.hwp_claim_frame.proofs.of_hwp_core_rule.Lists.{same-number, same-or, set_here, set_else}
use Rattle.hwp_claim_frame.proofs.of_hwp_core_rule.MetWords.{frame-named, lock-knows}
use Rattle.hwp_claim_frame.specs.hwp_core_rule.Calls.{CanMake, Steps}
use Rattle.hwp_claim_frame.specs.hwp_core_rule.Hands.{Hand, hand_of}
use Rattle.hwp_claim_frame.specs.hwp_core_rule.Ranks.{translation_room}
use Rattle.hwp_claim_frame.proofs.of_hwp_core_rule.tasks.StepLeaves.{on-turn-after, hand-planned, steps-planned, can-make}
use Rattle.hwp_claim_frame.proofs.of_hwp_core_rule.tasks.MadeEntries.{ListsNone}
use Rattle.hwp_claim_frame.specs.hwp_core.Holds.{page_lock}
use Rattle.hwp_claim_frame.specs.hwp_core.Clears.{IsNextFrom, is_done}
use Rattle.hwp_claim_frame.specs.hwp_core.Vacates.{page_held}
use Rattle.hwp_claim_frame.proofs.of_hwp_core.ClearLaws.{done-behind, done-same}
use Rattle.hwp_claim_frame.proofs.of_hwp_core.TranslationWrites.{trans-word}
use Rattle.hwp_soft_move.specs.declared.remap.Remap.{Remap}
use Rattle.hwp_soft_move.specs.Remaps.{CountsOn, plan, plan_at, Follows, FollowsAt, Shows, ShowsAt, word_now, with_both, IsRemapping, Fits, cost, cost_at}
use Rattle.hwp_soft_move.proofs.SetCounts.{one-fewer}

-- ---- the references to two frames

abbrev pub two_refs : Frame → ℕ → Frame → ℕ → List Ref
two_refs from m to n = record { frame = from; count = m } ∷ record { frame = to; count = n } ∷ []

pub refs-from : (from to : Frame) (m n : ℕ) → from.0 ≢ to.0 → refs_on from.0 (two_refs from m to n) ≡ m
refs-from from to m n apart = let other : (to.0 == from.0) ≡ false = ne_eqb to.0 from.0 (λ e. apart (sym e)) in let same = same-number from.0 from.0 refl in grind arith

pub refs-to : (from to : Frame) (m n : ℕ) → from.0 ≢ to.0 → refs_on to.0 (two_refs from m to n) ≡ n
refs-to from to m n apart = let other : (from.0 == to.0) ≡ false = ne_eqb from.0 to.0 apart in let same = same-number to.0 to.0 refl in grind arith

-- one of the one frame more
pub refs-more : (from to : Frame) (m n : ℕ) → with_refs from 1 (two_refs from m to n) ≡ two_refs from (m + 1) to n
refs-more from to m n = ap (λ (b : Bool). cond b (two_refs from (m + 1) to n) (record { frame = from; count = m } ∷ with_refs from 1 (record { frame = to; count = n } ∷ []))) (same-number from.0 from.0 refl)

-- one of the other fewer
pub refs-fewer : (from to : Frame) (m n : ℕ) → from.0 ≢ to.0 → less_refs to 1 (two_refs from m to (n + 2)) ≡ two_refs from m to (n + 1)
refs-fewer from to m n apart = let other : (from.0 == to.0) ≡ false = ne_eqb from.0 to.0 apart in let same = same-number to.0 to.0 refl in grind arith

abbrev pub lock-one : {view : View} {frame : Frame} (lock other : FrameLock) → view.locks ≡ lock ∷ other ∷ [] → lock.frame ≡ frame → HasLock view frame
lock-one lock other locks is = record { lock = lock; listed = (0, lock, ap (λ l. slice_get l 0) locks, refl); frame_is = is }

abbrev pub lock-two : {view : View} {frame : Frame} (lock other : FrameLock) → view.locks ≡ other ∷ lock ∷ [] → lock.frame ≡ frame → HasLock view frame
lock-two lock other locks is = record { lock = lock; listed = (1, lock, ap (λ l. slice_get l 1) locks, refl); frame_is = is }

module _ {layout : Layout} {old : View} (r : Remap) (slot : VSlot) (fits : Fits layout old r) (has : IsRemapping layout old (record r { next = Some slot })) where
  abbrev state : PageState
  state = state_of layout has.taken.log

  maps-used : set.contains state.maps slot.0 ≡ true
  maps-used = ap (λ m. set.contains m slot.0) (sym has.slots_are) ∙ has.member slot refl

  decl : (t : TransDecl) × (slice_get layout.trans slot.0 ≡ Some t) × (t.page ≡ r.page)
  decl = has.declared slot.0 (has.member slot refl)

  within : slot.0 < length layout.trans
  within = slice_get_within layout.trans slot.0 decl.0 decl.1

  small : (f : Frame) → f.0 < layout.frames → f.0 < 2 ^ 16
  small f inside = let few : _ = fits.sound.frames in omega (arith, few, inside)

  -- its word names the frame still
  names-frame : slice_get has.trans slot.0 ≡ Some (r.from.0 + 1)
  names-frame = has.words slot.0 decl.0 decl.1 decl.2
      ∙ ap (λ (b : Bool). Some (cond b (cond (nat_lt slot.0 slot.0) (r.to.0 + 1) (r.from.0 + 1)) (cond (set.contains state.bar slot.0) (pte_word ptes.Poison) 0))) maps-used
      ∙ ap (λ (b : Bool). Some (cond b (r.to.0 + 1) (r.from.0 + 1))) (le-ltb slot.0 slot.0 (omega arith))

  pages : old.pages ≡ page_lock r.page (Some r.from) (Some has.trans) ∷ []
  pages = ap (λ (h : Hand). h.pages) has.hand_is

  some-left : (next : Option VSlot) → IsNextFrom r.slots.value (slot.0 + 1) next → (k : ℕ) × (has.left ≡ k + 1) × CountsOn r.slots.value next k
  some-left next low = one-fewer r.slots.value slot next has.left has.left_is low

  can-write : CanSetPte layout old slot (ptes.At r.to)
  can-write = record {
    decl = decl.0;
    declared = decl.1;
    page_held = record {
      lock = record { lock = page_lock r.page (Some r.from) (Some has.trans); listed = ap (λ l. slice_get l 0) pages; page_is = sym decl.2 };
      body = has.taken;
      body_is = ap (λ (h : Hand). find (is_body_of decl.0.page) h.bodies) has.hand_is ∙ ap (λ (b : Bool). cond b (Some has.taken) None) (same-number has.taken.log.page.0 decl.0.page.0 (ap (λ (p : Page). p.0) (has.taken_is ∙ sym decl.2)));
      cache = r.from.0 + 1;
      cache_is = refl;
      trans = has.trans;
      trans_is = refl;
    };
    old = r.from.0 + 1;
    old_is = names-frame;
    frames = (
      λ f named. subst (CanFree layout old) (same_Some r.from f (sym (frame-named r.from (small r.from fits.from)) ∙ named)) (record {
        has = lock-one _ _ (ap (λ (h : Hand). h.locks) has.hand_is) refl;
        room = subst (λ (n : ℕ). n + 1 ≤ length layout.trans + 2) (sym (ap (λ (h : Hand). refs_on r.from.0 h.refs) has.hand_is ∙ refs-from r.from r.to (r.count - 1 - has.left) (has.left + 2) fits.apart))
            (let few : has.left + 2 ≤ r.count = has.few in let room : _ = fits.room in omega (arith, few, room));
      }),
      λ f leads. subst (CanName old decl.0.page) (same_Some r.to f leads) (record {
        has = lock-two _ _ (ap (λ (h : Hand). h.locks) has.hand_is) refl;
        owner_is = ap (λ (p : Page). p.0 + 1) (sym decl.2);
        refs = subst (λ (n : ℕ). 2 ≤ n) (sym (ap (λ (h : Hand). refs_on r.to.0 h.refs) has.hand_is ∙ refs-to r.from r.to (r.count - 1 - has.left) (has.left + 2) fits.apart)) (omega arith);
      }),
    );
  }

  -- ---- after the step

  module _ {new : View} {found : ℕ} {got : Option BodyValue} (made : Steps layout r.who (steps.SetPte slot (ptes.At r.to)) None old new found got) where
    abbrev word : ℕ
    word = r.to.0 + 1

    abbrev now : List ℕ
    now = slice_set has.trans slot.0 (pte_word (ptes.At r.to))

    abbrev after : List Ref → Hand
    after refs = record (with_both r.from (r.page.0 + 1) 0 r.to (r.page.0 + 1) 0 (page_held r.page (Some r.from) now has.taken)) { refs = refs }

    word-is : pte_word (ptes.At r.to) ≡ r.to.0 + 1
    word-is = let few : _ = small r.to fits.to in omega (arith, few)

    found-is : found ≡ r.from.0 + 1
    found-is = same_Some found (r.from.0 + 1) (sym (trans-word layout made.told.board made.told.rule slot found within made.told.met)
        ∙ sym ((lock-knows layout made.told.board made.told.rule made.told.seat old made.told.me (page_lock r.page (Some r.from) (Some has.trans)) (ap (λ l. slice_get l 0) pages)).words has.trans refl slot.0 decl.0 decl.1 decl.2)
        ∙ names-frame)

    module _ (next : Option VSlot) (lowest : IsNextFrom r.slots.value (slot.0 + 1) next) where
      abbrev k : ℕ
      k = (some-left next lowest).0

      left-is : has.left ≡ k + 1
      left-is = (some-left next lowest).1

      hand : hand_of new ≡ with_both r.from (r.page.0 + 1) (r.count - 1 - k) r.to (r.page.0 + 1) (k + 2) (page_held r.page (Some r.from) now has.taken)
      hand = hand-planned made refl has.hand_is
          ∙ ap (λ (n : Option Frame). after (with_named (frame_in found) (less_named n (two_refs r.from (r.count - 1 - has.left) r.to (has.left + 2))))) (ap frame_in word-is ∙ frame-named r.to (small r.to fits.to))
          ∙ ap (λ (n : Option Frame). after (with_named n (less_refs r.to 1 (two_refs r.from (r.count - 1 - has.left) r.to (has.left + 2))))) (ap frame_in found-is ∙ frame-named r.from (small r.from fits.from))
          ∙ ap (λ (refs : List Ref). after (with_refs r.from 1 refs)) (refs-fewer r.from r.to (r.count - 1 - has.left) has.left fits.apart)
          ∙ ap after (refs-more r.from r.to (r.count - 1 - has.left) (has.left + 1))
          ∙ ap (λ (m : ℕ). after (two_refs r.from m r.to (has.left + 1))) (let few : has.left + 2 ≤ r.count = has.few in let left : _ = left-is in omega (arith, few, left))
          ∙ ap (λ (n : ℕ). after (two_refs r.from (r.count - 1 - k) r.to n)) (let left : _ = left-is in omega (arith, left))

      words-now : (u : ℕ) (t : TransDecl) → slice_get layout.trans u ≡ Some t → t.page ≡ r.page → slice_get now u ≡ Some (word_now state r.from r.to next u)
      words-now u t declared own = which (same-or u slot.0)
        where
          same-word : u ≢ slot.0 → (b : Bool) → set.contains state.maps u ≡ b → word_now state r.from r.to (Some slot) u ≡ word_now state r.from r.to next u
          same-word other true some = ap (λ (d : Bool). cond (set.contains state.maps u) (cond d word (r.from.0 + 1)) (cond (set.contains state.bar u) (pte_word ptes.Poison) 0)) (done-same r.slots.value slot u (ap (λ m. set.contains m u) has.slots_are ∙ some) other next lowest)
          same-word other false none = ap (λ (b : Bool). cond b (cond (nat_lt u slot.0) word (r.from.0 + 1)) (cond (set.contains state.bar u) (pte_word ptes.Poison) 0)) none
              ∙ sym (ap (λ (b : Bool). cond b (cond (is_done next u) word (r.from.0 + 1)) (cond (set.contains state.bar u) (pte_word ptes.Poison) 0)) none)

          which : (u ≡ slot.0) ⊎ (u ≢ slot.0) → slice_get now u ≡ Some (word_now state r.from r.to next u)
          which (inl same) = ap (slice_get now) same ∙ set_here has.trans slot.0 (pte_word (ptes.At r.to)) (r.from.0 + 1) names-frame ∙ ap (λ (n : ℕ). Some n) word-is
              ∙ sym (ap (λ (n : ℕ). Some (word_now state r.from r.to next n)) same
              ∙ ap (λ (b : Bool). Some (cond b (cond (is_done next slot.0) word (r.from.0 + 1)) (cond (set.contains state.bar slot.0) (pte_word ptes.Poison) 0))) maps-used
              ∙ ap (λ (b : Bool). Some (cond b word (r.from.0 + 1))) (done-behind r.slots.value slot next lowest))
          which (inr other) = set_else has.trans slot.0 u (pte_word (ptes.At r.to)) other ∙ has.words u t declared own ∙ ap (λ (n : ℕ). Some n) (same-word other (set.contains state.maps u) refl)

      member-now : (n : Option VSlot) → IsNextFrom r.slots.value (slot.0 + 1) n → (s : VSlot) → n ≡ Some s → set.contains r.slots.value s.0 ≡ true
      member-now None none s is = absurd (none-some s is)
      member-now (Some v) low s is = subst (λ (x : VSlot). set.contains r.slots.value x.0 ≡ true) (same_Some v s is) low.1.member

      pub written : IsRemapping layout new (record r { next = next })
      written = record {
        trans = now;
        taken = has.taken;
        left = k;
        left_is = (some-left next lowest).2;
        hand_is = hand;
        taken_is = has.taken_is;
        slots_are = has.slots_are;
        declared = has.declared;
        words = words-now;
        few = let few : has.left + 2 ≤ r.count = has.few in let left : _ = left-is in omega (arith, few, left);
        member = member-now next lowest;
      }

pub can : (layout : Layout) (view : View) (r : Remap) (step : Step) → Fits layout view r → plan r ≡ Some step → CanMake layout r.who step None view
can layout view r step fits is = which r.next fits.at is
  where
    which : (n : Option VSlot) → IsRemapping layout view (record r { next = n }) → plan_at r.to n ≡ Some step → CanMake layout r.who step None view
    which None has e = absurd (none-some step e)
    which (Some slot) has e = can-make fits.on_turn e (within r slot fits has) (can-write r slot fits has)

-- a step shows what is needed, and what follows fits again
pub both : (layout : Layout) (old new : View) (r : Remap) (step : Step) (found : ℕ) (got : Option BodyValue) → Fits layout old r → plan r ≡ Some step → Steps layout r.who step None old new found got → Shows r × ((after : Remap) → Follows r after → Fits layout new after)
both layout old new r step found got fits is made = which r.next fits.at is
  where
    which : (n : Option VSlot) → IsRemapping layout old (record r { next = n }) → plan_at r.to n ≡ Some step → ShowsAt n × ((after : Remap) → FollowsAt r n after → Fits layout new after)
    which None has e = absurd (none-some step e)
    which (Some slot) has e = (
      let inside : _ = within r slot fits has in let few : _ = fits.sound.trans in omega (arith, inside, few),
      λ after follows. subst (Fits layout new) (sym follows.0) (record {
        on_turn = on-turn-after fits.on_turn made;
        sound = fits.sound;
        page = fits.page;
        from = fits.from;
        to = fits.to;
        apart = fits.apart;
        room = fits.room;
        at = written r slot fits has (steps-planned e made) after.next follows.1;
      }),
    )

-- ---- the law of the rank

pub remaps-fall : (r next : Remap) (w now : Words) {step : Step} → plan r ≡ Some step → Follows r next → Shows r → cost next now < cost r w
remaps-fall r next w now {step} is follows shows = which r.next is follows shows
  where
    by : (slot : VSlot) (n : Option VSlot) → slot.0 < slot_limit → IsNextFrom r.slots.value (slot.0 + 1) n → cost_at n < slot_limit - slot.0
    by slot None few low = omega (arith, few)
    by slot (Some v) few low = let above : slot.0 + 1 ≤ v.0 = low.1.not_below in omega (arith, few, above)

    which : (n : Option VSlot) → plan_at r.to n ≡ Some step → FollowsAt r n next → ShowsAt n → cost_at next.next < cost_at n
    which None e follows shows = absurd (none-some step e)
    which (Some slot) e follows shows = by slot next.next shows follows.1

pub remap-small : (w : Words) (r : Remap) → cost r w ≤ translation_room
remap-small w r = which r.next
  where
    which : (n : Option VSlot) → cost_at n ≤ translation_room
    which None = omega arith
    which (Some slot) = omega arith

-- none of its steps poisons a frame or takes its poison back
pub remap-mild : (r : Remap) (step : Step) → plan r ≡ Some step → IsMild step
remap-mild r step is = which r.next is
  where
    which : (n : Option VSlot) → plan_at r.to n ≡ Some step → IsMild step
    which (Some slot) e = subst IsMild (same_Some (steps.SetPte slot (ptes.At r.to)) step e) tt
    which None e = absurd (none-some step e)

-- none of its steps lists an entry by itself
pub remap-lists : (r : Remap) (step : Step) → plan r ≡ Some step → ListsNone step
remap-lists r step is = which r.next is
  where
    which : (n : Option VSlot) → plan_at r.to n ≡ Some step → ListsNone step
    which (Some slot) e = subst ListsNone (same_Some (steps.SetPte slot (ptes.At r.to)) step e) tt
    which None e = absurd (none-some step e)
