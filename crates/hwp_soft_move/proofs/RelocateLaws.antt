-- The laws of `Relocate`.
use Rattle.std.proofs.Common.{◌≡◌, ◌≢◌, inl, inr, ℕ, ◌+◌, ◌-◌, ◌^◌, ◌<◌, ◌≤◌, ◌==◌, Bool, true, false, cond, List, [], ◌∷◌, ◌++◌, Option, Some, None, is_none, length, slice_get, refl, sym, ap, ◌∙◌, subst, arith}
use Rattle.std.proofs.lemmas.Bool.{both_ways, ne_eqb}
use Rattle.std.proofs.lemmas.Option.{none-some, same_Some}
use Rattle.std.specs.FinSet as set
use Rattle.std.specs.List.{find}
use Rattle.std.specs.Ordering.{nat_cmp}
use Rattle.hwp_claim_frame.specs.hwp_geom.declared.Frame.{Frame}
use Rattle.hwp_claim_frame.specs.hwp_geom.declared.Layout.{Layout}
use Rattle.hwp_claim_frame.specs.hwp_geom.declared.Page.{Page}
use Rattle.hwp_claim_frame.specs.hwp_geom.declared.TransDecl.{TransDecl}
use Rattle.hwp_claim_frame.specs.hwp_geom.declared.VSlot.{VSlot}
use Rattle.hwp_claim_frame.specs.hwp_geom.declared.Who.{Who}
use Rattle.hwp_claim_frame.specs.hwp_geom.Layout.{IsSound}
use Rattle.hwp_claim_frame.specs.hwp_page.declared.At.{At}
use Rattle.hwp_claim_frame.specs.hwp_page.declared.PageState.{PageState}
use Rattle.hwp_claim_frame.specs.hwp_page.History.{BodyValue}
use Rattle.hwp_claim_frame.specs.hwp_words.Translations.{pte_word}
use Rattle.hwp_claim_frame.specs.hwp_words.declared.Pte.TheVariants as ptes
use Rattle.hwp_claim_frame.specs.hwp_core_rule.declared.InHand.{InHand}
use Rattle.hwp_claim_frame.specs.hwp_core_rule.declared.PageLock.{PageLock}
use Rattle.hwp_claim_frame.specs.hwp_core_rule.declared.Made.{Made}
use Rattle.hwp_claim_frame.specs.hwp_core_rule.declared.SharedWord.TheVariants as places
use Rattle.hwp_claim_frame.specs.hwp_core_rule.declared.Sight.{Sight}
use Rattle.hwp_claim_frame.specs.hwp_core_rule.declared.Step.{Step}
use Rattle.hwp_claim_frame.specs.hwp_core_rule.declared.Step.TheVariants as steps
use Rattle.hwp_claim_frame.specs.hwp_core_rule.declared.View.{View}
use Rattle.hwp_claim_frame.specs.hwp_core_rule.Asks.{CanFree, CanName, CanUnlockFrame, HasPage}
use Rattle.hwp_claim_frame.specs.hwp_core_rule.Logs.{state_of, fitting_word}
use Rattle.hwp_claim_frame.specs.hwp_core_rule.Views.{is_body_of, locks_on, noted, refs_on, sighted, stamp_of, with_refs}
use Rattle.hwp_claim_frame.proofs.of_hwp_core_rule.Lists.{same-number}
use Rattle.hwp_claim_frame.proofs.of_hwp_core_rule.MetWords.{frame-named}
use Rattle.hwp_claim_frame.specs.hwp_core_rule.declared.Turn.{Turn}
use Rattle.hwp_claim_frame.specs.hwp_core_rule.Calls.{CanMake, IsOnTurn, Steps, logs}
use Rattle.hwp_claim_frame.specs.hwp_core_rule.Hands.{Hand, empty, hand_of}
use Rattle.hwp_claim_frame.proofs.of_hwp_core_rule.tasks.StepLeaves.{on-turn-after, steps-planned, can-make, can-put}
use Rattle.hwp_claim_frame.specs.hwp_core_rule.Known.{deeds}
use Rattle.hwp_claim_frame.specs.hwp_core_rule.Turns.{IsTask}
use Rattle.hwp_claim_frame.proofs.of_hwp_core_rule.tasks.MadeEntries.{ListsNone, deeds-same, has-made-stays}
use Rattle.hwp_claim_frame.specs.hwp_core.declared.refer.Refer.{Refer}
use Rattle.hwp_claim_frame.specs.hwp_core.declared.refer.ReferAt.{ReferAt}
use Rattle.hwp_claim_frame.specs.hwp_core.declared.refer.ReferAt.TheVariants as refer_at
use Rattle.hwp_claim_frame.specs.hwp_core.declared.release.Release.{Release}
use Rattle.hwp_claim_frame.specs.hwp_core.declared.release.ReleaseAt.{ReleaseAt}
use Rattle.hwp_claim_frame.specs.hwp_core.declared.release.ReleaseAt.TheVariants as release_at
use Rattle.hwp_claim_frame.specs.hwp_core.Holds.{page_lock}
use Rattle.hwp_claim_frame.specs.hwp_core.Refers as refers
use Rattle.hwp_claim_frame.specs.hwp_core.Releases as releases
use Rattle.hwp_claim_frame.proofs.of_hwp_core.TaskCosts.{release-lists}
use Rattle.hwp_claim_frame.proofs.of_hwp_core.ReferLaws as referring
use Rattle.hwp_claim_frame.proofs.of_hwp_core.ReleaseLaws as releasing_laws
use Rattle.hwp_claim_frame.specs.hwp_core.Clears.{IsNextFrom, is_done}
use Rattle.hwp_claim_frame.specs.hwp_core.Vacates.{page_held}
use Rattle.hwp_claim_frame.proofs.of_hwp_core.TranslationWrites.{declared-of}
use Rattle.hwp_claim_frame.proofs.of_hwp_core.BodyGrows.{Grown}
use Rattle.hwp_claim_frame.proofs.of_hwp_core.PageStates.{replay-own}
use Rattle.hwp_claim_frame.proofs.of_hwp_core.VacateLaws.{lock-held, refs-are}
use Rattle.hwp_soft_move.specs.declared.relocate.Relocate.{Relocate}
use Rattle.hwp_soft_move.specs.declared.relocate.RelocateAt.{RelocateAt}
use Rattle.hwp_soft_move.specs.declared.relocate.RelocateAt.TheVariants as at
use Rattle.hwp_soft_move.specs.declared.relocate.Transfer.{Transfer}
use Rattle.hwp_soft_move.specs.declared.remap.Remap.{Remap}
use Rattle.hwp_soft_move.specs.Relocations.{plan, plan_at, put, put_at, bare, left_at, after_remap, after_release, AfterReferAt, FollowsAt, Follows, IsReferred, IsRemapped, Shows, ShowsAt, StartsRemap}
use Rattle.hwp_soft_move.specs.Relocating.{Carries, FitsAt, FitsFrom, HasMoved, IsAhead, IsReferring, IsReleasing, IsWriting, referred, releasing, task as relocate-task}
use Rattle.hwp_soft_move.specs.Remaps as remaps
use Rattle.hwp_soft_move.specs.Remaps.{CountsOn, IsCount, IsRemapping, old_lock, with_both, word_now}
use Rattle.hwp_soft_move.proofs.SetCounts.{one-next}
use Rattle.hwp_soft_move.proofs.RelocateSteps.{ahead-on, cache-set, carry-on, counted, let-go, owner-cleared, owner-set, refer-on, refs-of, refs-put, released, retired, unlocked}
use Rattle.hwp_soft_move.proofs.RemapLaws as remapping
use Rattle.hwp_soft_move.proofs.RemapLaws.{lock-one, lock-two, refs-from, refs-to}
use Rattle.hwp_soft_move.proofs.SoftEntry.{body-page, goes-home, words-fit}
use Rattle.hwp_claim_frame.proofs.of_hwp_core.ClearLaws.{none-done}

-- ---- the steps can be made

abbrev page-held : {view : View} {page : Page} (frame : Frame) {trans : List ℕ} {taken : InHand} → view.pages ≡ page_lock page (Some frame) (Some trans) ∷ [] → view.bodies ≡ taken ∷ [] → taken.log.page ≡ page → HasPage view page
page-held {page} frame {trans} {taken} pages bodies own = record {
  lock = record { lock = page_lock page (Some frame) (Some trans); listed = ap (λ l. slice_get l 0) pages; page_is = refl };
  body = taken;
  body_is = ap (find (is_body_of page)) bodies ∙ ap (λ (b : Bool). cond b (Some taken) None) (same-number taken.log.page.0 page.0 (ap (λ (p : Page). p.0) own));
  cache = frame.0 + 1;
  cache_is = refl;
  trans = trans;
  trans_is = refl;
}

taken-page : {base : List Made} {layout : Layout} {view : View} {t : Transfer} {maps : set.FinSet nat_cmp} {done : At} {given : Option BodyValue} {taken : InHand} → Carries base layout view t maps done given taken → taken.log.page ≡ t.page
taken-page {base} has = ap (λ (x : InHand). x.log.page) has.taken_is ∙ has.entry.page_is

-- no translation leads to the old frame any more
leads-none : (s : PageState) (from to : Frame) (slot : ℕ) → from.0 ≢ to.0 → from.0 < 2 ^ 16 → fitting_word s (to.0 + 1) slot ≢ from.0 + 1
leads-none s from to slot apart small = by (set.contains s.maps slot) (set.contains s.bar slot)
  where
    by : (b c : Bool) → cond b (to.0 + 1) (cond c (pte_word ptes.Poison) 0) ≢ from.0 + 1
    by true c e = apart (omega (arith, e))
    by false true e = let far : pte_word ptes.Poison ≡ 2 ^ 63 = refl in omega (arith, e, far, small)
    by false false e = omega (arith, e)

module _ {base : List Made} {layout : Layout} {view : View} (r : Relocate) (fits : FitsFrom base layout view r) where
  abbrev t : Transfer
  t = r.transfer

  small : r.transfer.from.0 < 2 ^ 16
  small = let few : _ = fits.sound.frames in let inside : _ = fits.from in omega (arith, few, inside)

  some : 2 ≤ r.transfer.count
  some = let is : _ = fits.count_is in omega (arith, is)

  can-cache : IsAhead base layout view r.transfer r.maps r.done r.body at.SetCache r.transfer.to → {step : Step} → Some (steps.SetCache r.transfer.page (Some r.transfer.to)) ≡ Some step → CanMake layout r.transfer.who step None view
  can-cache has e = can-make fits.on_turn e fits.page (record {
    page_held = page-held r.transfer.from (ap (λ (h : Hand). h.pages) has.hand_is) (ap (λ (h : Hand). h.bodies) has.hand_is) (taken-page has.carries);
    frames = (
      λ f named_so. subst (CanFree layout view) (same_Some r.transfer.from f (sym (frame-named r.transfer.from small) ∙ named_so)) (record {
        has = lock-one _ _ (ap (λ (h : Hand). h.locks) has.hand_is) refl;
        room = subst (λ (n : ℕ). n + 1 ≤ length layout.trans + 2) (sym (ap (λ (h : Hand). refs_on r.transfer.from.0 h.refs) has.hand_is ∙ refs-from r.transfer.from r.transfer.to (r.transfer.count - 1) 2 fits.apart))
            (let two = some in let room : _ = fits.room in omega (arith, two, room));
      }),
      λ f same. subst (CanName view r.transfer.page) (same_Some r.transfer.to f same) (record {
        has = lock-two _ _ (ap (λ (h : Hand). h.locks) has.hand_is) refl;
        owner_is = refl;
        refs = subst (λ (n : ℕ). 2 ≤ n) (sym (ap (λ (h : Hand). refs_on r.transfer.to.0 h.refs) has.hand_is ∙ refs-to r.transfer.from r.transfer.to (r.transfer.count - 1) 2 fits.apart)) (omega arith);
      }),
    );
  })

  can-clear : IsAhead base layout view r.transfer r.maps r.done r.body at.ClearOwner r.transfer.to → {step : Step} → Some (steps.SetOwner r.transfer.from r.transfer.page false) ≡ Some step → CanMake layout r.transfer.who step None view
  can-clear has e = can-make fits.on_turn e fits.from (
    fits.page,
    record {
      has = lock-one _ _ (ap (λ (h : Hand). h.locks) has.hand_is) refl;
      owned = refl;
      page_held = page-held r.transfer.to (ap (λ (h : Hand). h.pages) has.hand_is) (ap (λ (h : Hand). h.bodies) has.hand_is) (taken-page has.carries);
      uncached = λ same. fits.apart (omega (arith, same));
      unmapped = λ slot d declared own there. leads-none (state_of layout has.carries.log) r.transfer.from r.transfer.to slot fits.apart small
          (same_Some (fitting_word (state_of layout has.carries.log) (r.transfer.to.0 + 1) slot) (r.transfer.from.0 + 1) (sym (has.words slot d declared own) ∙ there));
    },
  )

  can-unlock : IsAhead base layout view r.transfer r.maps r.done r.body at.UnlockFrame r.transfer.to → CanUnlockFrame layout r.transfer.who view r.transfer.to (logs r.body)
  can-unlock has = subst (λ (b : Option BodyValue). CanUnlockFrame layout r.transfer.who view r.transfer.to (logs b)) (sym has.carries.given_is) (record {
    has = lock-two _ _ (ap (λ (h : Hand). h.locks) has.hand_is) refl;
    named = ap (λ (p : Page). p.0 + 1) (body-page has.carries.entry r.transfer.from has.carries.seen);
    cached = λ lock listed owner. ap (λ (l : PageLock). l.cache) (same_Some lock (page_lock r.transfer.page (Some r.transfer.to) (Some has.trans)) (sym listed ∙ ap (λ (h : Hand). slice_get h.pages 0) has.hand_is));
    put = goes-home has.carries.entry r.transfer.from has.carries.seen view r.transfer.to has.trans (ap (λ (h : Hand). h.pages) has.hand_is) (ap (λ (h : Hand). h.bodies) has.hand_is ∙ ap (λ (x : InHand). x ∷ []) has.carries.taken_is)
        (words-fit has.carries.entry r.transfer.from has.carries.seen r.transfer.to has.trans has.words) has.carries.saw;
  })

  body-fits : IsAhead base layout view r.transfer r.maps r.done r.body at.UnlockFrame r.transfer.to → (b : BodyValue) → r.body ≡ Some b → b.layout ≡ layout
  body-fits has b is = ap (λ (x : BodyValue). x.layout) (same_Some b has.carries.body (sym is ∙ has.carries.given_is)) ∙ has.carries.entry.layout_is

one-lock : (from : Frame) (owner : ℕ) → locks_on from.0 (old_lock from owner ∷ []) ≡ 1
one-lock from owner = let same = same-number from.0 from.0 refl in grind arith

pub can : {base : List Made} (layout : Layout) (view : View) (r : Relocate) (step : Step) → FitsFrom base layout view r → plan r ≡ Some step → CanMake layout r.transfer.who step (put r) view
can {base} layout view r step fits is = which r.at fits.at is
  where
    which : (x : RelocateAt) → FitsAt base layout view r.transfer r.maps r.done r.body x → plan_at r.transfer x ≡ Some step → CanMake layout r.transfer.who step (put_at r.body x) view
    which at.Count has e = can-make fits.on_turn e tt has.1
    which at.SetOwner has e = can-make fits.on_turn e fits.to (
      fits.page,
      record {
        has = lock-two _ _ (ap (λ (h : Hand). h.locks) has.hand_is) refl;
        unowned = refl;
        unhandled = refl;
        page_held = page-held r.transfer.from (ap (λ (h : Hand). h.pages) has.hand_is) (ap (λ (h : Hand). h.bodies) has.hand_is) (taken-page has.carries);
      },
    )
    which (at.Refer f) has e = subst (λ (w : Who). CanMake layout w step None view) has.own (referring.can layout view f step has.refer e)
    which (at.Remap m) has e = subst (λ (w : Who). CanMake layout w step None view) has.own (remapping.can layout view m step has.remap e)
    which at.SetCache has e = can-cache r fits has e
    which at.ClearOwner has e = can-clear r fits has e
    which at.UnlockFrame has e = can-put fits.on_turn e fits.to (can-unlock r fits has) (body-fits r fits has) tt
    which (at.Release l) has e = subst (λ (w : Who). CanMake layout w step None view) has.own (releasing_laws.can layout view l step has.release e)
    which at.PutRef has e =
        let two = some r fits in
        let locks : locks_on r.transfer.from.0 view.locks ≡ 1 = ap (λ (h : Hand). locks_on r.transfer.from.0 h.locks) has.0 ∙ one-lock r.transfer.from 0 in
        let refs : refs_on r.transfer.from.0 view.refs ≡ r.transfer.count = ap (λ (h : Hand). refs_on r.transfer.from.0 h.refs) has.0 ∙ refs-are r.transfer.from r.transfer.count in
        can-make fits.on_turn e fits.from (omega (arith, two), omega (arith, two, locks, refs))
    which at.Retire has e = can-make fits.on_turn e fits.from (record {
      has = lock-held _ (ap (λ (h : Hand). h.locks) has.0) refl;
      unowned = refl;
      unhandled = refl;
      poisoned = refl;
      empty = refl;
    })
    which at.UnlockPage has e = can-make fits.on_turn e fits.page (record {
      has = record { lock = page_lock r.transfer.page (Some r.transfer.to) None; listed = ap (λ (h : Hand). slice_get h.pages 0) has.0; page_is = refl };
      named = refl;
      put_away = λ none. ap (λ (h : Hand). find (is_body_of r.transfer.page) h.bodies) has.0;
      no_frame = λ i l there. absurd (none-some l (sym (ap (λ (h : Hand). slice_get h.locks i) has.0) ∙ there));
      put = tt;
    })
    which at.Over has e = absurd (none-some step e)

-- ---- the translations begin to be written, and all are

module _ {layout : Layout} {view : View} (t : Transfer) (maps : set.FinSet nat_cmp) (done : At) (given : Option BodyValue) (on : IsOnTurn view t.who) (sound : IsSound layout) (inside : t.page.0 < length layout.pages) (from : t.from.0 < layout.frames) (to : t.to.0 < layout.frames) (apart : t.from.0 ≢ t.to.0) (room : t.count ≤ length layout.trans + 2) where
  all-written : {base : List Made} (taken : InHand) → view.bodies ≡ taken ∷ [] → Carries base layout view t maps done given taken → (m : Remap) → IsRemapping layout view (record m { next = None }) → m.page ≡ t.page → m.from ≡ t.from → m.to ≡ t.to → m.count ≡ t.count → FitsAt base layout view t maps done given at.SetCache
  all-written {base} taken bodies carries m has page_is from_is to_is count_is = record {
    trans = has.trans;
    taken = taken;
    hand_is = has.hand_is
        ∙ ap (λ (n : ℕ). with_both m.from (m.page.0 + 1) (m.count - 1 - n) m.to (m.page.0 + 1) (n + 2) (page_held m.page (Some m.from) has.trans has.taken)) has.left_is
        ∙ ap (λ (x : InHand). with_both m.from (m.page.0 + 1) (m.count - 1 - 0) m.to (m.page.0 + 1) 2 (page_held m.page (Some m.from) has.trans x)) taken-is
        ∙ ap (λ (p : Page). with_both m.from (p.0 + 1) (m.count - 1 - 0) m.to (p.0 + 1) 2 (page_held p (Some m.from) has.trans taken)) page_is
        ∙ ap (λ (f : Frame). with_both f (t.page.0 + 1) (m.count - 1 - 0) m.to (t.page.0 + 1) 2 (page_held t.page (Some f) has.trans taken)) from_is
        ∙ ap (λ (f : Frame). with_both t.from (t.page.0 + 1) (m.count - 1 - 0) f (t.page.0 + 1) 2 (page_held t.page (Some t.from) has.trans taken)) to_is
        ∙ ap (λ (n : ℕ). with_both t.from (t.page.0 + 1) n t.to (t.page.0 + 1) 2 (page_held t.page (Some t.from) has.trans taken)) (let all : m.count - 1 - 0 ≡ t.count - 1 = omega (arith, count_is) in all);
    carries = carries;
    words = λ slot d declared own. has.words slot d declared (own ∙ sym page_is)
        ∙ ap (λ (x : InHand). Some (word_now (state_of layout x.log) m.from m.to None slot)) (taken-is ∙ carries.taken_is)
        ∙ ap (λ (f : Frame). Some (word_now (state_of layout carries.log) m.from f None slot)) to_is;
  }
    where
      taken-is : has.taken ≡ taken
      taken-is = same_Some has.taken taken (sym (ap (λ (h : Hand). slice_get h.bodies 0) has.hand_is) ∙ ap (λ l. slice_get l 0) bodies)

  writes-on : {base : List Made} (taken : InHand) → view.bodies ≡ taken ∷ [] → Carries base layout view t maps done given taken → (m : Remap) → remaps.Fits layout view m → m.who ≡ t.who → m.page ≡ t.page → m.from ≡ t.from → m.to ≡ t.to → m.count ≡ t.count → m.slots.value ≡ maps → FitsAt base layout view t maps done given (after_remap m)
  writes-on {base} taken bodies carries m fit own page_is from_is to_is count_is slots_are = which m.next fit
    where
      which : (n : Option VSlot) → remaps.Fits layout view (record m { next = n }) → FitsAt base layout view t maps done given (after_remap (record m { next = n }))
      which None fit = all-written taken bodies carries m fit.at page_is from_is to_is count_is
      which (Some slot) fit = record { remap = fit; own = own; page_is = page_is; from_is = from_is; to_is = to_is; count_is = count_is; slots_are = slots_are; taken = taken; bodies_are = bodies; carries = carries; under_way = refl }

  -- the first of them
  abbrev first-refs : List ℕ → InHand → Hand
  first-refs trans taken = with_both t.from (t.page.0 + 1) 1 t.to (t.page.0 + 1) t.count (page_held t.page (Some t.from) trans taken)

  begun : {base : List Made} (number : ℕ) → IsCount maps number → t.count ≡ number + 2 → (trans : List ℕ) (taken : InHand) → hand_of view ≡ first-refs trans taken → (carries : Carries base layout view t maps done given taken)
      → ((slot : ℕ) (d : TransDecl) → slice_get layout.trans slot ≡ Some d → d.page ≡ t.page → slice_get trans slot ≡ Some (fitting_word (state_of layout carries.log) (t.from.0 + 1) slot))
      → (next : Option VSlot) → IsNextFrom maps 0 next → IsRemapping layout view (remaps.begin t.who t.page t.from t.to maps t.count next)
  begun {base} number counts count_is trans taken hand carries words next lowest = record {
    trans = trans;
    taken = taken;
    left = number;
    left_is = subst (λ (n : Option VSlot). CountsOn maps n number) (one-next maps 0 counts.0 next counts.1 lowest) counts.2;
    hand_is = hand
        ∙ ap (λ (n : ℕ). with_both t.from (t.page.0 + 1) n t.to (t.page.0 + 1) t.count (page_held t.page (Some t.from) trans taken)) (let one : 1 ≡ t.count - 1 - number = omega (arith, count_is) in one)
        ∙ ap (λ (n : ℕ). with_both t.from (t.page.0 + 1) (t.count - 1 - number) t.to (t.page.0 + 1) n (page_held t.page (Some t.from) trans taken)) count_is;
    taken_is = taken-page carries;
    slots_are = slots-are;
    declared = λ slot used. declared-of (λ (d : TransDecl). d.page ≡ t.page) (slice_get layout.trans slot) (replay-own carries.entry.replay slot (ap (λ m. set.contains m slot) (sym carries.maps_are) ∙ used));
    words = λ slot d declared own. words slot d declared own ∙ ap (λ (n : ℕ). Some n) (same slot (set.contains (state_of layout carries.log).maps slot) refl)
        ∙ ap (λ (x : InHand). Some (word_now (state_of layout x.log) t.from t.to next slot)) (sym carries.taken_is);
    few = omega (arith, count_is);
    member = member next lowest;
  }
    where
      slots-are : maps ≡ (state_of layout taken.log).maps
      slots-are = carries.maps_are ∙ ap (λ (x : InHand). (state_of layout x.log).maps) (sym carries.taken_is)

      same : (slot : ℕ) (b : Bool) → set.contains (state_of layout carries.log).maps slot ≡ b → fitting_word (state_of layout carries.log) (t.from.0 + 1) slot ≡ word_now (state_of layout carries.log) t.from t.to next slot
      same slot true used = ap (λ (d : Bool). cond (set.contains (state_of layout carries.log).maps slot) (cond d (t.to.0 + 1) (t.from.0 + 1)) (cond (set.contains (state_of layout carries.log).bar slot) (pte_word ptes.Poison) 0))
          (sym (none-done maps next lowest slot (ap (λ m. set.contains m slot) carries.maps_are ∙ used)))
      same slot false none = ap (λ (b : Bool). cond b (t.from.0 + 1) (cond (set.contains (state_of layout carries.log).bar slot) (pte_word ptes.Poison) 0)) none
          ∙ sym (ap (λ (b : Bool). cond b (cond (is_done next slot) (t.to.0 + 1) (t.from.0 + 1)) (cond (set.contains (state_of layout carries.log).bar slot) (pte_word ptes.Poison) 0)) none)

      member : (n : Option VSlot) → IsNextFrom maps 0 n → (slot : VSlot) → n ≡ Some slot → set.contains maps slot.0 ≡ true
      member None none slot is = absurd (none-some slot is)
      member (Some v) low slot is = subst (λ (x : VSlot). set.contains maps x.0 ≡ true) (same_Some v slot is) low.1.member

  starts : {base : List Made} (number : ℕ) → IsCount maps number → t.count ≡ number + 2 → (trans : List ℕ) (taken : InHand) → hand_of view ≡ first-refs trans taken → (carries : Carries base layout view t maps done given taken)
      → ((slot : ℕ) (d : TransDecl) → slice_get layout.trans slot ≡ Some d → d.page ≡ t.page → slice_get trans slot ≡ Some (fitting_word (state_of layout carries.log) (t.from.0 + 1) slot))
      → (x : RelocateAt) → StartsRemap t maps x → FitsAt base layout view t maps done given x
  starts {base} number counts count_is trans taken hand carries words x is = subst (FitsAt base layout view t maps done given) (sym is.next_is) (subst (λ (m : Remap). FitsAt base layout view t maps done given (after_remap m)) (sym is.begun.is)
      (writes-on taken (ap (λ (h : Hand). h.bodies) hand) carries (remaps.begin t.who t.page t.from t.to maps t.count is.remap.next)
      (record { on_turn = on; sound = sound; page = inside; from = from; to = to; apart = apart; room = room; at = begun number counts count_is trans taken hand carries words is.remap.next is.begun.lowest })
      refl refl refl refl refl refl))

-- ---- what follows fits

either-grows : (b : Bool) (v w old : View) (s : Sight) → v.sights ≡ old.sights → w.sights ≡ old.sights ++ s ∷ [] → Grown old.sights (cond b v w).sights
either-grows true v w old s same more = inl same
either-grows false v w old s same more = inr (s, more)

abbrev shown : Refer → View → ℕ → Sight
shown f old found = record { stamp = stamp_of f.who (noted f.who old); place = places.Frame f.frame; word = found }

-- a step by which references are taken shows at most one word
refer-grows : {layout : Layout} {old new : View} {step : Step} {found : ℕ} {got : Option BodyValue} (f : Refer) → refers.plan f ≡ Some step → Steps layout f.who step None old new found got → Grown old.sights new.sights
refer-grows {layout} {old} {new} {step} {found} {got} f is made = which f.at is
  where
    which : (x : ReferAt) → refers.plan_at f.frame f.count x ≡ Some step → Grown old.sights new.sights
    which refer_at.Load e = inr (shown f old found, ap (λ (v : View). v.sights) (steps-planned e made).told.next)
    which (refer_at.Get seen) e = subst (Grown old.sights) (sym (ap (λ (v : View). v.sights) (steps-planned e made).told.next))
        (either-grows (found == seen) (record (noted f.who old) { refs = with_refs f.frame f.count old.refs }) (sighted f.who (places.Frame f.frame) found (noted f.who old)) old (shown f old found) refl refl)
    which refer_at.Over e = absurd (none-some step e)

refer-lists : (f : Refer) (step : Step) → refers.plan f ≡ Some step → ListsNone step
refer-lists f step is = which f.at is
  where
    which : (x : ReferAt) → refers.plan_at f.frame f.count x ≡ Some step → ListsNone step
    which refer_at.Load e = subst ListsNone (same_Some (steps.Load (places.Frame f.frame)) step e) tt
    which (refer_at.Get seen) e = subst ListsNone (same_Some (steps.GetRef f.frame seen f.count) step e) tt
    which refer_at.Over e = absurd (none-some step e)

record IsSame (m after : Remap) : Type 0 where
  who : after.who ≡ m.who
  page : after.page ≡ m.page
  from : after.from ≡ m.from
  to : after.to ≡ m.to
  count : after.count ≡ m.count
  slots : after.slots.value ≡ m.slots.value

same-remap : (m after : Remap) → remaps.Follows m after → IsSame m after
same-remap m after follows = which m.next follows
  where
    of : (next : Option VSlot) → after ≡ record m { next = next } → IsSame m after
    of next is = record { who = ap (λ (x : Remap). x.who) is; page = ap (λ (x : Remap). x.page) is; from = ap (λ (x : Remap). x.from) is; to = ap (λ (x : Remap). x.to) is; count = ap (λ (x : Remap). x.count) is; slots = ap (λ (x : Remap). x.slots.value) is }

    which : (n : Option VSlot) → remaps.FollowsAt m n after → IsSame m after
    which None is = of m.next is
    which (Some slot) is = of after.next is.0

abbrev now : List Made → Layout → View → Relocate → RelocateAt → Type 0
now base layout view r x = FitsAt base layout view r.transfer r.maps r.done r.body x

module _ {base : List Made} {layout : Layout} {old new : View} (r : Relocate) {step : Step} {found : ℕ} {got : Option BodyValue} (fits : FitsFrom base layout old r) (on : IsOnTurn new r.transfer.who) where
  -- ---- references

  module _ (f : Refer) (has : IsReferring base layout old r.transfer r.maps r.done r.body f) (e : refers.plan f ≡ Some step) (made : Steps layout r.transfer.who step None old new found got) where
    own : Steps layout f.who step None old new found got
    own = subst (λ (w : Who). Steps layout w step None old new found got) (sym has.own) made

    grown : Grown old.sights new.sights
    grown = refer-grows f e own

    same : deeds r.transfer.who new ≡ deeds r.transfer.who old
    same = deeds-same r.transfer.who (refer-lists f step e) made

    under-way : is_none (refers.plan_at r.transfer.to (r.transfer.count - 1) f.at) ≡ false
    under-way = ap (λ (g : Frame). is_none (refers.plan_at g (r.transfer.count - 1) f.at)) (sym has.frame_is) ∙ ap (λ (n : ℕ). is_none (refers.plan_at f.frame n f.at)) (sym has.count_is) ∙ has.under_way

    hand : hand_of new ≡ refs-of r.transfer has.ahead.trans has.ahead.taken (referred r.transfer.count (refers.next f found).at)
    hand = referring.held-after f e own (refs-of r.transfer has.ahead.trans has.ahead.taken (referred r.transfer.count f.at)) has.ahead.hand_is
        ∙ ap (λ (g : Frame). refers.hand_next_at g f.count f.at found (refs-of r.transfer has.ahead.trans has.ahead.taken (referred r.transfer.count f.at))) has.frame_is
        ∙ ap (λ (n : ℕ). refers.hand_next_at r.transfer.to n f.at found (refs-of r.transfer has.ahead.trans has.ahead.taken (referred r.transfer.count f.at))) has.count_is
        ∙ refer-on r.transfer has.ahead.trans has.ahead.taken f.at found (let two = some r fits in omega (arith, two)) fits.apart under-way

    after-refer : (y : ReferAt) → refers.Fits layout new (record f { at = y }) → hand_of new ≡ refs-of r.transfer has.ahead.trans has.ahead.taken (referred r.transfer.count y) → (x : RelocateAt) → AfterReferAt r.transfer r.maps (record f { at = y }) y x → now base layout new r x
    after-refer refer_at.Load fit hand x is = subst (now base layout new r) (sym is) (record { ahead = ahead-on has.ahead hand grown same; refer = fit; own = has.own; frame_is = has.frame_is; count_is = has.count_is; under_way = refl })
    after-refer (refer_at.Get seen) fit hand x is = subst (now base layout new r) (sym is) (record { ahead = ahead-on has.ahead hand grown same; refer = fit; own = has.own; frame_is = has.frame_is; count_is = has.count_is; under_way = refl })
    after-refer refer_at.Over fit hand x is = starts r.transfer r.maps r.done r.body on fits.sound fits.page fits.from fits.to fits.apart fits.room fits.number fits.counted fits.count_is has.ahead.trans has.ahead.taken hand (carry-on has.ahead.carries grown same) has.ahead.words x is

    refer-fits : (x : RelocateAt) (turn : Turn) → IsReferred r.transfer r.maps f found x turn → now base layout new r x
    refer-fits x turn is = after-refer (refers.next f found).at (referring.both layout old new f step found got has.refer e own) hand x is.0

  -- ---- translations

  module _ (m : Remap) (has : IsWriting base layout old r.transfer r.maps r.done r.body m) (e : remaps.plan m ≡ Some step) (made : Steps layout r.transfer.who step None old new found got) where
    its : Steps layout m.who step None old new found got
    its = subst (λ (w : Who). Steps layout w step None old new found got) (sym has.own) made

    sights-same : new.sights ≡ old.sights
    sights-same = which m.next e
      where
        which : (n : Option VSlot) → remaps.plan_at m.to n ≡ Some step → new.sights ≡ old.sights
        which None e = absurd (none-some step e)
        which (Some slot) e = ap (λ (v : View). v.sights) (steps-planned e its).told.next

    bodies-same : new.bodies ≡ old.bodies
    bodies-same = which m.next e
      where
        which : (n : Option VSlot) → remaps.plan_at m.to n ≡ Some step → new.bodies ≡ old.bodies
        which None e = absurd (none-some step e)
        which (Some slot) e = ap (λ (v : View). v.bodies) (steps-planned e its).told.next

    remap-shows : remaps.Shows m
    remap-shows = (remapping.both layout old new m step found got has.remap e its).0

    remap-fits : (x : RelocateAt) → IsRemapped m x → now base layout new r x
    remap-fits x is = subst (now base layout new r) (sym is.next_is)
        (writes-on r.transfer r.maps r.done r.body on fits.sound fits.page fits.from fits.to fits.apart fits.room has.taken (bodies-same ∙ has.bodies_are)
        (carry-on has.carries (inl sights-same) (deeds-same r.transfer.who (remapping.remap-lists m step e) made)) is.after
        ((remapping.both layout old new m step found got has.remap e its).1 is.after is.follows)
        (fields.who ∙ has.own) (fields.page ∙ has.page_is) (fields.from ∙ has.from_is) (fields.to ∙ has.to_is) (fields.count ∙ has.count_is) (fields.slots ∙ has.slots_are))
      where
        fields : IsSame m is.after
        fields = same-remap m is.after is.follows

  -- ---- the new frame released

  module _ (l : Release) (has : IsReleasing base layout old r.transfer r.done l) (e : releases.plan l ≡ Some step) (made : Steps layout r.transfer.who step None old new found got) where
    of-release : Steps layout l.who step None old new found got
    of-release = subst (λ (w : Who). Steps layout w step None old new found got) (sym has.own) made

    on-its-way : is_none (releases.plan_at r.transfer.to 1 l.at) ≡ false
    on-its-way = ap (λ (g : Frame). is_none (releases.plan_at g 1 l.at)) (sym has.frame_is) ∙ ap (λ (n : ℕ). is_none (releases.plan_at l.frame n l.at)) (sym has.count_is) ∙ has.under_way

    released-hand : hand_of new ≡ releasing r.transfer (releases.next l found).at
    released-hand = releasing_laws.held-after l e of-release has.release (releasing r.transfer l.at) has.hand_is
        ∙ ap (λ (g : Frame). releases.hand_next_at g l.count l.at found (releasing r.transfer l.at)) has.frame_is
        ∙ ap (λ (n : ℕ). releases.hand_next_at r.transfer.to n l.at found (releasing r.transfer l.at)) has.count_is
        ∙ released r.transfer l.at found fits.apart on-its-way
        ∙ ap (λ (n : ℕ). releasing r.transfer (releases.next_at n l.at found)) (sym has.count_is)

    still-moved : HasMoved base new r.transfer.who r.done
    still-moved = has-made-stays r.transfer.who old new (deeds-same r.transfer.who (release-lists l step e) made) has.moved

    after-release : (y : ReleaseAt) → releases.Fits layout new (record l { at = y }) → hand_of new ≡ releasing r.transfer y → now base layout new r (after_release (record l { at = y }))
    after-release release_at.Put fit hand = record { hand_is = hand; release = fit; own = has.own; frame_is = has.frame_is; count_is = has.count_is; under_way = refl; moved = still-moved }
    after-release (release_at.Give word) fit hand = record { hand_is = hand; release = fit; own = has.own; frame_is = has.frame_is; count_is = has.count_is; under_way = refl; moved = still-moved }
    after-release (release_at.Unreserve word) fit hand = record { hand_is = hand; release = fit; own = has.own; frame_is = has.frame_is; count_is = has.count_is; under_way = refl; moved = still-moved }
    after-release (release_at.Adopt word) fit hand = record { hand_is = hand; release = fit; own = has.own; frame_is = has.frame_is; count_is = has.count_is; under_way = refl; moved = still-moved }
    after-release (release_at.Retire word) fit hand = record { hand_is = hand; release = fit; own = has.own; frame_is = has.frame_is; count_is = has.count_is; under_way = refl; moved = still-moved }
    after-release (release_at.Back word) fit hand = (hand, still-moved)

    release-fits : now base layout new r (after_release (releases.next l found))
    release-fits = after-release (releases.next l found).at (releasing_laws.moved l e of-release has.release) released-hand

-- the new frame, unlocked, can be released
released-begins : {layout : Layout} {new : View} (t : Transfer) → IsOnTurn new t.who → t.to.0 < layout.frames → t.from.0 ≢ t.to.0 → hand_of new ≡ releasing t release_at.Put → releases.Fits layout new (releases.begin t.who t.to 1)
released-begins {layout} {new} t on to apart hand = record {
  on_turn = on;
  frame = to;
  at = (
    omega arith,
    subst (λ (h : Hand). 1 + locks_on t.to.0 h.locks ≤ refs_on t.to.0 h.refs) (sym hand) (omega (arith, refs-to t.from t.to t.count 1 apart, unlocked-so)),
    subst (λ (h : Hand). length h.locks < 2) (sym hand) (omega arith),
  );
}
  where
    unlocked-so : locks_on t.to.0 (old_lock t.from 0 ∷ []) ≡ 0
    unlocked-so = let other : (t.from.0 == t.to.0) ≡ false = ne_eqb t.from.0 t.to.0 apart in grind arith

pub both : {base : List Made} (layout : Layout) (old new : View) (r : Relocate) (step : Step) (found : ℕ) (got : Option BodyValue) → FitsFrom base layout old r → plan r ≡ Some step → Steps layout r.transfer.who step (logs (put r)) old new found got
    → Shows (bare r) × ((x : RelocateAt) (turn : Turn) → FollowsAt r.transfer r.maps r.at found x turn → FitsAt base layout new r.transfer r.maps r.done (left_at r.body r.at) x)
both {base} layout old new r step found got fits is made = which r.at is fits.at made
  where
    on : IsOnTurn new r.transfer.who
    on = on-turn-after fits.on_turn made

    refer-begins : (has : IsAhead base layout new r.transfer r.maps r.done r.body (at.Refer (refers.begin r.transfer.who r.transfer.to (r.transfer.count - 1))) r.transfer.from) → refers.Fits layout new (refers.begin r.transfer.who r.transfer.to (r.transfer.count - 1))
    refer-begins has =
        let two = some r fits in
        let room : _ = fits.room in
        let refs : refs_on r.transfer.to.0 new.refs ≡ 1 = ap (λ (h : Hand). refs_on r.transfer.to.0 h.refs) has.hand_is ∙ refs-to r.transfer.from r.transfer.to 1 1 fits.apart in
        record { on_turn = on; frame = fits.to; at = record { some = omega (arith, refs); more = omega (arith, two); room = omega (arith, refs, two, room) } }

    which : (x : RelocateAt) → plan_at r.transfer x ≡ Some step → FitsAt base layout old r.transfer r.maps r.done r.body x → Steps layout r.transfer.who step (logs (put_at r.body x)) old new found got
        → ShowsAt r.maps x × ((y : RelocateAt) (turn : Turn) → FollowsAt r.transfer r.maps x found y turn → FitsAt base layout new r.transfer r.maps r.done (left_at r.body x) y)
    which at.Count e has made = (tt, λ y turn follows. subst (FitsAt base layout new r.transfer r.maps r.done r.body) (sym follows.0) (counted r.transfer r.maps r.done r.body fits.apart (steps-planned e made) has.0))
    which at.SetOwner e has made = (
      tt,
      λ y turn follows.
          let ahead = owner-set r.transfer r.maps r.done r.body fits.apart (steps-planned e made) has in
          subst (FitsAt base layout new r.transfer r.maps r.done r.body) (sym follows.0) (record { ahead = ahead; refer = refer-begins ahead; own = refl; frame_is = refl; count_is = refl; under_way = refl }),
    )
    which (at.Refer f) e has made = (tt, λ y turn follows. refer-fits r fits on f has e made y turn follows)
    which (at.Remap m) e has made = ((remap-shows r fits on m has e made, has.slots_are), λ y turn follows. remap-fits r fits on m has e made y follows.0)
    which at.SetCache e has made = (tt, λ y turn follows. subst (FitsAt base layout new r.transfer r.maps r.done r.body) (sym follows.0) (cache-set r.transfer r.maps r.done r.body fits.apart (small r fits) (some r fits) fits.page (steps-planned e made) has))
    which at.ClearOwner e has made = (tt, λ y turn follows. subst (FitsAt base layout new r.transfer r.maps r.done r.body) (sym follows.0) (owner-cleared r.transfer r.maps r.done r.body fits.apart (steps-planned e made) has))
    which at.UnlockFrame e has made = (
      tt,
      λ y turn follows.
          let home = unlocked r.transfer r.maps r.done r.body fits.apart (steps-planned e made) has in
          subst (FitsAt base layout new r.transfer r.maps r.done None) (sym follows.0) (record { hand_is = home.0; release = released-begins r.transfer on fits.to fits.apart home.0; own = refl; frame_is = refl; count_is = refl; under_way = refl; moved = home.1 }),
    )
    which (at.Release l) e has made = (tt, λ y turn follows. subst (FitsAt base layout new r.transfer r.maps r.done r.body) (sym follows.0) (release-fits r fits on l has e made))
    which at.PutRef e has made = (
      tt,
      λ y turn follows. subst (FitsAt base layout new r.transfer r.maps r.done r.body) (sym follows.0)
          (refs-put r.transfer r.maps r.done r.body fits.apart fits.from (some r fits) (steps-planned e made) has.0, has-made-stays r.transfer.who old new (deeds-same r.transfer.who tt (steps-planned e made)) has.1),
    )
    which at.Retire e has made = (
      tt,
      λ y turn follows. subst (FitsAt base layout new r.transfer r.maps r.done r.body) (sym follows.0)
          (retired r.transfer r.maps r.done r.body fits.apart (steps-planned e made) has.0, has-made-stays r.transfer.who old new (deeds-same r.transfer.who tt (steps-planned e made)) has.1),
    )
    which at.UnlockPage e has made = (
      tt,
      λ y turn follows. subst (FitsAt base layout new r.transfer r.maps r.done r.body) (sym follows.0)
          (let-go r.transfer r.maps r.done r.body fits.apart (steps-planned e made) has.0, has-made-stays r.transfer.who old new (deeds-same r.transfer.who tt (steps-planned e made)) has.1),
    )
    which at.Over e has made = absurd (none-some step e)

pub stays : {base : List Made} (layout : Layout) (old new : View) (r : Relocate) (step : Step) (found : ℕ) (got : Option BodyValue) → FitsFrom base layout old r → plan r ≡ Some step → Steps layout r.transfer.who step (logs (put r)) old new found got
    → Shows (bare r) × ((after : Relocate) (turn : Turn) → Follows (bare r) found after turn → FitsFrom base layout new after × (after.transfer.who.cpu ≡ r.transfer.who.cpu))
stays {base} layout old new r step found got fits is made = let all = both layout old new r step found got fits is made in (
  all.0,
  λ after turn follows. (
    subst (FitsFrom base layout new) (sym follows.0) (record {
      on_turn = on-turn-after fits.on_turn made;
      sound = fits.sound;
      page = fits.page;
      from = fits.from;
      to = fits.to;
      apart = fits.apart;
      place = fits.place;
      number = fits.number;
      counted = fits.counted;
      count_is = fits.count_is;
      room = fits.room;
      at = all.1 after.at turn follows.1;
    }),
    ap (λ (x : Relocate). x.transfer.who.cpu) follows.0,
  ),
)

-- whatever the command had made before
pub lawful : IsTask relocate-task
lawful = record {
  can = λ layout view r step fits is. can layout view r step fits.1 is;
  stays = λ layout old new r step found got fits is made.
      let all = stays layout old new r step found got fits.1 is made in (all.0, λ after turn follows. let next = all.1 after turn follows in ((fits.0, next.0), next.1));
}

-- ---- what the parent gets

-- once it is over nothing is held, and the command made its entry
pub relocated : {base : List Made} (layout : Layout) (view : View) (r : Relocate) → FitsFrom base layout view r → is_none (plan r) ≡ true → (hand_of view ≡ empty) × HasMoved base view r.transfer.who r.done
relocated {base} layout view r fits over = which r.at fits.at over
  where
    which : (x : RelocateAt) → FitsAt base layout view r.transfer r.maps r.done r.body x → is_none (plan_at r.transfer x) ≡ true → (hand_of view ≡ empty) × HasMoved base view r.transfer.who r.done
    which at.Count has is = absurd (both_ways true (sym is) refl)
    which at.SetOwner has is = absurd (both_ways true (sym is) refl)
    which (at.Refer f) has is = absurd (both_ways true (sym is ∙ has.under_way) refl)
    which (at.Remap m) has is = absurd (both_ways true (sym is ∙ still m.next has.under_way) refl)
      where
        still : (n : Option VSlot) → is_none n ≡ false → is_none (remaps.plan_at m.to n) ≡ false
        still None going = going
        still (Some slot) going = refl
    which at.SetCache has is = absurd (both_ways true (sym is) refl)
    which at.ClearOwner has is = absurd (both_ways true (sym is) refl)
    which at.UnlockFrame has is = absurd (both_ways true (sym is) refl)
    which (at.Release l) has is = absurd (both_ways true (sym is ∙ has.under_way) refl)
    which at.PutRef has is = absurd (both_ways true (sym is) refl)
    which at.Retire has is = absurd (both_ways true (sym is) refl)
    which at.UnlockPage has is = absurd (both_ways true (sym is) refl)
    which at.Over has is = has
