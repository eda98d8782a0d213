-- A translation written when it is no longer in use.
use Rattle.std.proofs.Common.{◌≡◌, ◌≢◌, ◌⊎◌, inl, inr, ℕ, ◌+◌, ◌^◌, ◌<◌, ◌≤◌, ◌==◌, ◌&&◌, Bool, true, false, not, cond, List, [], ◌∷◌, Option, Some, None, length, slice_get, slice_set, refl, sym, ap, ◌∙◌, subst, arith}
use Rattle.std.proofs.lemmas.Bool.{ne_eqb}
use Rattle.std.proofs.lemmas.Option.{none-some, same_Some}
use Rattle.std.specs.FinSet as set
use Rattle.std.specs.List.{find}
use Rattle.hwp_core.specs.hwp_geom.declared.Frame.{Frame}
use Rattle.hwp_core.specs.hwp_geom.declared.Layout.{Layout}
use Rattle.hwp_core.specs.hwp_geom.declared.Page.{Page}
use Rattle.hwp_core.specs.hwp_geom.declared.TransDecl.{TransDecl}
use Rattle.hwp_core.specs.hwp_geom.declared.VSlot.{VSlot}
use Rattle.hwp_core.specs.hwp_geom.declared.Who.{Who}
use Rattle.hwp_core.specs.hwp_page.declared.At.{At}
use Rattle.hwp_core.specs.hwp_page.declared.PageState.{PageState}
use Rattle.hwp_core.specs.hwp_page.History.{BodyValue}
use Rattle.hwp_core.specs.hwp_page.Step.{IsOf}
use Rattle.hwp_core.specs.hwp_words.Translations.{pte_word}
use Rattle.hwp_core.specs.hwp_words.declared.Pte.TheVariants as ptes
use Rattle.hwp_core.specs.hwp_core_rule.declared.Made.{Made}
use Rattle.hwp_core.specs.hwp_core_rule.declared.InHand.{InHand}
use Rattle.hwp_core.specs.hwp_core_rule.declared.Log.{Log}
use Rattle.hwp_core.specs.hwp_core_rule.declared.Step.TheVariants as steps
use Rattle.hwp_core.specs.hwp_core_rule.declared.View.{View}
use Rattle.hwp_core.specs.hwp_core_rule.Asks.{CanFree, CanSetPte}
use Rattle.hwp_core.specs.hwp_core_rule.Logs.{log_of, state_of, fitting_word}
use Rattle.hwp_core.specs.hwp_core_rule.Views.{frame_in, is_body_of, refs_on, with_named}
use Rattle.hwp_core.specs.hwp_core_rule.parts.Fits.{FitsWords}
use Rattle.hwp_core.proofs.of_hwp_core_rule.PageWords.{fitting-at}
use Rattle.hwp_core.proofs.of_hwp_core_rule.Lists.{same-number, same-or, set_here, set_else}
use Rattle.hwp_core.proofs.of_hwp_core_rule.MetWords.{frame-named, lock-knows}
use Rattle.hwp_core.specs.hwp_core_rule.Calls.{IsOnTurn, Steps}
use Rattle.hwp_core.specs.hwp_core_rule.Hands.{Hand, hand_of, body_in}
use Rattle.hwp_core.proofs.of_hwp_core_rule.tasks.StepLeaves.{hand-planned}
use Rattle.hwp_core.proofs.of_hwp_core_rule.tasks.MadeEntries.{deeds-same}
use Rattle.hwp_core.specs.Holds.{page_lock, refs_to}
use Rattle.hwp_core.specs.Unholds as unholds
use Rattle.hwp_core.specs.Unholds.{holding}
use Rattle.hwp_core.proofs.HoldEnds.{ahead-unholds}
use Rattle.hwp_core.proofs.TranslationWrites.{declared-of, trans-word}
use Rattle.hwp_evict.specs.declared.evict.EvictAnswer.TheVariants as answers
use Rattle.hwp_evict.specs.declared.evict.EvictAt.TheVariants as at
use Rattle.hwp_evict.specs.declared.evict.Eviction.TheVariants as evictions
use Rattle.hwp_evict.specs.Evicts.{IsFreeing, FitsAt}
use Rattle.hwp_evict.proofs.EntryHome.{goes-home, one-more, state-after, word-is, words}
use Rattle.hwp_core.proofs.PageStates.{has-less, replay-apart}
use Rattle.hwp_core.proofs.VacateLaws.{lock-held, refs-are}

module _ {base : List Made} {layout : Layout} {old : View} {who : Who} {page : Page} {slot : VSlot} {frame : Frame} {body : BodyValue} {done : At} (has : IsFreeing base layout old who page (evictions.Free slot) frame body done) (own : IsOf layout page slot) where
  abbrev state : PageState
  state = state_of layout has.log

  abbrev before : List ℕ
  before = words has.entry frame has.seen

  abbrev taken : InHand
  taken = body_in (Some frame) has.log has.seen

  decl : (t : TransDecl) × (slice_get layout.trans slot.0 ≡ Some t) × (t.page ≡ page)
  decl = declared-of (λ (t : TransDecl). t.page ≡ page) (slice_get layout.trans slot.0) own

  used : set.contains state.maps slot.0 ≡ true
  used = has.entry.allowed

  names-frame : slice_get before slot.0 ≡ Some (frame.0 + 1)
  names-frame = fitting-at has.log.page state (frame.0 + 1) 0 layout.trans slot.0 decl.0 decl.1 (decl.2 ∙ sym has.entry.page_is)
      ∙ ap (λ (n : ℕ). Some (fitting_word state (frame.0 + 1) n)) (let first : 0 + slot.0 ≡ slot.0 = omega arith in first)
      ∙ ap (λ (b : Bool). Some (cond b (frame.0 + 1) (cond (set.contains state.bar slot.0) (pte_word ptes.Poison) 0))) used

  pages : old.pages ≡ page_lock page (Some frame) (Some before) ∷ []
  pages = ap (λ (h : Hand). h.pages) has.hand_is

  small : frame.0 < 2 ^ 16
  small = let few : _ = has.sound.frames in let inside : _ = has.within in omega (arith, few, inside)

  pub can-write : CanSetPte layout old slot ptes.Empty
  can-write = record {
    decl = decl.0;
    declared = decl.1;
    page_held = record {
      lock = record { lock = page_lock page (Some frame) (Some before); listed = ap (λ l. slice_get l 0) pages; page_is = sym decl.2 };
      body = taken;
      body_is = ap (λ (h : Hand). find (is_body_of decl.0.page) h.bodies) has.hand_is ∙ ap (λ (b : Bool). cond b (Some taken) None) (same-number has.log.page.0 decl.0.page.0 (ap (λ (p : Page). p.0) (has.entry.page_is ∙ sym decl.2)));
      cache = frame.0 + 1;
      cache_is = refl;
      trans = before;
      trans_is = refl;
    };
    old = frame.0 + 1;
    old_is = names-frame;
    frames = (
      λ f named. subst (CanFree layout old) (same_Some frame f (sym (frame-named frame small) ∙ named)) (record {
        has = lock-held _ (ap (λ (h : Hand). h.locks) has.hand_is) refl;
        room = subst (λ (n : ℕ). n + 1 ≤ length layout.trans + 2) (sym (ap (λ (h : Hand). refs_on frame.0 h.refs) has.hand_is ∙ refs-are frame 1)) (omega arith);
      }),
      λ f none. absurd (none-some f none),
    );
  }

  -- ---- after the step

  module _ {new : View} {found : ℕ} {got : Option BodyValue} (on : IsOnTurn new who) (inside : page.0 < length layout.pages) (within : slot.0 < length layout.trans) (made : Steps layout who (steps.SetPte slot ptes.Empty) None old new found got) where
    abbrev now : List ℕ
    now = slice_set before slot.0 0

    word : found ≡ frame.0 + 1
    word = same_Some found (frame.0 + 1) (sym (trans-word layout made.told.board made.told.rule slot found within made.told.met)
        ∙ sym ((lock-knows layout made.told.board made.told.rule made.told.seat old made.told.me (page_lock page (Some frame) (Some before)) (ap (λ l. slice_get l 0) pages)).words before refl slot.0 decl.0 decl.1 decl.2)
        ∙ names-frame)

    hand : hand_of new ≡ holding page (Some frame) 2 now taken has.handled has.poisoned
    hand = hand-planned made refl has.hand_is
        ∙ ap (λ (n : Option Frame). record (holding page (Some frame) 1 now taken has.handled has.poisoned) { refs = with_named n (refs_to frame 1) }) (ap frame_in word ∙ frame-named frame small)
        ∙ ap (λ (b : Bool). record (holding page (Some frame) 1 now taken has.handled has.poisoned) { refs = cond b (refs_to frame 2) (record { frame = frame; count = 1 } ∷ refs_to frame 1) }) (same-number frame.0 frame.0 refl)

    -- the words fit the state in which the translation isn't in use
    fits-now : FitsWords layout (log_of body) (frame.0 + 1) now
    fits-now = record {
      cached = ap not (ne_eqb (frame.0 + 1) 0 (λ e. omega (arith, e))) ∙ sym (ap (λ (s : PageState). s.cached) (state-after has.entry frame has.seen) ∙ has.entry.cached);
      used = λ v w t declared its there. by v w t declared its there (same-or v slot.0);
    }
      where
        maps-now : (v : ℕ) → set.contains (state_of layout (log_of body)).maps v ≡ (not (v == slot.0) && set.contains state.maps v)
        maps-now v = ap (λ (s : PageState). set.contains s.maps v) (state-after has.entry frame has.seen) ∙ has-less state.maps slot.0 v

        bar-now : (v : ℕ) → set.contains (state_of layout (log_of body)).bar v ≡ set.contains state.bar v
        bar-now v = ap (λ (s : PageState). set.contains s.bar v) (state-after has.entry frame has.seen)

        target : (v : ℕ) (m b : Bool) → set.contains (state_of layout (log_of body)).maps v ≡ m → set.contains (state_of layout (log_of body)).bar v ≡ b
            → fitting_word (state_of layout (log_of body)) (frame.0 + 1) v ≡ cond m (frame.0 + 1) (cond b (pte_word ptes.Poison) 0)
        target v m b maps bar = ap (λ (x : Bool). cond x (frame.0 + 1) (cond (set.contains (state_of layout (log_of body)).bar v) (pte_word ptes.Poison) 0)) maps
            ∙ ap (λ (x : Bool). cond m (frame.0 + 1) (cond x (pte_word ptes.Poison) 0)) bar

        by : (v w : ℕ) (t : TransDecl) → slice_get layout.trans v ≡ Some t → t.page ≡ body.page → slice_get now v ≡ Some w → (v ≡ slot.0) ⊎ (v ≢ slot.0) → w ≡ fitting_word (state_of layout (log_of body)) (frame.0 + 1) v
        by v w t declared its there (inl same) =
            same_Some w 0 (sym there ∙ ap (slice_get now) same ∙ set_here before slot.0 0 (frame.0 + 1) names-frame)
            ∙ sym (target v false false (maps-now v ∙ ap (λ (b : Bool). not b && set.contains state.maps v) (same-number v slot.0 same)) (bar-now v ∙ ap (set.contains state.bar) same ∙ replay-apart has.entry.replay slot.0 used))
        by v w t declared its there (inr other) =
            word-is has.entry frame has.seen v w t declared its (sym (set_else before slot.0 v 0 other) ∙ there)
            ∙ sym (target v (set.contains state.maps v) (set.contains state.bar v) (maps-now v ∙ ap (λ (b : Bool). not b && set.contains state.maps v) (ne_eqb v slot.0 other)) (bar-now v))

    pub freed : FitsAt base layout new who page (evictions.Free slot) (at.Unhold (unholds.begin who page (Some frame) 2 body) (answers.Done done))
    freed = record {
      unhold = ahead-unholds layout new who page (Some frame) 2 body on inside (record {
        body = body;
        given_is = refl;
        trans = now;
        taken = taken;
        handled = has.handled;
        poisoned = has.poisoned;
        hand_is = hand;
        home = goes-home has.entry frame has.seen new (Some frame) now (ap (λ (h : Hand). h.pages) hand) (ap (λ (h : Hand). h.bodies) hand) fits-now tt;
        page_is = its-page;
        taken_is = has.entry.page_is;
        layout_is = has.entry.layout_is;
      }) (omega arith) (λ f same. subst (λ (g : Frame). g.0 < layout.frames) (same_Some frame f same) has.within);
      own = refl;
      under_way = refl;
      knows = record {
        taken = taken;
        there = ap (λ (h : Hand). find (is_body_of body.page) h.bodies) hand ∙ ap (λ (b : Bool). cond b (Some taken) None) (same-number has.log.page.0 body.page.0 (sym (ap (λ (l : Log). l.page.0) has.entry.log_is)));
        page_is = its-page;
        made_none = deeds-same who tt made ∙ has.made_none;
        comes = (one-more has.entry frame has.seen, has.entry.done_is);
      };
    }
      where
        its-page : body.page ≡ page
        its-page = ap (λ (l : Log). l.page) has.entry.log_is ∙ has.entry.page_is
