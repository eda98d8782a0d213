-- The rule of the caches after a step of the frame rule.
use Rattle.std.proofs.Common.{◌≡◌, ◌≢◌, ◌⊎◌, ℕ, ◌+◌, ◌*◌, ◌/◌, ◌^◌, ◌<◌, ◌≤◌, ◌==◌, Bool, true, false, cond, List, [], ◌∷◌, ◌++◌, Some, map, set, length, slice_get, slice_index, inl, inr, refl, sym, ap, ◌∙◌, subst, arith}
use Rattle.std.specs.Int.{from_bool}
use Rattle.std.proofs.lemmas.Bool.{true≢false}
use Rattle.std.proofs.lemmas.Option.{none-some, same_Some, slice_get_within}
use Rattle.hwp_core_rule.specs.hwp_geom.declared.Frame.{Frame}
use Rattle.hwp_core_rule.specs.hwp_geom.declared.Layout.{Layout}
use Rattle.hwp_core_rule.specs.hwp_geom.declared.VSlot.{VSlot}
use Rattle.hwp_core_rule.specs.hwp_words.declared.Pte.{Pte}
use Rattle.hwp_core_rule.specs.hwp_words.Translations.{pte_word}
use Rattle.hwp_core_rule.specs.declared.Rec.{Rec}
use Rattle.hwp_core_rule.specs.declared.SharedWord.TheVariants as places
use Rattle.hwp_core_rule.specs.declared.State.{State}
use Rattle.hwp_core_rule.specs.declared.Step.{Step}
use Rattle.hwp_core_rule.specs.declared.Step.TheVariants as steps
use Rattle.hwp_core_rule.specs.declared.View.{View}
use Rattle.hwp_core_rule.specs.Asks.{AsksOf, CanSetPte, HasInHand}
use Rattle.hwp_core_rule.specs.Lists.{EachMember, SomeMember}
use Rattle.hwp_core_rule.specs.Moves.{Move}
use Rattle.hwp_core_rule.specs.parts.Fits.{KnowsWords}
use Rattle.hwp_core_rule.specs.Rule.{Holds}
use Rattle.hwp_core_rule.specs.Steps.{place_of, word_after}
use Rattle.hwp_core_rule.specs.Views.{frame_in, locks_on, noted, view_after}
use Rattle.hwp_core_rule.specs.Words.{IsPlace, Words, index, put, words_of}
use Rattle.hwp_core_rule.proofs.KnownByLocks.{lock-listed}
use Rattle.hwp_core_rule.proofs.Lists.{at_map, at_set, each-weaken, same-or, same-number, set_else, from_bool-same}
use Rattle.hwp_core_rule.proofs.MoveKeeps.{shaped}
use Rattle.hwp_core_rule.proofs.steps.NameSteps.{frame_in-name}
use Rattle.hwp_core_rule.proofs.WordsByKind.{word-there, words-put, words-read}
use Rattle.hwp_table_words.specs.tlb.Caching.{Caching, Cleared, Shown, upto_of, with_upto}
use Rattle.hwp_table_words.specs.tlb.Rule.{CachesAgree, HaveViews, IsCleared, IsShown, Knows, Leads, Seat, frames_of, locks_in, times}
use Rattle.hwp_table_words.specs.tlb.Steps.{IsGuarded, caching_after, mine_after}
use Rattle.hwp_table_words.specs.tlb.Words.{entry_word, is_of}
use Rattle.hwp_table_words.proofs.tlb.CachingLaws.{each-gone}
use Rattle.hwp_table_words.proofs.tlb.EntrySteps.{cleared-upto, raised-cleared}
use Rattle.hwp_table_words.proofs.tlb.LockSlots.{locks-after, locks_then}
use Rattle.hwp_table_words.proofs.tlb.LockTimes.{listed-in, times-append, times-cons, times-frames}
use Rattle.hwp_table_words.proofs.tlb.Named.{entry-frame, entry-leads, in-hand-unnamed, slot-few}
use Rattle.hwp_table_words.proofs.tlb.SeatViews.{listed-few, seats-apart}
use Rattle.hwp_table_words.proofs.tlb.StepKinds.{IsShowing, cleared-then, frees_lock, is_pte, pte-is, put-trans, seat-keeps, shown-then}

-- the translation words after a move
pub trans-moved : (layout : Layout) (s : State) → Holds layout s → (c : ℕ) (r : Rec) (t : State) → Move layout c r s t
    → (words_of layout t.words).trans ≡ (put (place_of r.step) (word_after r.step r.found) (words_of layout s.words)).trans
trans-moved layout s holds c r t move =
    ap (λ (u : State). (words_of layout u.words).trans) move.next ∙ ap (λ (w : Words). w.trans) (words-put layout s.words (place_of r.step) (word_after r.step r.found) holds.words move.asks.place)

-- a step that writes no translation leaves them as they were
pub same-trans : (layout : Layout) (s : State) → Holds layout s → (c : ℕ) (r : Rec) (t : State) → Move layout c r s t → is_pte r.step ≡ false → (words_of layout t.words).trans ≡ (words_of layout s.words).trans
same-trans layout s holds c r t move other =
    trans-moved layout s holds c r t move ∙ put-trans r.step r.found (words_of layout s.words) (move.met ∙ sym (words-read layout s.words (place_of r.step) move.asks.place)) other

module _ (ways : ℕ) (layout : Layout) (s : State) (entries : List ℕ) (seats : List Seat) (h : CachesAgree ways layout s entries seats) (holds : Holds layout s) (views : HaveViews s seats)
    (id : ℕ) (mines : List (ℕ × View)) (k : Caching) (me : slice_get seats id ≡ Some (mines, k)) where
  abbrev trans : List ℕ
  trans = (words_of layout s.words).trans

  abbrev locks : List ℕ
  locks = locks_in mines

  abbrev all-places : ℕ
  all-places = ways * layout.cpus

  right : Knows trans entries locks k
  right = h.knows id (mines, k) me

  module _ (c : ℕ) (v : View) (r : Rec) (t : State) (move : Move layout c r s t) (same-view : move.view ≡ v) (mine : SomeMember (λ (x : ℕ × View). x ≡ (c, v)) mines) (guarded : IsGuarded all-places v k) where
    abbrev then : List ℕ
    then = (words_of layout t.words).trans

    abbrev mines-then : List (ℕ × View)
    mines-then = map (mine_after layout c r) mines

    mine-at : slice_get mines mine.0 ≡ Some (c, v)
    mine-at = mine.2 ∙ ap Some mine.3

    view-at : slice_get s.views c ≡ Some v
    view-at = views.mines id (mines, k) me mine.0 (c, v) mine-at

    asks : AsksOf layout r.who r.step r.content v
    asks = subst (AsksOf layout r.who r.step r.content) same-view move.asks.kind

    -- a lock of the view is one of the seat
    listed : (f : ℕ) → 0 < locks_on f v.locks → 0 < times f locks
    listed f some = listed-in f c v mines mine (subst (λ (n : ℕ). 0 < n) (sym (times-frames f v.locks)) some)

    -- the view has the lock of the frame, and a page's
    abbrev HasBoth : ℕ → Type 0
    HasBoth f = (0 < locks_on f v.locks) × (0 < length v.pages)

    -- who writes a translation that leads to a frame has the frame's lock, and the page's
    old-locked : (slot : VSlot) (pte : Pte) → CanSetPte layout v slot pte → (f : ℕ) → f < 2 ^ 16 → slice_get trans slot.0 ≡ Some (f + 1) → HasBoth f
    old-locked slot pte can f small at =
        let lock = can.page_held.lock in
        let knows : KnowsWords layout trans (words_of layout s.words).caches lock.lock =
        holds.rule.pages.fits.known c (v.pages, v.bodies) (at_map (λ (v : View). (v.pages, v.bodies)) s.views c v view-at) 0 lock.lock lock.listed in
        let listed : slice_get can.page_held.trans slot.0 ≡ slice_get trans slot.0 = knows.words can.page_held.trans can.page_held.trans_is slot.0 can.decl can.declared (sym lock.page_is) in
        let old : can.old ≡ f + 1 = same_Some can.old (f + 1) (sym can.old_is ∙ listed ∙ at) in
        let frame : Frame = record { 0 = f } in
        let named : frame_in can.old ≡ Some frame = ap frame_in old ∙ frame_in-name (Some frame) small in
        (lock-listed v frame (can.frames.0 frame named).has, let within : 0 < length v.pages = slice_get_within v.pages 0 lock.lock lock.listed in within)

    -- a translation that leads to a frame does so after the step, or the step writes it
    still-leads : (n f : ℕ) → f < 2 ^ 16 → slice_get trans n ≡ Some (f + 1) → (slice_get then n ≡ Some (f + 1)) ⊎ HasBoth f
    still-leads n f small at = which (is_pte r.step) refl
      where
        writes : (step : Step) (found : ℕ) (slot : VSlot) (pte : Pte) → step ≡ steps.SetPte slot pte → (put (place_of step) (word_after step found) (words_of layout s.words)).trans ≡ set trans slot.0 (pte_word pte)
        writes step found slot pte is = ap (λ (u : Step). (put (place_of u) (word_after u found) (words_of layout s.words)).trans) is

        which : (b : Bool) → is_pte r.step ≡ b → (slice_get then n ≡ Some (f + 1)) ⊎ HasBoth f
        which false other = inl (ap (λ (l : List ℕ). slice_get l n) (same-trans layout s holds c r t move other) ∙ at)
        which true is =
            let pte = pte-is r.step is in
            elim (same-or n pte.0.0) [
              | inl here ↦ inr (old-locked pte.0 pte.1 (subst (λ (u : Step). AsksOf layout r.who u r.content v) pte.2 asks) f small (ap (slice_get trans) (sym here) ∙ at))
              | inr else ↦ inl (ap (λ (l : List ℕ). slice_get l n) (trans-moved layout s holds c r t move ∙ writes r.step r.found pte.0 pte.1 pte.2) ∙ set_else trans pte.0.0 n (pte_word pte.1) else ∙ at)
            ]

    -- no entry leads to a frame whose lock the view has, where it has a page's too
    unled : (f : ℕ) → HasBoth f → (i w n : ℕ) → n < 2 ^ 16 → slice_get entries i ≡ Some w → w ≡ entry_word n f → ⊥
    unled f has i w n few at is =
        let far : all-places ≤ upto_of f k.cleared = guarded has.1 f has.0 in
        let within : i < length entries = slice_get_within entries i w at in
        let count : length entries ≡ all-places = h.count in
        let inside : i < upto_of f k.cleared = omega (arith, far, within, count) in
        let other : is_of f w ≡ false = (cleared-upto entries locks f k.cleared right.cleared).none i w inside at in
        true≢false (sym (same-number (w / 2 ^ 20) (f + 1) (ap (λ (m : ℕ). m / 2 ^ 20) is ∙ entry-frame n f few)) ∙ other)

    lead-then : (i w : ℕ) → slice_get entries i ≡ Some w → (w ≡ 0) ⊎ Leads ways then i w
    lead-then i w at = elim (h.lead i w at) [
      | inl none ↦ inl none
      | inr leads ↦ elim (still-leads leads.slot leads.frame leads.fits leads.leads) [
        | inl stays ↦ inr (record { slot = leads.slot; frame = leads.frame; word_is = leads.word_is; fits = leads.fits; place_is = leads.place_is; leads = stays })
        | inr has ↦ absurd (unled leads.frame has i w leads.slot (let few : leads.slot < 4096 = slot-few layout s holds leads.slot (leads.frame + 1) leads.leads in omega (arith, few)) at leads.word_is)
      ]
    ]

    -- what another seat knows
    others : (j : ℕ) (x : Seat) → j ≢ id → slice_get seats j ≡ Some x → Knows then entries (locks_in x.0) x.1
    others j x other at = record {
      cleared = was.cleared;
      glimpse = was.glimpse;
      shown = λ sh is. let shown : IsShown trans (locks_in x.0) sh = was.shown sh is in record {
        locked = shown.locked;
        leads = elim (still-leads sh.slot sh.frame (listed-few layout s holds seats views sh.frame j x at shown.locked) shown.leads) [
          | inl stays ↦ stays
          | inr has ↦ absurd (seats-apart layout s holds seats views sh.frame j id x (mines, k) other at me shown.locked (listed sh.frame has.0))
        ];
      };
    }
      where
        was : Knows trans entries (locks_in x.0) x.1
        was = h.knows j x at

    -- what the seat itself knows
    keeps : (f : ℕ) → frees_lock r.step f ≡ false → 0 < times f locks → 0 < times f (locks_in mines-then)
    keeps f other some = let more : times f locks ≤ times f (locks_in mines-then) = seat-keeps layout c r f mines other in omega (arith, more, some)

    still-cleared : (x : Cleared) → frees_lock r.step x.frame ≡ false → IsCleared entries locks x → IsCleared entries (locks_in mines-then) x
    still-cleared x other was = record { locked = λ some. keeps x.frame other (was.locked some); none = was.none }

    -- an adopted frame is locked then, and no entry names it
    adopted : (frame : Frame) → r.step ≡ steps.Adopt frame → EachMember (IsCleared entries (locks_in mines-then)) (with_upto frame.0 all-places k.cleared)
    adopted frame is = raised-cleared entries (locks_in mines-then) frame.0 all-places k.cleared locked none
        (each-weaken (IsCleared entries locks) (IsCleared entries (locks_in mines-then)) k.cleared (λ x was. still-cleared x (ap (λ (u : Step). frees_lock u x.frame) is) was) right.cleared)
      where
        after : frames_of (view_after layout r v).locks ≡ frames_of v.locks ++ frame.0 ∷ []
        after = locks-after layout r.who r.step r.found r.content (noted r.who v) ∙ ap (λ (u : Step). locks_then u r.found (frames_of v.locks)) is

        there : SomeMember (λ (x : ℕ × View). x ≡ (c, view_after layout r v)) mines-then
        there = (mine.0, mine_after layout c r (c, v), at_map (mine_after layout c r) mines mine.0 (c, v) mine-at, ap (λ (b : Bool). (c, cond b (view_after layout r v) v)) (same-number c c refl))

        more : 0 < times frame.0 (frames_of (view_after layout r v).locks)
        more =
            let then : times frame.0 (frames_of (view_after layout r v).locks) ≡ times frame.0 (frames_of v.locks ++ frame.0 ∷ []) = ap (times frame.0) after in
            let all : times frame.0 (frames_of v.locks ++ frame.0 ∷ []) ≡ times frame.0 (frames_of v.locks) + times frame.0 (frame.0 ∷ []) = times-append frame.0 (frames_of v.locks) (frame.0 ∷ []) in
            let last : times frame.0 (frame.0 ∷ []) ≡ from_bool (frame.0 == frame.0) + times frame.0 [] = times-cons frame.0 frame.0 [] in
            let one : from_bool (frame.0 == frame.0) ≡ 1 = from_bool-same frame.0 frame.0 refl in
            omega (arith, then, all, last, one)

        locked : 0 < times frame.0 (locks_in mines-then)
        locked = listed-in frame.0 c (view_after layout r v) mines-then there more

        hand : HasInHand v frame
        hand = (subst (λ (u : Step). AsksOf layout r.who u r.content v) is asks).0

        none : (i w : ℕ) → i < all-places → slice_get entries i ≡ Some w → is_of frame.0 w ≡ false
        none i w less at = which (is_of frame.0 w) refl
          where
            which : (b : Bool) → is_of frame.0 w ≡ b → is_of frame.0 w ≡ false
            which true names =
                let leads = entry-leads layout s holds ways entries seats h i w frame.0 at names in
                absurd (in-hand-unnamed layout s holds c v frame view-at hand leads.0 leads.4)
            which false isnt = isnt

    own : Knows then entries (locks_in mines-then) (caching_after all-places r.step r.found (frames_of v.locks) k)
    own = record {
      cleared = cleared-then (IsCleared entries (locks_in mines-then)) all-places k.cleared r.step adopted
          (λ frame others i x at. let was = each-gone (IsCleared entries locks) frame.0 k.cleared right.cleared i x at in still-cleared x (others x.frame was.0) was.1)
          (λ others. each-weaken (IsCleared entries locks) (IsCleared entries (locks_in mines-then)) k.cleared (λ x was. still-cleared x (others x.frame) was) right.cleared);
      glimpse = λ g e. absurd (none-some g e);
      shown = λ sh e. shows sh (shown-then r.step r.found (frames_of v.locks) sh e);
    }
      where
        shows : (sh : Shown) → IsShowing r.step r.found (frames_of v.locks) sh → IsShown then (locks_in mines-then) sh
        shows sh is = record {
          locked = keeps sh.frame (ap (λ (u : Step). frees_lock u sh.frame) is.step_is) (listed-in sh.frame c v mines mine is.locked);
          leads = ap (λ (l : List ℕ). slice_get l sh.slot) (same-trans layout s holds c r t move (ap is_pte is.step_is)) ∙ ap (slice_get trans) is.slot_is
              ∙ word-there trans is.slot.0 (length layout.trans) (shaped layout s holds).trans inside ∙ ap (λ (n : ℕ). Some n) (sym met ∙ sym is.frame_is);
        }
          where
            inside : is.slot.0 < length layout.trans
            inside = subst (λ (u : Step). IsPlace layout (place_of u)) is.step_is move.asks.place

            met : r.found ≡ slice_index trans is.slot.0
            met = move.met ∙ ap (λ (u : Step). slice_index s.words (index layout (place_of u))) is.step_is ∙ sym (words-read layout s.words (places.Trans is.slot) inside)

    -- a step of the frame rule, of a seat that has the view of its processor
    pub agree-moved : CachesAgree ways layout t entries (set seats id (mines-then, caching_after all-places r.step r.found (frames_of v.locks) k))
    agree-moved = record {
      count = h.count;
      lead = lead-then;
      knows = λ j x at. elim (at_set seats id j (mines-then, caching_after all-places r.step r.found (frames_of v.locks) k) x at) [
        | inl here ↦ subst (λ (y : Seat). Knows then entries (locks_in y.0) y.1) here.1 own
        | inr else ↦ others j x else.0 else.1
      ];
    }
