-- The laws of `MapIn`, and what stands before it and after it.
use Rattle.std.proofs.Common.{◌≡◌, ℕ, ◌+◌, ◌<◌, ◌≤◌, ◌==◌, Bool, true, false, cond, List, [], ◌∷◌, Option, Some, None, is_none, length, inr, set, slice_get, slice_index, refl, sym, ap, ◌∙◌, subst, arith}
use Rattle.std.proofs.lemmas.Bool.{both_ways}
use Rattle.std.proofs.lemmas.Option.{none-some, same_Some, slice_get_within, slice_get-get_or}
use Rattle.std.specs.FinSet as sets
use Rattle.std.specs.List.{find}
use Rattle.std.specs.Option.{IsSomeAnd}
use Rattle.hwp_page.specs.hwp_geom.declared.Frame.{Frame}
use Rattle.hwp_page.specs.hwp_geom.declared.Layout.{Layout}
use Rattle.hwp_page.specs.hwp_geom.declared.Page.{Page}
use Rattle.hwp_page.specs.hwp_geom.declared.TransDecl.{TransDecl}
use Rattle.hwp_page.specs.hwp_geom.declared.VSlot.{VSlot}
use Rattle.hwp_page.specs.hwp_geom.declared.Who.{Who}
use Rattle.hwp_page.specs.hwp_geom.Limits.{frame_limit}
use Rattle.hwp_page.specs.declared.PageState.{PageState}
use Rattle.hwp_page.specs.declared.What.TheVariants as entries
use Rattle.hwp_page.specs.History.{BodyValue}
use Rattle.hwp_page.specs.Step.{Allowed, IsOf}
use Rattle.hwp_core.specs.hwp_words.declared.Pte.TheVariants as ptes
use Rattle.hwp_core.specs.hwp_words.Names.{frame_name}
use Rattle.hwp_core.specs.hwp_words.Translations.{pte_word}
use Rattle.hwp_core.specs.hwp_core_rule.declared.InHand.{InHand}
use Rattle.hwp_core.specs.hwp_core_rule.declared.SharedWord.TheVariants as places
use Rattle.hwp_core.specs.hwp_core_rule.declared.Ref.{Ref}
use Rattle.hwp_core.specs.hwp_core_rule.declared.State.{State}
use Rattle.hwp_core.specs.hwp_core_rule.declared.Step.{Step}
use Rattle.hwp_core.specs.hwp_core_rule.declared.Step.TheVariants as steps
use Rattle.hwp_core.specs.hwp_core_rule.declared.View.{View}
use Rattle.hwp_core.specs.hwp_core_rule.Asks.{HasLock, HasPage, CanName}
use Rattle.hwp_core.specs.hwp_core_rule.Logs.{log_of, state_of, fitting_word}
use Rattle.hwp_core.specs.hwp_core_rule.Rule.{Holds}
use Rattle.hwp_core.specs.hwp_core_rule.Views.{refs_on, is_body_of, frame_in, with_named, less_named}
use Rattle.hwp_core.specs.hwp_core_rule.Words.{index, words_of}
use Rattle.hwp_core.specs.hwp_core_rule.parts.Fits.{KnowsWords}
use Rattle.hwp_core.proofs.of_hwp_core_rule.Lists.{same-number}
use Rattle.hwp_core.proofs.of_hwp_core_rule.MetWords.{frame-named, lock-knows}
use Rattle.hwp_core.proofs.of_hwp_core_rule.MoveKeeps.{shaped}
use Rattle.hwp_core.proofs.of_hwp_core_rule.WordsByKind.{words-read}
use Rattle.hwp_core.specs.hwp_core_rule.declared.Turn.{Turn}
use Rattle.hwp_core.specs.hwp_core_rule.Calls.{CanMake, Steps, IsOnTurn}
use Rattle.hwp_core.specs.hwp_core_rule.Hands.{Hand, hand_of, body_in}
use Rattle.hwp_core.proofs.of_hwp_core_rule.tasks.StepLeaves.{on-turn-after, hand-planned, steps-planned, can-make}
use Rattle.hwp_core.specs.declared.Refer.{Refer}
use Rattle.hwp_core.specs.declared.refer.ReferAt.{ReferAt}
use Rattle.hwp_core.specs.declared.refer.ReferAt.TheVariants as refer_at
use Rattle.hwp_core.specs.Holds.{page_lock, refs_to}
use Rattle.hwp_core.specs.Refers as refers
use Rattle.hwp_core.specs.Unholds as unholds
use Rattle.hwp_core.specs.Unholds.{holding}
use Rattle.hwp_core.proofs.HoldEnds.{ahead-unholds}
use Rattle.hwp_core.proofs.ReferLaws as referring
use Rattle.hwp_fault.specs.declared.map_in.MapIn.{MapIn}
use Rattle.hwp_fault.specs.declared.map_in.MapInAt.{MapInAt}
use Rattle.hwp_fault.specs.declared.map_in.MapInAt.TheVariants as at
use Rattle.hwp_fault.specs.MapIns.{begin, plan, plan_at, after_refer, next, next_at, mapped, body_next, turn, ShowsAt, Shows, HoldsWithFrame, CanMapIn, IsReferred, Fits, FitsAt}
use Rattle.hwp_fault.proofs.FaultEntries.{brings-more, words-more, with-frame-ahead}

-- ---- the steps can be made

-- so many references to a frame, and no other
refs-are : (frame : Frame) (count : ℕ) → refs_on frame.0 (refs_to frame count) ≡ count
refs-are frame count = let same = same-number frame.0 frame.0 refl in grind arith

-- a frame's lock and a page's, as they are held
module _ {layout : Layout} {view : View} {who : Who} {page : Page} {slot : VSlot} {frame : Frame} {count : ℕ} {body : BodyValue} (has : HoldsWithFrame layout view who page slot frame count body) where
  abbrev page-held : (own : Page) → page ≡ own → HasPage view own
  page-held own is = record {
    lock = record { lock = page_lock page (Some frame) (Some has.trans); listed = ap (λ (h : Hand). slice_get h.pages 0) has.hand_is; page_is = is };
    body = body_in has.from has.was has.seen;
    body_is = ap (λ (h : Hand). find (is_body_of own) h.bodies) has.hand_is
        ∙ ap (λ (b : Bool). cond b (Some (body_in has.from has.was has.seen)) None) (same-number has.was.page.0 own.0 (ap (λ (p : Page). p.0) (sym has.brings.page_is ∙ has.page_is ∙ is)));
    cache = frame_name (Some frame);
    cache_is = refl;
    trans = has.trans;
    trans_is = refl;
  }

  abbrev lock-held : HasLock view frame
  lock-held = record {
    lock = record { frame = frame; owner = page.0 + 1; handled = has.handled; poisoned = has.poisoned };
    listed = (0, record { frame = frame; owner = page.0 + 1; handled = has.handled; poisoned = has.poisoned }, ap (λ (h : Hand). slice_get h.locks 0) has.hand_is, refl);
    frame_is = refl;
  }

  refs-held : refs_on frame.0 view.refs ≡ count
  refs-held = ap (λ (h : Hand). refs_on frame.0 h.refs) has.hand_is ∙ refs-are frame count

-- the translation's declaration
pub declared : (layout : Layout) (page : Page) (slot : VSlot) → IsOf layout page slot → (t : TransDecl) × (slice_get layout.trans slot.0 ≡ Some t) × (t.page ≡ page)
declared layout page slot of = which (slice_get layout.trans slot.0) refl of
  where
    which : (o : Option TransDecl) → slice_get layout.trans slot.0 ≡ o → IsSomeAnd o (λ (t : TransDecl). t.page ≡ page) → (t : TransDecl) × (slice_get layout.trans slot.0 ≡ Some t) × (t.page ≡ page)
    which None is of = absurd of
    which (Some t) is of = (t, is, of)

module _ {layout : Layout} {view : View} {who : Who} {page : Page} {slot : VSlot} {frame : Frame} {count : ℕ} {body : BodyValue} (ready : CanMapIn layout view who page slot frame count body) where
  allowed : Allowed layout page body.state (entries.Map slot)
  allowed = subst (λ (p : Page). Allowed layout p body.state (entries.Map slot)) ready.held.page_is (subst (λ (l : Layout). Allowed l body.page body.state (entries.Map slot)) ready.held.layout_is ready.room.allowed)

  decl : (t : TransDecl) × (slice_get layout.trans slot.0 ≡ Some t) × (t.page ≡ page)
  decl = declared layout page slot allowed.1

  free : (sets.contains body.state.maps slot.0 ≡ false) × (sets.contains body.state.bar slot.0 ≡ false)
  free = (allowed.2, allowed.3)

pub can : (layout : Layout) (view : View) (m : MapIn) (step : Step) → Fits layout view m → plan m ≡ Some step → CanMake layout m.who step None view
can layout view m step fits is = which m.at fits.at is
  where
    which : (x : MapInAt) → FitsAt layout view m.who m.page m.slot m.frame m.body x → plan_at m.slot m.frame x ≡ Some step → CanMake layout m.who step None view
    which (at.Refer r) has e = subst (λ (w : Who). CanMake layout w step None view) has.own (referring.can layout view r step has.refer e)
    which at.SetPte has e = can-make fits.on_turn e (slice_get_within layout.trans m.slot.0 (decl has.ready).0 (decl has.ready).1) (record {
      decl = (decl has.ready).0;
      declared = (decl has.ready).1;
      page_held = page-held has.ready.held (decl has.ready).0.page (sym (decl has.ready).2);
      old = 0;
      old_is = has.empty;
      frames = (
        λ old none. absurd (none-some old none),
        λ new same. subst (λ (g : Frame). CanName view (decl has.ready).0.page g) (same_Some m.frame new same) (record { has = lock-held has.ready.held; owner_is = ap (λ (p : Page). p.0 + 1) (sym (decl has.ready).2); refs = omega (arith, refs-held has.ready.held) }),
      );
    })
    which at.Over has e = absurd (none-some step e)

-- ---- what is held after each step

-- the references, before and after the second one was taken
abbrev count_at : ReferAt → ℕ
count_at refer_at.Over = 2
count_at _ = 1

refer-on : (page : Page) (frame : Frame) (trans : List ℕ) (taken : InHand) (handled poisoned : Bool) (x : ReferAt) (found : ℕ) → is_none (refers.plan_at frame 1 x) ≡ false
    → refers.hand_next_at frame 1 x found (holding page (Some frame) 1 trans taken handled poisoned) ≡ holding page (Some frame) (count_at (refers.next_at x found)) trans taken handled poisoned
refer-on page frame trans taken handled poisoned refer_at.Load found on = refl
refer-on page frame trans taken handled poisoned (refer_at.Get seen) found on = by (found == seen)
  where
    by : (b : Bool) → cond b (record (holding page (Some frame) 1 trans taken handled poisoned) { refs = cond (frame.0 == frame.0) (refs_to frame 2) (record { frame = frame; count = 1 } ∷ refs_to frame 1) }) (holding page (Some frame) 1 trans taken handled poisoned)
        ≡ holding page (Some frame) (count_at (cond b refer_at.Over (refer_at.Get found))) trans taken handled poisoned
    by true = ap (λ (c : Bool). record (holding page (Some frame) 1 trans taken handled poisoned) { refs = cond c (refs_to frame 2) (record { frame = frame; count = 1 } ∷ refs_to frame 1) }) (same-number frame.0 frame.0 refl)
    by false = refl
refer-on page frame trans taken handled poisoned refer_at.Over found on = absurd (both_ways true on refl)

-- the page is held with another number of references
abbrev counted : {layout : Layout} {old new : View} {who : Who} {page : Page} {slot : VSlot} {frame : Frame} {count other : ℕ} {body : BodyValue} (has : HoldsWithFrame layout old who page slot frame count body)
    → hand_of new ≡ holding page (Some frame) other has.trans (body_in has.from has.was has.seen) has.handled has.poisoned → HoldsWithFrame layout new who page slot frame other body
counted has hand = record {
  from = has.from;
  was = has.was;
  seen = has.seen;
  trans = has.trans;
  handled = has.handled;
  poisoned = has.poisoned;
  hand_is = hand;
  brings = has.brings;
  words = has.words;
  page_is = has.page_is;
  layout_is = has.layout_is;
  within = has.within;
}

-- what the page's lock lists of a translation that isn't in use
module _ {layout : Layout} {view : View} {who : Who} {page : Page} {slot : VSlot} {frame : Frame} {count : ℕ} {body : BodyValue} (ready : CanMapIn layout view who page slot frame count body)
    (board : State) (rule : Holds layout board) (seat : ℕ) (me : slice_get board.views seat ≡ Some view) where
  abbrev translations : List ℕ
  translations = (words_of layout board.words).trans

  inside : slot.0 < length layout.trans
  inside = slice_get_within layout.trans slot.0 (decl ready).0 (decl ready).1

  there : slice_get translations slot.0 ≡ Some (slice_index translations slot.0)
  there = slice_get-get_or translations slot.0 0 (subst (λ (n : ℕ). slot.0 < n) (sym (shaped layout board rule).trans) inside)

  knows : KnowsWords layout translations (words_of layout board.words).caches (page_lock page (Some frame) (Some ready.held.trans))
  knows = lock-knows layout board rule seat view me (page_lock page (Some frame) (Some ready.held.trans)) (ap (λ (h : Hand). slice_get h.pages 0) ready.held.hand_is)

  stands : slice_get ready.held.trans slot.0 ≡ Some (slice_index translations slot.0)
  stands = knows.words ready.held.trans refl slot.0 (decl ready).0 (decl ready).1 (decl ready).2 ∙ there

  zero-there : slice_index translations slot.0 ≡ 0
  zero-there = ready.held.words.used slot.0 (slice_index translations slot.0) (decl ready).0 (decl ready).1 ((decl ready).2 ∙ sym ready.held.page_is) stands
      ∙ ap (λ (s : PageState). fitting_word s (frame.0 + 1) slot.0) ready.state_is
      ∙ ap (λ (b : Bool). cond b (frame.0 + 1) (cond (sets.contains body.state.bar slot.0) (pte_word ptes.Poison) 0)) (free ready).0
      ∙ ap (λ (b : Bool). cond b (pte_word ptes.Poison) 0) (free ready).1

  listed-empty : slice_get ready.held.trans slot.0 ≡ Some 0
  listed-empty = stands ∙ ap (λ (n : ℕ). Some n) zero-there

  -- the word that a step on it meets
  met-empty : (found : ℕ) → found ≡ slice_index board.words (index layout (places.Trans slot)) → found ≡ 0
  met-empty found met = met ∙ sym (words-read layout board.words (places.Trans slot) inside) ∙ zero-there

-- ---- what follows fits

-- what a step of the second reference leaves of what is held
module _ {layout : Layout} {old : View} {who : Who} {page : Page} {slot : VSlot} {frame : Frame} {body : BodyValue} (ready : CanMapIn layout old who page slot frame 1 body) where
  abbrev held : ℕ → Hand
  held count = holding page (Some frame) count ready.held.trans (body_in ready.held.from ready.held.was ready.held.seen) ready.held.handled ready.held.poisoned

  referred : (r : Refer) (found : ℕ) → r.frame ≡ frame → r.count ≡ 1 → is_none (refers.plan r) ≡ false → refers.hand_next r found (held 1) ≡ held (count_at (refers.next_at r.at found))
  referred r found of count on =
      ap (λ (g : Frame). refers.hand_next_at g r.count r.at found (held 1)) of ∙ ap (λ (n : ℕ). refers.hand_next_at frame n r.at found (held 1)) count
      ∙ refer-on page frame ready.held.trans (body_in ready.held.from ready.held.was ready.held.seen) ready.held.handled ready.held.poisoned r.at found
      (subst (λ (n : ℕ). is_none (refers.plan_at frame n r.at) ≡ false) count (subst (λ (g : Frame). is_none (refers.plan_at g r.count r.at) ≡ false) of on))

module _ {layout : Layout} {old new : View} {who : Who} {page : Page} {slot : VSlot} {frame : Frame} {body : BodyValue} where
  abbrev readied : {count other : ℕ} (ready : CanMapIn layout old who page slot frame count body)
      → hand_of new ≡ holding page (Some frame) other ready.held.trans (body_in ready.held.from ready.held.was ready.held.seen) ready.held.handled ready.held.poisoned → CanMapIn layout new who page slot frame other body
  readied ready hand = record { held = counted ready.held hand; state_is = ready.state_is; room = ready.room }

  refer-moved : (ready : CanMapIn layout old who page slot frame 1 body) (r : Refer) (y : ReferAt) → r.who ≡ who → r.frame ≡ frame → r.count ≡ 1 → slice_get ready.held.trans slot.0 ≡ Some 0 → hand_of new ≡ held ready (count_at y) → refers.Fits layout new (record r { at = y })
      → FitsAt layout new who page slot frame body (after_refer (record r { at = y }))
  refer-moved ready r refer_at.Load own of count empty hand fits = record { ready = readied ready hand; refer = fits; own = own; of = of; count = count; under_way = refl }
  refer-moved ready r (refer_at.Get word) own of count empty hand fits = record { ready = readied ready hand; refer = fits; own = own; of = of; count = count; under_way = refl }
  refer-moved ready r refer_at.Over own of count empty hand fits = record { ready = readied ready hand; empty = empty }

  -- the translation's word is written
  module _ {found : ℕ} {got : Option BodyValue} (has : IsReferred layout old who page slot frame body) (made : Steps layout who (steps.SetPte slot (ptes.At frame)) None old new found got) where
    abbrev was : HoldsWithFrame layout old who page slot frame 2 body
    was = has.ready.held

    -- what is held where the word was this and is that now
    abbrev set-hand : ℕ → ℕ → Hand
    set-hand n w = record (holding page (Some frame) 2 was.trans (body_in was.from was.was was.seen) was.handled was.poisoned) {
      refs = with_named (frame_in n) (less_named (frame_in w) (refs_to frame 2));
      pages = page_lock page (Some frame) (Some (set was.trans slot.0 w)) ∷ [];
    }

    abbrev spent : List Ref → Hand
    spent refs = record (holding page (Some frame) 2 was.trans (body_in was.from was.was was.seen) was.handled was.poisoned) {
      refs = refs;
      pages = page_lock page (Some frame) (Some (set was.trans slot.0 (frame.0 + 1))) ∷ [];
    }

    zero : found ≡ 0
    zero = met-empty has.ready made.told.board made.told.rule made.told.seat made.told.me found made.told.met

    named : frame_in (frame.0 + 1) ≡ Some frame
    named = frame-named frame (let few : layout.frames ≤ frame_limit = made.told.rule.sound.frames in let inside : frame.0 < layout.frames = was.within in omega (arith, few, inside))

    at-word : pte_word (ptes.At frame) ≡ frame.0 + 1
    at-word = omega arith

    hand : hand_of new ≡ holding page (Some frame) 1 (set was.trans slot.0 (frame.0 + 1)) (body_in was.from was.was was.seen) was.handled was.poisoned
    hand = hand-planned made refl was.hand_is
        ∙ ap (λ (n : ℕ). set-hand n (pte_word (ptes.At frame))) zero
        ∙ ap (λ (w : ℕ). set-hand 0 w) at-word
        ∙ ap (λ (o : Option Frame). spent (less_named o (refs_to frame 2))) named
        ∙ ap (λ (b : Bool). spent (cond b (refs_to frame 1) (refs_to frame 2))) (same-number frame.0 frame.0 refl)

    may : Allowed layout body.page (state_of layout (log_of body)) (entries.Map slot)
    may = subst (λ (s : PageState). Allowed layout body.page s (entries.Map slot)) (sym has.ready.state_is) (subst (λ (l : Layout). Allowed l body.page body.state (entries.Map slot)) was.layout_is has.ready.room.allowed)

    pte-set : HoldsWithFrame layout new who page slot frame 1 (mapped who slot body)
    pte-set = record {
      from = was.from;
      was = was.was;
      seen = was.seen;
      trans = set was.trans slot.0 (frame.0 + 1);
      handled = was.handled;
      poisoned = was.poisoned;
      hand_is = hand;
      brings = brings-more layout who slot was.was (log_of body) (record { who = who; what = entries.Map slot }) was.brings may refl (inr refl);
      words = words-more layout (log_of body) who slot frame was.trans was.words;
      page_is = was.page_is;
      layout_is = was.layout_is;
      within = was.within;
    }

-- a step shows what is needed, and what follows fits again
pub both : (layout : Layout) (old new : View) (m : MapIn) (step : Step) (found : ℕ) (got : Option BodyValue) → Fits layout old m → plan m ≡ Some step → Steps layout m.who step None old new found got → Shows m × Fits layout new (next m found)
both layout old new m step found got fits is made = (all.0, record { on_turn = on-turn-after fits.on_turn made; page = fits.page; at = all.1 })
  where
    which : (x : MapInAt) → plan_at m.slot m.frame x ≡ Some step → FitsAt layout old m.who m.page m.slot m.frame m.body x
        → ShowsAt m.slot m.body x × FitsAt layout new m.who m.page m.slot m.frame (body_next m.who m.slot x m.body) (next_at x found)
    which (at.Refer r) e has = (
      tt,
      refer-moved has.ready r (refers.next_at r.at found) has.own has.of has.count (listed-empty has.ready made.told.board made.told.rule made.told.seat made.told.me)
          (referring.held-after r e own (held has.ready 1) has.ready.held.hand_is
          ∙ referred has.ready r found has.of has.count has.under_way) (referring.both layout old new r step found got has.refer e own),
    )
      where
        own : Steps layout r.who step None old new found got
        own = subst (λ (w : Who). Steps layout w step None old new found got) (sym has.own) made
    which at.SetPte e has = (has.ready.room, pte-set has (steps-planned e made))
    which at.Over e has = absurd (none-some step e)

    all : ShowsAt m.slot m.body m.at × FitsAt layout new m.who m.page m.slot m.frame (body_next m.who m.slot m.at m.body) (next_at m.at found)
    all = which m.at is fits.at

pub stays : (layout : Layout) (old new : View) (m : MapIn) (step : Step) (found : ℕ) (got : Option BodyValue) → Fits layout old m → plan m ≡ Some step → Steps layout m.who step None old new found got
    → Shows m × ((after : MapIn) (result : Turn) → (after ≡ next m found) × (result ≡ turn m found) → Fits layout new after × (after.who.cpu ≡ m.who.cpu))
stays layout old new m step found got fits is made =
    let all = both layout old new m step found got fits is made in
    (all.0, λ after result follows. (subst (Fits layout new) (sym follows.0) all.1, ap (λ (x : MapIn). x.who.cpu) follows.0))

-- ---- before it and after it

-- a page that is held with its frame, whose body has room for the entry
pub begins : {layout : Layout} {view : View} {who : Who} {page : Page} {slot : VSlot} {frame : Frame} {body : BodyValue} → IsOnTurn view who → page.0 < length layout.pages → CanMapIn layout view who page slot frame 1 body
    → Fits layout view (begin who page slot frame body)
begins on within ready = record {
  on_turn = on;
  page = within;
  at = record {
    ready = ready;
    refer = record { on_turn = on; frame = ready.held.within; at = record { some = omega (arith, refs-held ready.held); more = omega arith; room = omega (arith, refs-held ready.held) } };
    own = refl;
    of = refl;
    count = refl;
    under_way = refl;
  };
}

-- it is let go with the frame
pub unholds-with-frame : {layout : Layout} {view : View} {who : Who} {page : Page} {slot : VSlot} {frame : Frame} {body : BodyValue} → IsOnTurn view who → page.0 < length layout.pages → HoldsWithFrame layout view who page slot frame 1 body
    → unholds.Fits layout view (unholds.begin who page (Some frame) 1 body)
unholds-with-frame {layout} {view} {who} {page} {slot} {frame} {body} on within has =
    ahead-unholds layout view who page (Some frame) 1 body on within (with-frame-ahead has) (omega arith) (λ f is. subst (λ (g : Frame). g.0 < layout.frames) (same_Some frame f is) has.within)
