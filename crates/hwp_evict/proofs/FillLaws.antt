-- The laws of `Fill`, and what stands before it and after it.
use Rattle.std.proofs.Common.{◌≡◌, ℕ, ◌+◌, ◌-◌, ◌/◌, ◌<◌, ◌≤◌, ◌==◌, Bool, true, false, cond, List, [], ◌∷◌, ◌++◌, Option, Some, None, is_none, length, slice_get, refl, sym, ap, ◌∙◌, subst, arith}
use Rattle.std.proofs.lemmas.Bool.{both_ways}
use Rattle.std.proofs.lemmas.Option.{none-some, same_Some}
use Rattle.std.specs.List.{find}
use Rattle.hwp_core.specs.hwp_geom.declared.Frame.{Frame}
use Rattle.hwp_core.specs.hwp_geom.declared.Layout.{Layout}
use Rattle.hwp_core.specs.hwp_geom.declared.Page.{Page}
use Rattle.hwp_core.specs.hwp_geom.declared.Who.{Who}
use Rattle.hwp_core.specs.hwp_page.History.{BodyValue}
use Rattle.hwp_core.specs.hwp_words.Frames.{is_poisoned}
use Rattle.hwp_core.specs.hwp_core_rule.declared.Ref.{Ref}
use Rattle.hwp_core.specs.hwp_core_rule.declared.SharedWord.TheVariants as places
use Rattle.hwp_core.specs.hwp_core_rule.declared.Step.{Step}
use Rattle.hwp_core.specs.hwp_core_rule.declared.Step.TheVariants as steps
use Rattle.hwp_core.specs.hwp_core_rule.declared.View.{View}
use Rattle.hwp_core.specs.hwp_core_rule.Asks.{HasLock, HasPage, CanName}
use Rattle.hwp_core.specs.hwp_core_rule.Logs.{log_of}
use Rattle.hwp_core.specs.hwp_core_rule.Views.{unpoisoned, refs_on, is_body_of, frame_in, with_named, less_refs}
use Rattle.hwp_core.proofs.of_hwp_core_rule.Lists.{same-number}
use Rattle.hwp_core.proofs.of_hwp_core_rule.MetWords.{cache-word, lock-knows}
use Rattle.hwp_core.specs.hwp_core_rule.declared.Turn.{Turn}
use Rattle.hwp_core.specs.hwp_core_rule.Calls.{CanMake, Steps, IsOnTurn}
use Rattle.hwp_core.specs.hwp_core_rule.Hands.{Hand, hand_of, body_in}
use Rattle.hwp_core.proofs.of_hwp_core_rule.tasks.StepLeaves.{on-turn-after, hand-planned, steps-planned, can-make}
use Rattle.hwp_core.specs.hwp_core_rule.Known.{Saw}
use Rattle.hwp_core.specs.declared.refer.Refer.{Refer}
use Rattle.hwp_core.specs.declared.refer.ReferAt.{ReferAt}
use Rattle.hwp_core.specs.declared.refer.ReferAt.TheVariants as refer_at
use Rattle.hwp_core.specs.Holds.{locked, page_lock, one_ref, HoldsPage}
use Rattle.hwp_core.specs.Refers as refers
use Rattle.hwp_core.specs.Releases.{adopted_lock, new_lock}
use Rattle.hwp_core.specs.Unholds as unholds
use Rattle.hwp_core.specs.Unholds.{holding, HoldsAhead}
use Rattle.hwp_core.proofs.ReferLaws as referring
use Rattle.hwp_core.proofs.UnholdLaws.{refs-are}
use Rattle.hwp_evict.specs.declared.fill.Fill.{Fill}
use Rattle.hwp_evict.specs.declared.fill.FillAt.{FillAt}
use Rattle.hwp_evict.specs.declared.fill.FillAt.TheVariants as at
use Rattle.hwp_evict.specs.declared.fill.FillAnswer.{FillAnswer}
use Rattle.hwp_evict.specs.declared.fill.FillAnswer.TheVariants as answers
use Rattle.hwp_evict.specs.declared.take.Take.{Take}
use Rattle.hwp_evict.specs.declared.take.TakeAt.{TakeAt}
use Rattle.hwp_evict.specs.declared.take.TakeAt.TheVariants as take_at
use Rattle.hwp_evict.specs.Fills.{answer, answer_at, begin, plan, plan_at, after_take, after_refer, next, next_at, brought, body_next, turn, ShowsAt, Shows, HasRoomFor, CanBring, with_take, with_frame, HoldsBoth, IsReferring, Fits, FitsAt}
use Rattle.hwp_evict.specs.Takes as takes
use Rattle.hwp_evict.proofs.FillEntry.{trans, goes-home}
use Rattle.hwp_evict.proofs.TakeLaws as taking

-- ---- what is held after each step

-- what is held when the cache word names the frame, with these references
abbrev with-words : Layout → Page → BodyValue → ℕ → Frame → List Ref → Bool → Hand
with-words layout page body seen frame refs same = record (with_frame frame (page.0 + 1) 2 (locked layout page (Some (log_of body)) seen)) {
  refs = refs;
  pages = cond same (page_lock page (Some frame) (Some (trans layout body))) (page_lock page None (Some (trans layout body))) ∷ [];
}

-- what is held of the page, which is in no frame
abbrev base : Layout → Page → BodyValue → ℕ → Hand
base layout page body seen = locked layout page (Some (log_of body)) seen

number-kept : (none : Bool) (found : ℕ) (h : Hand) → h ≡ with_take (cond none (take_at.Over None) (take_at.Reserve found)) h
number-kept true found h = refl
number-kept false found h = refl

take-on : (layout : Layout) (page : Page) (body : BodyValue) (seen : ℕ) (x : TakeAt) (found : ℕ) → is_none (takes.plan_at x) ≡ false
    → takes.hand_next_at x found (with_take x (base layout page body seen)) ≡ with_take (takes.next_at layout x found) (base layout page body seen)
take-on layout page body seen take_at.LoadAvailable found on = number-kept (found == 0) found (base layout page body seen)
take-on layout page body seen (take_at.Reserve word) found on = by (found == word)
  where
    by : (b : Bool) → cond b (record (base layout page body seen) { reserved = 1 }) (base layout page body seen) ≡ with_take (cond b (take_at.LoadFree 0) (takes.at_available found)) (base layout page body seen)
    by true = refl
    by false = number-kept (found == 0) found (base layout page body seen)
take-on layout page body seen (take_at.LoadFree number) found on = by (found == 0)
  where
    by : (b : Bool) → record (base layout page body seen) { reserved = 1 } ≡ with_take (cond b (take_at.LoadFree (takes.after_word layout number)) (take_at.TakeBit (takes.lowest_free number found))) (base layout page body seen)
    by true = refl
    by false = refl
take-on layout page body seen (take_at.TakeBit frame) found on = by (takes.has_bit frame found)
  where
    by : (b : Bool) → cond b (record (base layout page body seen) { reserved = 1 - 1; hands = [] ++ unpoisoned frame ∷ [] }) (record (base layout page body seen) { reserved = 1 })
        ≡ with_take (cond b (take_at.Adopt frame) (take_at.LoadFree (frame.0 / 64))) (base layout page body seen)
    by true = refl
    by false = refl
take-on layout page body seen (take_at.Adopt frame) found on =
    ap (λ (b : Bool). record (base layout page body seen) { hands = cond b [] (unpoisoned frame ∷ []); refs = one_ref frame; locks = adopted_lock frame (is_poisoned found) ∷ [] }) (same-number frame.0 frame.0 refl)
    ∙ by (is_poisoned found)
  where
    by : (b : Bool) → record (base layout page body seen) { refs = one_ref frame; locks = adopted_lock frame b ∷ [] } ≡ with_take (cond b (take_at.Retire frame) (take_at.Over (Some frame))) (base layout page body seen)
    by true = refl
    by false = refl
take-on layout page body seen (take_at.Retire frame) found on =
    ap (λ (b : Bool). record (base layout page body seen) { locks = cond b [] (adopted_lock frame true ∷ []); refs = cond b [] (one_ref frame) }) (same-number frame.0 frame.0 refl)
take-on layout page body seen (take_at.Over frame) found on = absurd (both_ways true on refl)

-- the references, before and after the second one was taken
abbrev count_at : ReferAt → ℕ
count_at refer_at.Over = 2
count_at _ = 1

refer-on : (frame : Frame) (owner : ℕ) (h : Hand) (x : ReferAt) (found : ℕ) → is_none (refers.plan_at frame 1 x) ≡ false
    → refers.hand_next_at frame 1 x found (with_frame frame owner 1 h) ≡ with_frame frame owner (count_at (refers.next_at x found)) h
refer-on frame owner h refer_at.Load found on = refl
refer-on frame owner h (refer_at.Get seen) found on = by (found == seen)
  where
    by : (b : Bool) → cond b (record (with_frame frame owner 1 h) { refs = cond (frame.0 == frame.0) (record { frame = frame; count = 2 } ∷ []) (record { frame = frame; count = 1 } ∷ record { frame = frame; count = 1 } ∷ []) }) (with_frame frame owner 1 h)
        ≡ with_frame frame owner (count_at (cond b refer_at.Over (refer_at.Get found))) h
    by true = ap (λ (c : Bool). record (with_frame frame owner 1 h) { refs = cond c (record { frame = frame; count = 2 } ∷ []) (record { frame = frame; count = 1 } ∷ record { frame = frame; count = 1 } ∷ []) }) (same-number frame.0 frame.0 refl)
    by false = refl
refer-on frame owner h refer_at.Over found on = absurd (both_ways true on refl)

refs-held : {layout : Layout} {view : View} {page : Page} {body : BodyValue} {frame : Frame} {owner count : ℕ} → HoldsBoth layout view page body frame owner count → refs_on frame.0 view.refs ≡ count
refs-held {frame} {count} has = ap (λ (h : Hand). refs_on frame.0 h.refs) has.hand_is ∙ refs-are frame count

-- ---- the steps can be made

module _ {layout : Layout} {view : View} {page : Page} {body : BodyValue} {frame : Frame} {owner count : ℕ} (has : HoldsBoth layout view page body frame owner count) where
  abbrev page-held : HasPage view page
  page-held = record {
    lock = record { lock = page_lock page None (Some (trans layout body)); listed = ap (λ (h : Hand). slice_get h.pages 0) has.hand_is; page_is = refl };
    body = body_in None (log_of body) has.seen;
    body_is = ap (λ (h : Hand). find (is_body_of page) h.bodies) has.hand_is
        ∙ ap (λ (b : Bool). cond b (Some (body_in None (log_of body) has.seen)) None) (same-number body.page.0 page.0 (ap (λ (p : Page). p.0) has.entry.body_is.page_is));
    cache = 0;
    cache_is = refl;
    trans = trans layout body;
    trans_is = refl;
  }

  abbrev lock-held : HasLock view frame
  lock-held = record {
    lock = record (new_lock frame) { owner = owner };
    listed = (0, record (new_lock frame) { owner = owner }, ap (λ (h : Hand). slice_get h.locks 0) has.hand_is, refl);
    frame_is = refl;
  }

pub can : (layout : Layout) (view : View) (f : Fill) (step : Step) → Fits layout view f → plan f ≡ Some step → CanMake layout f.who step None view
can layout view f step fits is = which f.at fits.at is
  where
    which : (x : FillAt) → FitsAt layout view f.who f.page f.body x → plan_at f.page x ≡ Some step → CanMake layout f.who step None view
    which (at.Take t) has e = subst (λ (w : Who). CanMake layout w step None view) has.own (taking.can layout view t step has.take e)
    which (at.SetOwner frame) has e = can-make fits.on_turn e has.within (fits.page, record { has = lock-held has; unowned = refl; unhandled = refl; page_held = page-held has })
    which (at.Refer r) has e = subst (λ (w : Who). CanMake layout w step None view) has.own (referring.can layout view r step has.refer e)
    which (at.SetCache frame) has e = can-make fits.on_turn e fits.page (record {
      page_held = page-held has;
      frames = (
        λ old none. absurd (none-some old none),
        λ new same. subst (λ (g : Frame). CanName view f.page g) (same_Some frame new same) (record { has = lock-held has; owner_is = refl; refs = omega (arith, refs-held has) }),
      );
    })
    which (at.Over frame) has e = absurd (none-some step e)

-- ---- what follows fits

module _ {layout : Layout} {new : View} {who : Who} {page : Page} {body : BodyValue} (entry : CanBring layout page body) where
  -- once a step of the take is made
  take-moved : (t : Take) (y : TakeAt) (seen : ℕ) → t.who ≡ who → hand_of new ≡ with_take y (base layout page body seen) → takes.Fits layout new (record t { at = y }) → FitsAt layout new who page body (after_take (record t { at = y }))
  take-moved t take_at.LoadAvailable seen own hand fits = record { seen = seen; hand_is = hand; entry = entry; take = fits; own = own; under_way = refl }
  take-moved t (take_at.Reserve word) seen own hand fits = record { seen = seen; hand_is = hand; entry = entry; take = fits; own = own; under_way = refl }
  take-moved t (take_at.LoadFree number) seen own hand fits = record { seen = seen; hand_is = hand; entry = entry; take = fits; own = own; under_way = refl }
  take-moved t (take_at.TakeBit frame) seen own hand fits = record { seen = seen; hand_is = hand; entry = entry; take = fits; own = own; under_way = refl }
  take-moved t (take_at.Adopt frame) seen own hand fits = record { seen = seen; hand_is = hand; entry = entry; take = fits; own = own; under_way = refl }
  take-moved t (take_at.Retire frame) seen own hand fits = record { seen = seen; hand_is = hand; entry = entry; take = fits; own = own; under_way = refl }
  take-moved t (take_at.Over None) seen own hand fits = (
    record { seen = seen; handled = false; poisoned = false; hand_is = hand; within = λ f none. absurd (none-some f none); body_is = entry.body_is },
    subst (λ (w : Who). Saw new w places.Available 0) own fits.at,
  )
  take-moved t (take_at.Over (Some frame)) seen own hand fits = record { seen = seen; hand_is = hand; entry = entry; within = fits.at }

  -- once a step of the second reference is made
  refer-moved : (r : Refer) (y : ReferAt) (seen : ℕ) → r.who ≡ who → r.count ≡ 1 → hand_of new ≡ with_frame r.frame (page.0 + 1) (count_at y) (base layout page body seen) → refers.Fits layout new (record r { at = y })
      → FitsAt layout new who page body (after_refer (record r { at = y }))
  refer-moved r refer_at.Load seen own count hand fits = record { both = record { seen = seen; hand_is = hand; entry = entry; within = fits.frame }; refer = fits; own = own; count = count; under_way = refl }
  refer-moved r (refer_at.Get word) seen own count hand fits = record { both = record { seen = seen; hand_is = hand; entry = entry; within = fits.frame }; refer = fits; own = own; count = count; under_way = refl }
  refer-moved r refer_at.Over seen own count hand fits = record { seen = seen; hand_is = hand; entry = entry; within = fits.frame }

module _ {layout : Layout} {old new : View} {who : Who} {page : Page} {body : BodyValue} {found : ℕ} {got : Option BodyValue} (on : IsOnTurn new who) (frame : Frame) where
  owner-set : HoldsBoth layout old page body frame 0 1 → Steps layout who (steps.SetOwner frame page true) None old new found got → FitsAt layout new who page body (at.Refer (refers.begin who frame 1))
  owner-set has made = record {
    both = both;
    refer = record { on_turn = on; frame = has.within; at = record { some = omega (arith, refs-held both); more = omega arith; room = omega (arith, refs-held both) } };
    own = refl;
    count = refl;
    under_way = refl;
  }
    where
      both : HoldsBoth layout new page body frame (page.0 + 1) 1
      both = record {
        seen = has.seen;
        hand_is = hand-planned made refl has.hand_is
            ∙ ap (λ (b : Bool). record (with_frame frame 0 1 (base layout page body has.seen)) { locks = cond b (record (new_lock frame) { owner = page.0 + 1 }) (new_lock frame) ∷ [] }) (same-number frame.0 frame.0 refl);
        entry = has.entry;
        within = has.within;
      }

  cache-set : page.0 < length layout.pages → HoldsBoth layout old page body frame (page.0 + 1) 2 → Steps layout who (steps.SetCache page (Some frame)) None old new found got → FitsAt layout new who page (brought who body) (at.Over (Some frame))
  cache-set inside has made = (
    record {
      body = brought who body;
      given_is = refl;
      trans = trans layout body;
      taken = body_in None (log_of body) has.seen;
      handled = false;
      poisoned = false;
      hand_is = hand;
      home = goes-home who frame has.seen has.entry new false false hand;
      page_is = has.entry.body_is.page_is;
      taken_is = has.entry.body_is.page_is;
      layout_is = has.entry.body_is.layout_is;
    },
    has.within,
  )
    where
      -- the word named no frame
      none : found ≡ 0
      none = same_Some found 0 (sym (cache-word layout made.told.board made.told.rule page found inside made.told.met)
          ∙ (lock-knows layout made.told.board made.told.rule made.told.seat old made.told.me (page_lock page None (Some (trans layout body))) (ap (λ (h : Hand). slice_get h.pages 0) has.hand_is)).cache 0 refl)

      hand : hand_of new ≡ holding page (Some frame) 1 (trans layout body) (body_in None (log_of body) has.seen) false false
      hand = hand-planned made refl has.hand_is
          ∙ ap (λ (n : ℕ). with-words layout page body has.seen frame (with_named (frame_in n) (less_refs frame 1 (record { frame = frame; count = 2 } ∷ []))) (page.0 == page.0)) none
          ∙ ap (λ (b : Bool). with-words layout page body has.seen frame (cond b (one_ref frame) (record { frame = frame; count = 2 } ∷ [])) (page.0 == page.0)) (same-number frame.0 frame.0 refl)
          ∙ ap (λ (b : Bool). with-words layout page body has.seen frame (one_ref frame) b) (same-number page.0 page.0 refl)

pub both : (layout : Layout) (old new : View) (f : Fill) (step : Step) (found : ℕ) (got : Option BodyValue) → Fits layout old f → plan f ≡ Some step → Steps layout f.who step None old new found got
    → Shows f found got × Fits layout new (next layout f found)
both layout old new f step found got fits is made = (all.0, record { on_turn = on; page = fits.page; at = all.1 })
  where
    on : IsOnTurn new f.who
    on = on-turn-after fits.on_turn made

    which : (x : FillAt) → plan_at f.page x ≡ Some step → FitsAt layout old f.who f.page f.body x → ShowsAt f.body x found got × FitsAt layout new f.who f.page (body_next f.who x f.body) (next_at layout f.who x found)
    which (at.Take t) e has = (
      child.0,
      take-moved has.entry t (takes.next_at layout t.at found) has.seen has.own
          (taking.held-after t e own (with_take t.at (base layout f.page f.body has.seen)) has.take has.hand_is ∙ take-on layout f.page f.body has.seen t.at found has.under_way) child.1,
    )
      where
        own : Steps layout t.who step None old new found got
        own = subst (λ (w : Who). Steps layout w step None old new found got) (sym has.own) made

        child : takes.Shows t found got × takes.Fits layout new (takes.next layout t found)
        child = taking.both layout old new t step found got has.take e own
    which (at.SetOwner frame) e has = (tt, owner-set on frame has (steps-planned e made))
    which (at.Refer r) e has = (
      tt,
      refer-moved has.both.entry r (refers.next_at r.at found) has.both.seen has.own has.count (referred r e has own) (referring.both layout old new r step found got has.refer e own),
    )
      where
        own : Steps layout r.who step None old new found got
        own = subst (λ (w : Who). Steps layout w step None old new found got) (sym has.own) made

        referred : (r : Refer) → refers.plan r ≡ Some step → (has : IsReferring layout old f.who f.page f.body r) → Steps layout r.who step None old new found got
            → hand_of new ≡ with_frame r.frame (f.page.0 + 1) (count_at (refers.next_at r.at found)) (base layout f.page f.body has.both.seen)
        referred r e has own = referring.held-after r e own (with_frame r.frame (f.page.0 + 1) 1 (base layout f.page f.body has.both.seen)) has.both.hand_is
            ∙ subst (λ (c : ℕ). refers.hand_next_at r.frame c r.at found (with_frame r.frame (f.page.0 + 1) 1 (base layout f.page f.body has.both.seen)) ≡ with_frame r.frame (f.page.0 + 1) (count_at (refers.next_at r.at found)) (base layout f.page f.body has.both.seen))
            (sym has.count) (refer-on r.frame (f.page.0 + 1) (base layout f.page f.body has.both.seen) r.at found (subst (λ (c : ℕ). is_none (refers.plan_at r.frame c r.at) ≡ false) has.count has.under_way))
    which (at.SetCache frame) e has = (has.entry.room, cache-set on frame fits.page has (steps-planned e made))
    which (at.Over frame) e has = absurd (none-some step e)

    all : ShowsAt f.body f.at found got × FitsAt layout new f.who f.page (body_next f.who f.at f.body) (next_at layout f.who f.at found)
    all = which f.at is fits.at

pub stays : (layout : Layout) (old new : View) (f : Fill) (step : Step) (found : ℕ) (got : Option BodyValue) → Fits layout old f → plan f ≡ Some step → Steps layout f.who step None old new found got
    → Shows f found got × ((after : Fill) (result : Turn) → (after ≡ next layout f found) × (result ≡ turn f found) → Fits layout new after × (after.who.cpu ≡ f.who.cpu))
stays layout old new f step found got fits is made =
    let all = both layout old new f step found got fits is made in
    (all.0, λ after result follows. (subst (Fits layout new) (sym follows.0) all.1, ap (λ (x : Fill). x.who.cpu) follows.0))

-- ---- before it and after it

-- a page that is held, and in no frame, can be filled, where its body has room for the entry
pub held-fills : (layout : Layout) (view : View) (who : Who) (page : Page) (body : BodyValue) → IsOnTurn view who → page.0 < length layout.pages → HoldsPage layout view page None body → HasRoomFor body → Fits layout view (begin who page body)
held-fills layout view who page body on inside has room = record {
  on_turn = on;
  page = inside;
  at = record {
    seen = has.seen;
    hand_is = has.hand_is;
    entry = record { body_is = has.body_is; room = room };
    take = record { on_turn = on; at = (subst (λ (h : Hand). h.reserved + length h.hands + length h.refs + 1 ≤ 2) (sym has.hand_is) (omega arith), subst (λ (h : Hand). length h.locks < 2) (sym has.hand_is) (omega arith)) };
    own = refl;
    under_way = refl;
  };
}

-- the frame of an answer, or this one where it has none
abbrev frame-or : Frame → Option FillAnswer → Frame
frame-or other (Some (answers.Filled frame)) = frame
frame-or other _ = other

abbrev is-filled : Option FillAnswer → Bool
is-filled (Some (answers.Filled frame)) = true
is-filled _ = false

-- a page that was filled is let go with its frame, and with the entry
pub filled-unholds : (layout : Layout) (view : View) (f : Fill) (frame : Frame) → answer f ≡ Some (answers.Filled frame) → Fits layout view f → unholds.Fits layout view (unholds.begin f.who f.page (Some frame) 1 f.body)
filled-unholds layout view f frame answered fits = let has = which f.at answered fits.at in record { on_turn = fits.on_turn; page = fits.page; at = (has.0, (omega arith, has.1)) }
  where
    over-at : (x : Option Frame) → answer_at (at.Over x) ≡ Some (answers.Filled frame) → FitsAt layout view f.who f.page f.body (at.Over x) → HoldsAhead layout f.who view f.page (Some frame) 1 (Some f.body) × (frame.0 < layout.frames)
    over-at None over has = absurd (both_ways true (sym (ap is-filled over)) refl)
    over-at (Some other) over has = subst (λ (g : Frame). HoldsAhead layout f.who view f.page (Some g) 1 (Some f.body) × (g.0 < layout.frames)) (ap (frame-or frame) over) has

    which : (x : FillAt) → answer_at x ≡ Some (answers.Filled frame) → FitsAt layout view f.who f.page f.body x → HoldsAhead layout f.who view f.page (Some frame) 1 (Some f.body) × (frame.0 < layout.frames)
    which (at.Take t) over has = absurd (none-some (answers.Filled frame) over)
    which (at.SetOwner other) over has = absurd (none-some (answers.Filled frame) over)
    which (at.Refer r) over has = absurd (none-some (answers.Filled frame) over)
    which (at.SetCache other) over has = absurd (none-some (answers.Filled frame) over)
    which (at.Over x) over has = over-at x over has

-- a page that was not is held as before, and the command saw that no frame was available
pub unfilled : (layout : Layout) (view : View) (f : Fill) → answer f ≡ Some answers.NoFrame → Fits layout view f → HoldsPage layout view f.page None f.body × Saw view f.who places.Available 0
unfilled layout view f answered fits = which f.at answered fits.at
  where
    which : (x : FillAt) → answer_at x ≡ Some answers.NoFrame → FitsAt layout view f.who f.page f.body x → HoldsPage layout view f.page None f.body × Saw view f.who places.Available 0
    which (at.Over None) over has = has
    which (at.Over (Some frame)) over has = absurd (both_ways true (ap is-filled over) refl)
    which (at.Take t) over has = absurd (none-some answers.NoFrame over)
    which (at.SetOwner frame) over has = absurd (none-some answers.NoFrame over)
    which (at.Refer r) over has = absurd (none-some answers.NoFrame over)
    which (at.SetCache frame) over has = absurd (none-some answers.NoFrame over)
