-- The steps by which a page is put into another frame: what is held, and what the body in hand is, after each.
use Rattle.std.proofs.Common.{◌≡◌, ◌≢◌, inl, inr, ℕ, ◌+◌, ◌-◌, ◌^◌, ◌<◌, ◌≤◌, ◌==◌, Bool, true, false, cond, nat_le, List, [], ◌∷◌, ◌++◌, Option, Some, None, is_none, length, drop, map, slice_get, refl, sym, ap, ◌∙◌, subst, arith}
use Rattle.std.proofs.lemmas.Bool.{both_ways, lt-leb, ne_eqb}
use Rattle.std.proofs.lemmas.List.{drop-append-le}
use Rattle.std.proofs.lemmas.Option.{none-some, same_Some}
use Rattle.std.specs.FinSet as set
use Rattle.std.specs.List.{find, sum_by}
use Rattle.std.specs.Ordering.{nat_cmp}
use Rattle.hwp_claim_frame.specs.hwp_geom.declared.Frame.{Frame}
use Rattle.hwp_claim_frame.specs.hwp_geom.declared.Layout.{Layout}
use Rattle.hwp_claim_frame.specs.hwp_geom.declared.Page.{Page}
use Rattle.hwp_claim_frame.specs.hwp_geom.declared.Who.{Who}
use Rattle.hwp_claim_frame.specs.hwp_page.declared.At.{At}
use Rattle.hwp_claim_frame.specs.hwp_page.declared.Entry.{Entry}
use Rattle.hwp_claim_frame.specs.hwp_page.declared.What.TheVariants as entries
use Rattle.hwp_claim_frame.specs.hwp_page.History.{BodyValue}
use Rattle.hwp_claim_frame.specs.hwp_words.Frames.{count_of, handled_of, is_poisoned}
use Rattle.hwp_claim_frame.specs.hwp_core_rule.declared.FrameLock.{FrameLock}
use Rattle.hwp_claim_frame.specs.hwp_core_rule.declared.InHand.{InHand}
use Rattle.hwp_claim_frame.specs.hwp_core_rule.declared.Log.{Log}
use Rattle.hwp_claim_frame.specs.hwp_core_rule.declared.Made.{Made}
use Rattle.hwp_claim_frame.specs.hwp_core_rule.declared.Ref.{Ref}
use Rattle.hwp_claim_frame.specs.hwp_core_rule.declared.Sight.{Sight}
use Rattle.hwp_claim_frame.specs.hwp_core_rule.declared.Step.TheVariants as steps
use Rattle.hwp_claim_frame.specs.hwp_core_rule.declared.View.{View}
use Rattle.hwp_claim_frame.specs.hwp_core_rule.Logs.{log_of}
use Rattle.hwp_claim_frame.specs.hwp_core_rule.Steps.{is_last}
use Rattle.hwp_claim_frame.specs.hwp_core_rule.Views.{body_of, changed, frame_in, hand_found, is_body_of, is_lock_of, less_refs, more_of, refs_on, with_named, with_refs, without}
use Rattle.hwp_claim_frame.specs.hwp_core_rule.Words.{words_of}
use Rattle.hwp_claim_frame.specs.hwp_core_rule.parts.Counts.{named as named_by}
use Rattle.hwp_claim_frame.specs.hwp_core_rule.parts.Entries.{HasSeen}
use Rattle.hwp_claim_frame.proofs.of_hwp_core_rule.Lists.{at_map, same-number, term-le}
use Rattle.hwp_claim_frame.proofs.of_hwp_core_rule.MetWords.{cache-word, frame-named, frame-word, lock-knows}
use Rattle.hwp_claim_frame.proofs.of_hwp_core_rule.Sights.{seen-more}
use Rattle.hwp_claim_frame.specs.hwp_core_rule.Calls.{Steps, logs}
use Rattle.hwp_claim_frame.specs.hwp_core_rule.Hands.{Hand, empty, hand_of, putting}
use Rattle.hwp_claim_frame.proofs.of_hwp_core_rule.tasks.StepLeaves.{hand-planned}
use Rattle.hwp_claim_frame.specs.hwp_core_rule.Known.{IsAt, deeds}
use Rattle.hwp_claim_frame.proofs.of_hwp_core_rule.tasks.MadeEntries.{deeds-one, deeds-same, frame-lists, has-made-beside, only-of-none}
use Rattle.hwp_claim_frame.specs.hwp_core.declared.refer.ReferAt.{ReferAt}
use Rattle.hwp_claim_frame.specs.hwp_core.declared.refer.ReferAt.TheVariants as refer_at
use Rattle.hwp_claim_frame.specs.hwp_core.declared.release.ReleaseAt.{ReleaseAt}
use Rattle.hwp_claim_frame.specs.hwp_core.declared.release.ReleaseAt.TheVariants as release_at
use Rattle.hwp_claim_frame.specs.hwp_core.Holds.{named, one_ref, page_lock, refs_to}
use Rattle.hwp_claim_frame.specs.hwp_core.Refers as refers
use Rattle.hwp_claim_frame.specs.hwp_core.Releases as releases
use Rattle.hwp_claim_frame.specs.hwp_core.Releases.{new_lock}
use Rattle.hwp_claim_frame.specs.hwp_core.Vacates.{page_held}
use Rattle.hwp_claim_frame.proofs.of_hwp_core.BodyGrows.{Grown, length-grown}
use Rattle.hwp_claim_frame.proofs.of_hwp_core.VacateLaws.{refs-are, refs-gone}
use Rattle.hwp_soft_move.specs.declared.relocate.RelocateAt.{RelocateAt}
use Rattle.hwp_soft_move.specs.declared.relocate.RelocateAt.TheVariants as at
use Rattle.hwp_soft_move.specs.declared.relocate.Transfer.{Transfer}
use Rattle.hwp_soft_move.specs.Relocating.{Carries, HasMoved, IsAhead, hand_at, leaving, referred, releasing}
use Rattle.hwp_soft_move.specs.Remaps.{old_lock, with_both}
use Rattle.hwp_soft_move.proofs.RemapLaws.{refs-fewer, refs-more, two_refs}
use Rattle.hwp_soft_move.proofs.SoftEntry.{body-page, one-more}

-- ---- what is held

pub apart-from : {from to : Frame} → from.0 ≢ to.0 → (from.0 == to.0) ≡ false
apart-from {from} {to} apart = ne_eqb from.0 to.0 apart

pub apart-to : {from to : Frame} → from.0 ≢ to.0 → (to.0 == from.0) ≡ false
apart-to {from} {to} apart = ne_eqb to.0 from.0 (λ e. apart (sym e))

-- the locks, where one gets another owner
owner-to : (from to : Frame) (o p q : ℕ) → from.0 ≢ to.0 → changed (is_lock_of to) (λ (l : FrameLock). record l { owner = q }) (old_lock from o ∷ record (new_lock to) { owner = p } ∷ []) ≡ old_lock from o ∷ record (new_lock to) { owner = q } ∷ []
owner-to from to o p q apart =
    ap (λ (b : Bool). cond b (old_lock from q) (old_lock from o) ∷ cond (to.0 == to.0) (record (new_lock to) { owner = q }) (record (new_lock to) { owner = p }) ∷ []) (apart-from apart)
    ∙ ap (λ (b : Bool). old_lock from o ∷ cond b (record (new_lock to) { owner = q }) (record (new_lock to) { owner = p }) ∷ []) (same-number to.0 to.0 refl)

owner-from : (from to : Frame) (o p q : ℕ) → from.0 ≢ to.0 → changed (is_lock_of from) (λ (l : FrameLock). record l { owner = q }) (old_lock from o ∷ record (new_lock to) { owner = p } ∷ []) ≡ old_lock from q ∷ record (new_lock to) { owner = p } ∷ []
owner-from from to o p q apart =
    ap (λ (b : Bool). cond (from.0 == from.0) (old_lock from q) (old_lock from o) ∷ cond b (record (new_lock to) { owner = q }) (record (new_lock to) { owner = p }) ∷ []) (apart-to apart)
    ∙ ap (λ (b : Bool). cond b (old_lock from q) (old_lock from o) ∷ record (new_lock to) { owner = p } ∷ []) (same-number from.0 from.0 refl)

-- references to the new frame more
refs-more-to : (from to : Frame) (m k n : ℕ) → from.0 ≢ to.0 → with_refs to n (two_refs from m to k) ≡ two_refs from m to (k + n)
refs-more-to from to m k n apart =
    ap (λ (b : Bool). cond b (record { frame = from; count = m + n } ∷ record { frame = to; count = k } ∷ []) (record { frame = from; count = m } ∷ with_refs to n (record { frame = to; count = k } ∷ []))) (apart-from apart)
    ∙ ap (λ (b : Bool). record { frame = from; count = m } ∷ cond b (record { frame = to; count = k + n } ∷ []) (record { frame = to; count = k } ∷ with_refs to n [])) (same-number to.0 to.0 refl)

abbrev entry_by : Who → Entry
entry_by who = record { who = who; what = entries.Soft }

abbrev pub refs-of : Transfer → List ℕ → InHand → ℕ → Hand
refs-of t trans taken n = with_both t.from (t.page.0 + 1) 1 t.to (t.page.0 + 1) n (page_held t.page (Some t.from) trans taken)

pub refer-on : (t : Transfer) (trans : List ℕ) (taken : InHand) (x : ReferAt) (found : ℕ) → 1 ≤ t.count → t.from.0 ≢ t.to.0 → is_none (refers.plan_at t.to (t.count - 1) x) ≡ false
    → refers.hand_next_at t.to (t.count - 1) x found (refs-of t trans taken (referred t.count x)) ≡ refs-of t trans taken (referred t.count (refers.next_at x found))
refer-on t trans taken refer_at.Load found some apart on = refl
refer-on t trans taken (refer_at.Get seen) found some apart on = by (found == seen)
  where
    by : (b : Bool) → cond b (record (refs-of t trans taken 1) { refs = with_refs t.to (t.count - 1) (two_refs t.from 1 t.to 1) }) (refs-of t trans taken 1) ≡ refs-of t trans taken (referred t.count (cond b refer_at.Over (refer_at.Get found)))
    by true = ap (λ (l : List Ref). record (refs-of t trans taken 1) { refs = l }) (refs-more-to t.from t.to 1 1 (t.count - 1) apart) ∙ ap (refs-of t trans taken) (let all : 1 + (t.count - 1) ≡ t.count = omega (arith, some) in all)
    by false = refl
refer-on t trans taken refer_at.Over found some apart on = absurd (both_ways true on refl)

-- what is held when the cache word is written, with these references
abbrev cached-now : Transfer → List ℕ → InHand → List Ref → Bool → Hand
cached-now t trans taken refs same = record (with_both t.from (t.page.0 + 1) 0 t.to (t.page.0 + 1) 0 (page_held t.page (Some t.from) trans taken)) {
  refs = refs;
  pages = cond same (page_lock t.page (Some t.to) (Some trans)) (page_lock t.page (Some t.from) (Some trans)) ∷ [];
}

-- the page's body goes home to the new frame, which is unlocked
body-home : (t : Transfer) (trans : List ℕ) (taken : InHand) (log : Log) → log.page ≡ t.page → taken.log.page ≡ t.page → t.from.0 ≢ t.to.0
    → record (putting (Some log) (hand_at t at.UnlockFrame trans taken)) { locks = without (is_lock_of t.to) (hand_at t at.UnlockFrame trans taken).locks } ≡ releasing t release_at.Put
body-home t trans taken log of_log of_taken apart =
    let other : (t.from.0 == t.to.0) ≡ false = apart-from apart in
    let same : (t.to.0 == t.to.0) ≡ true = same-number t.to.0 t.to.0 refl in
    let own : (taken.log.page.0 == log.page.0) ≡ true = same-number taken.log.page.0 log.page.0 (ap (λ (p : Page). p.0) (of_taken ∙ sym of_log)) in
    let its : (t.page.0 == log.page.0) ≡ true = same-number t.page.0 log.page.0 (ap (λ (p : Page). p.0) (sym of_log)) in
    let put : (log.page.0 == log.page.0) ≡ true = same-number log.page.0 log.page.0 refl in
    grind arith

pub released : (t : Transfer) (x : ReleaseAt) (found : ℕ) → t.from.0 ≢ t.to.0 → is_none (releases.plan_at t.to 1 x) ≡ false → releases.hand_next_at t.to 1 x found (releasing t x) ≡ releasing t (releases.next_at 1 x found)
released t release_at.Put found apart on =
    ap (λ (refs : List Ref). record (leaving t t.count) { refs = refs; hands = cond (is_last 1 found) ([] ++ (record { frame = t.to; poisoned = is_poisoned found }) ∷ []) [] }) none
    ∙ by (is_last 1 found) (is_poisoned found)
  where
    none : less_refs t.to 1 (two_refs t.from t.count t.to 1) ≡ refs_to t.from t.count
    none = let other : (t.from.0 == t.to.0) ≡ false = apart-from apart in let same : (t.to.0 == t.to.0) ≡ true = same-number t.to.0 t.to.0 refl in grind arith

    by : (b p : Bool) → record (leaving t t.count) { hands = cond b ([] ++ (record { frame = t.to; poisoned = p }) ∷ []) [] } ≡ releasing t (cond b (cond p (release_at.Adopt found) (release_at.Give found)) (release_at.Back found))
    by true true = refl
    by true false = refl
    by false p = refl
released t (release_at.Give word) found apart on = let same : (t.to.0 == t.to.0) ≡ true = same-number t.to.0 t.to.0 refl in grind arith
released t (release_at.Unreserve word) found apart on = grind arith
released t (release_at.Adopt word) found apart on = let other : (t.from.0 == t.to.0) ≡ false = apart-from apart in let same : (t.to.0 == t.to.0) ≡ true = same-number t.to.0 t.to.0 refl in grind arith
released t (release_at.Retire word) found apart on = let other : (t.from.0 == t.to.0) ≡ false = apart-from apart in let same : (t.to.0 == t.to.0) ≡ true = same-number t.to.0 t.to.0 refl in grind arith
released t (release_at.Back word) found apart on = absurd (both_ways true on refl)

-- ---- what the body in hand is

pub saw-grown : {old new : List Sight} (n : ℕ) (who : Who) (frame : Option Frame) → Grown old new → n ≤ length old → HasSeen (drop n old) who frame entries.Soft → HasSeen (drop n new) who frame entries.Soft
saw-grown {old} {new} n who frame (inl same) few has = subst (λ (l : List Sight). HasSeen (drop n l) who frame entries.Soft) (sym same) has
saw-grown {old} {new} n who frame (inr more) few has = subst (λ (l : List Sight). HasSeen (drop n l) who frame entries.Soft) (sym more.1)
    (subst (λ (l : List Sight). HasSeen l who frame entries.Soft) (sym (drop-append-le n old (more.0 ∷ []) few)) (seen-more (drop n old) more.0 who frame entries.Soft has))

module _ {layout : Layout} {old new : View} {t : Transfer} {maps : set.FinSet nat_cmp} {done : At} {given : Option BodyValue} where
  abbrev pub carry-on : {base : List Made} {taken : InHand} → Carries base layout old t maps done given taken → Grown old.sights new.sights → deeds t.who new ≡ deeds t.who old → Carries base layout new t maps done given taken
  carry-on has more same = record {
    log = has.log;
    seen = has.seen;
    body = has.body;
    given_is = has.given_is;
    taken_is = has.taken_is;
    entry = has.entry;
    maps_are = has.maps_are;
    few = length-grown more has.few;
    saw = saw-grown has.seen t.who (Some t.from) more has.few has.saw;
    made_none = same ∙ has.made_none;
  }

  abbrev pub ahead-on : {base : List Made} {x y : RelocateAt} {frame : Frame} (has : IsAhead base layout old t maps done given x frame) → hand_of new ≡ hand_at t y has.trans has.taken → Grown old.sights new.sights → deeds t.who new ≡ deeds t.who old → IsAhead base layout new t maps done given y frame
  ahead-on has hand more same = record { trans = has.trans; taken = has.taken; hand_is = hand; carries = carry-on has.carries more same; words = has.words }

module _ {layout : Layout} {old new : View} (t : Transfer) (maps : set.FinSet nat_cmp) (done : At) (given : Option BodyValue) {found : ℕ} {got : Option BodyValue} (apart : t.from.0 ≢ t.to.0) where
  pub counted : {base : List Made} → Steps layout t.who (steps.CountPoison false) None old new found got → IsAhead base layout old t maps done given at.Count t.from → IsAhead base layout new t maps done given at.SetOwner t.from
  counted {base} made has = ahead-on has (hand-planned made refl has.hand_is) (inl (ap (λ (x : View). x.sights) made.told.next)) (deeds-same t.who tt made)

  -- the page is the new frame's owner
  pub owner-set : {base : List Made} → Steps layout t.who (steps.SetOwner t.to t.page true) None old new found got → IsAhead base layout old t maps done given at.SetOwner t.from → IsAhead base layout new t maps done given (at.Refer (refers.begin t.who t.to (t.count - 1))) t.from
  owner-set {base} made has = ahead-on has
      (hand-planned made refl has.hand_is ∙ ap (λ (l : List FrameLock). record (hand_at t at.SetOwner has.trans has.taken) { locks = l }) (owner-to t.from t.to (t.page.0 + 1) 0 (t.page.0 + 1) apart))
      (inl (ap (λ (x : View). x.sights) made.told.next)) (deeds-same t.who tt made)

  -- the cache word names the new frame
  pub cache-set : {base : List Made} → t.from.0 < 2 ^ 16 → 2 ≤ t.count → t.page.0 < length layout.pages → Steps layout t.who (steps.SetCache t.page (Some t.to)) None old new found got → IsAhead base layout old t maps done given at.SetCache t.to → IsAhead base layout new t maps done given at.ClearOwner t.to
  cache-set {base} small some inside made has = ahead-on has hand (inl (ap (λ (x : View). x.sights) made.told.next)) (deeds-same t.who tt made)
    where
      word : found ≡ t.from.0 + 1
      word = same_Some found (t.from.0 + 1) (sym (cache-word layout made.told.board made.told.rule t.page found inside made.told.met)
          ∙ (lock-knows layout made.told.board made.told.rule made.told.seat old made.told.me (page_lock t.page (Some t.from) (Some has.trans)) (ap (λ (h : Hand). slice_get h.pages 0) has.hand_is)).cache (t.from.0 + 1) refl)

      hand : hand_of new ≡ hand_at t at.ClearOwner has.trans has.taken
      hand = hand-planned made refl has.hand_is
          ∙ ap (λ (n : Option Frame). cached-now t has.trans has.taken (with_named n (less_refs t.to 1 (two_refs t.from (t.count - 1) t.to 2))) (t.page.0 == t.page.0)) (ap frame_in word ∙ frame-named t.from small)
          ∙ ap (λ (l : List Ref). cached-now t has.trans has.taken (with_refs t.from 1 l) (t.page.0 == t.page.0)) (refs-fewer t.from t.to (t.count - 1) 0 apart)
          ∙ ap (λ (l : List Ref). cached-now t has.trans has.taken l (t.page.0 == t.page.0)) (refs-more t.from t.to (t.count - 1) 1)
          ∙ ap (λ (b : Bool). cached-now t has.trans has.taken (two_refs t.from (t.count - 1 + 1) t.to 1) b) (same-number t.page.0 t.page.0 refl)
          ∙ ap (λ (n : ℕ). cached-now t has.trans has.taken (two_refs t.from n t.to 1) true) (let all : t.count - 1 + 1 ≡ t.count = omega (arith, some) in all)

  -- the old frame has no owner
  pub owner-cleared : {base : List Made} → Steps layout t.who (steps.SetOwner t.from t.page false) None old new found got → IsAhead base layout old t maps done given at.ClearOwner t.to → IsAhead base layout new t maps done given at.UnlockFrame t.to
  owner-cleared {base} made has = ahead-on has
      (hand-planned made refl has.hand_is ∙ ap (λ (l : List FrameLock). record (hand_at t at.ClearOwner has.trans has.taken) { locks = l }) (owner-from t.from t.to (t.page.0 + 1) (t.page.0 + 1) 0 apart))
      (inl (ap (λ (x : View). x.sights) made.told.next)) (deeds-same t.who tt made)

  -- the body is home, and with it the entry is listed
  pub unlocked : {base : List Made} → Steps layout t.who (steps.UnlockFrame t.to) (logs given) old new found got → IsAhead base layout old t maps done given at.UnlockFrame t.to → (hand_of new ≡ releasing t release_at.Put) × HasMoved base new t.who done
  unlocked {base} made has = (hand-planned own refl has.hand_is ∙ body-home t has.trans has.taken (log_of has.carries.body) (body-page has.carries.entry t.from has.carries.seen) its apart, moved)
    where
      own : Steps layout t.who (steps.UnlockFrame t.to) (Some (log_of has.carries.body)) old new found got
      own = subst (λ (b : Option BodyValue). Steps layout t.who (steps.UnlockFrame t.to) (logs b) old new found got) has.carries.given_is made

      its : has.taken.log.page ≡ t.page
      its = ap (λ (x : InHand). x.log.page) has.carries.taken_is ∙ has.carries.entry.page_is

      there : body_of (log_of has.carries.body).page old ≡ Some has.taken
      there = ap (λ (h : Hand). find (is_body_of (log_of has.carries.body).page) h.bodies) has.hand_is
          ∙ ap (λ (b : Bool). cond b (Some has.taken) None) (same-number has.taken.log.page.0 (log_of has.carries.body).page.0 (ap (λ (p : Page). p.0) (its ∙ sym (body-page has.carries.entry t.from has.carries.seen))))

      one : more_of has.taken (log_of has.carries.body) ≡ entry_by t.who ∷ []
      one = ap (λ (x : InHand). more_of x (log_of has.carries.body)) has.carries.taken_is ∙ one-more has.carries.entry t.from has.carries.seen

      deed : (m : Made) × (deeds t.who new ≡ deeds t.who old ++ m ∷ []) × IsAt (log_of has.carries.body).page (length has.taken.log.entries) entries.Soft m
      deed = deeds-one t.who (frame-lists there own) (entry_by t.who) one refl

      moved : HasMoved base new t.who done
      moved = has-made-beside t.who old new deed.0 deed.1 (
        deed.2.0 ∙ body-page has.carries.entry t.from has.carries.seen ∙ sym (ap (λ (d : At). d.page) has.carries.entry.done_is),
        deed.2.1 ∙ ap (λ (x : InHand). length x.log.entries) has.carries.taken_is ∙ sym (ap (λ (d : At). d.entry) has.carries.entry.done_is),
        deed.2.2,
      ) (only-of-none old t.who has.carries.made_none)

  -- all references to the old frame but one go back
  pub refs-put : t.from.0 < layout.frames → 2 ≤ t.count → Steps layout t.who (steps.PutRef t.from (t.count - 1)) None old new found got → hand_of old ≡ leaving t t.count → hand_of new ≡ leaving t 1
  refs-put within some made has = hand-planned made refl has
      ∙ ap (λ (b : Bool). record (leaving t t.count) { refs = less_refs t.from (t.count - 1) (refs_to t.from t.count); hands = cond b ([] ++ hand_found t.from found ∷ []) [] }) not-last
      ∙ ap (λ (l : List Ref). record (leaving t t.count) { refs = l }) left
    where
      mine : t.count ≤ sum_by (refs_on t.from.0) (map (λ (v : View). v.refs) made.told.board.views)
      mine =
          let one : refs_on t.from.0 old.refs ≤ sum_by (refs_on t.from.0) (map (λ (v : View). v.refs) made.told.board.views) = term-le (refs_on t.from.0) (map (λ (v : View). v.refs) made.told.board.views) made.told.seat old.refs (at_map (λ (v : View). v.refs) made.told.board.views made.told.seat old made.told.me) in
          let own : refs_on t.from.0 old.refs ≡ t.count = ap (λ (h : Hand). refs_on t.from.0 h.refs) has ∙ refs-are t.from t.count in
          omega (arith, one, own)

      counted-so : t.count ≤ count_of found
      counted-so =
          let balance : count_of found ≡ named_by t.from.0 (words_of layout made.told.board.words).trans + named_by t.from.0 (words_of layout made.told.board.words).caches + sum_by (refs_on t.from.0) (map (λ (v : View). v.refs) made.told.board.views) + handled_of found =
          made.told.rule.rule.frames.counts.balance t.from.0 found (frame-word layout made.told.board made.told.rule t.from found within made.told.met) in
          let m : t.count ≤ sum_by (refs_on t.from.0) (map (λ (v : View). v.refs) made.told.board.views) = mine in
          omega (arith, balance, m)

      not-last : is_last (t.count - 1) found ≡ false
      not-last = ne_eqb (count_of found) (t.count - 1) (λ e. let c = counted-so in omega (arith, e, c, some))

      left : less_refs t.from (t.count - 1) (refs_to t.from t.count) ≡ one_ref t.from
      left = ap (λ (b : Bool). cond b (cond (nat_le t.count (t.count - 1)) (less_refs t.from (t.count - 1 - t.count) []) (record { frame = t.from; count = t.count - (t.count - 1) } ∷ [])) (record { frame = t.from; count = t.count } ∷ less_refs t.from (t.count - 1) [])) (same-number t.from.0 t.from.0 refl)
          ∙ ap (λ (b : Bool). cond b (less_refs t.from (t.count - 1 - t.count) []) (record { frame = t.from; count = t.count - (t.count - 1) } ∷ [])) below
          ∙ ap (λ (n : ℕ). record { frame = t.from; count = n } ∷ []) (let one : t.count - (t.count - 1) ≡ 1 = omega (arith, some) in one)
        where
          below : nat_le t.count (t.count - 1) ≡ false
          below = lt-leb t.count (t.count - 1) (omega (arith, some))

  -- the old frame is out of use
  pub retired : Steps layout t.who (steps.Retire t.from) None old new found got → hand_of old ≡ leaving t 1 → hand_of new ≡ named t.page t.to []
  retired made has = hand-planned made refl has
      ∙ ap (λ (b : Bool). record (leaving t 1) { locks = cond b [] (old_lock t.from 0 ∷ []); refs = less_refs t.from 1 (one_ref t.from) }) (same-number t.from.0 t.from.0 refl)
      ∙ ap (λ (l : List Ref). record (named t.page t.to []) { refs = l }) (refs-gone t.from 1)

  -- the page is let go
  pub let-go : Steps layout t.who (steps.UnlockPage t.page) None old new found got → hand_of old ≡ named t.page t.to [] → hand_of new ≡ empty
  let-go made has = hand-planned made refl has ∙ ap (λ (b : Bool). record empty { pages = cond b [] (page_lock t.page (Some t.to) None ∷ []) }) (same-number t.page.0 t.page.0 refl)
