-- The laws of `Clear`.
use Rattle.std.proofs.Common.{◌≡◌, ◌≢◌, ◌⊎◌, inl, inr, ℕ, ◌+◌, ◌-◌, ◌^◌, ◌<◌, ◌≤◌, Bool, true, false, cond, nat_lt, List, [], ◌∷◌, Option, Some, None, length, slice_get, slice_set, refl, sym, ap, ◌∙◌, subst, arith}
use Rattle.std.proofs.lemmas.Bool.{both_ways, lt-ltb, le-ltb, cases_lt}
use Rattle.std.proofs.lemmas.Option.{none-some, same_Some, slice_get_within}
use Rattle.std.specs.FinSet as set
use Rattle.std.specs.List.{find}
use Rattle.std.specs.Ordering.{nat_cmp}
use Rattle.hwp_core_rule.specs.hwp_geom.declared.Frame.{Frame}
use Rattle.hwp_core_rule.specs.hwp_geom.declared.Layout.{Layout}
use Rattle.hwp_core_rule.specs.hwp_geom.declared.Page.{Page}
use Rattle.hwp_core_rule.specs.hwp_geom.declared.TransDecl.{TransDecl}
use Rattle.hwp_core_rule.specs.hwp_geom.declared.VSlot.{VSlot}
use Rattle.hwp_core_rule.specs.hwp_kill.Limits.{slot_limit}
use Rattle.hwp_core_rule.specs.hwp_page.declared.PageState.{PageState}
use Rattle.hwp_core_rule.specs.hwp_page.History.{BodyValue}
use Rattle.hwp_core_rule.specs.hwp_words.Translations.{pte_word}
use Rattle.hwp_core_rule.specs.hwp_words.declared.Pte.TheVariants as ptes
use Rattle.hwp_core_rule.specs.declared.Ref.{Ref}
use Rattle.hwp_core_rule.specs.declared.Step.{Step}
use Rattle.hwp_core_rule.specs.declared.Step.TheVariants as steps
use Rattle.hwp_core_rule.specs.declared.View.{View}
use Rattle.hwp_core_rule.specs.Asks.{CanFree, CanSetPte, frame_of}
use Rattle.hwp_core_rule.specs.Logs.{state_of}
use Rattle.hwp_core_rule.specs.Lasting.{IsMild}
use Rattle.hwp_core_rule.specs.Views.{frame_in, is_body_of, less_named, refs_on, with_named}
use Rattle.hwp_core_rule.specs.Words.{Words}
use Rattle.hwp_core_rule.proofs.Lists.{same-number, same-or, set_here, set_else}
use Rattle.hwp_core_rule.proofs.MetWords.{frame-named, lock-knows}
use Rattle.hwp_core_rule.specs.declared.Turn.{Turn}
use Rattle.hwp_core_rule.specs.declared.Turn.TheVariants.{Moved}
use Rattle.hwp_core_rule.specs.Calls.{CanMake, Steps}
use Rattle.hwp_core_rule.specs.Hands.{Hand, hand_of}
use Rattle.hwp_core_rule.specs.Ranks.{IsRanked, is_waits, translation_room, words_at}
use Rattle.hwp_core_rule.specs.Boards.{view_of}
use Rattle.hwp_core_rule.proofs.tasks.StepRanks.{rank-of, steps-on}
use Rattle.hwp_core_rule.proofs.tasks.StepLeaves.{on-turn-after, hand-planned, steps-planned, can-make}
use Rattle.hwp_core_rule.proofs.tasks.MadeEntries.{ListsNone}
use Rattle.hwp_core.specs.Holds.{page_lock}
use Rattle.hwp_core.specs.declared.clear.Clear.{Clear}
use Rattle.hwp_core.specs.Clears.{pte_of, IsNextFrom, plan, plan_at, Follows, FollowsAt, Shows, ShowsAt, is_done, word_now, IsCounted, IsClearing, Fits, cost, cost_at, task as clear-task}
use Rattle.hwp_core.specs.Vacates.{page_held, with_frame}
use Rattle.hwp_core.proofs.TranslationWrites.{trans-word}
use Rattle.hwp_core.proofs.VacateLaws.{lock-held, refs-are}

-- what is written names no frame
names-none : (barred : Bool) → frame_in (pte_word (pte_of barred)) ≡ None
names-none true = refl
names-none false = refl

leads-nowhere : (barred : Bool) (f : Frame) → frame_of (pte_of barred) ≡ Some f → ⊥
leads-nowhere true f is = none-some f is
leads-nowhere false f is = none-some f is

-- Before the first translation is written, none is.
pub none-done : (slots : set.FinSet nat_cmp) (n : Option VSlot) → IsNextFrom slots 0 n → (u : ℕ) → set.contains slots u ≡ true → is_done n u ≡ false
none-done slots None none u some = absurd (both_ways (set.contains slots u) (none u (omega arith)) some)
none-done slots (Some v) low u some = le-ltb u v.0 (first (cases_lt u v.0))
  where
    first : (u < v.0) ⊎ (v.0 ≤ u) → v.0 ≤ u
    first (inl less) = absurd (both_ways (set.contains slots u) (low.1.lowest u (omega arith) less) some)
    first (inr past) = past

-- Once a translation is written and the next one comes, it is written, and of the others it is as before whether they are.
module _ (slots : set.FinSet nat_cmp) (slot : VSlot) where
  pub done-behind : (n : Option VSlot) → IsNextFrom slots (slot.0 + 1) n → is_done n slot.0 ≡ true
  done-behind None none = refl
  done-behind (Some v) low = let above : slot.0 + 1 ≤ v.0 = low.1.not_below in lt-ltb slot.0 v.0 (omega (arith, above))

  pub done-same : (u : ℕ) → set.contains slots u ≡ true → u ≢ slot.0 → (n : Option VSlot) → IsNextFrom slots (slot.0 + 1) n → nat_lt u slot.0 ≡ is_done n u
  done-same u some other None none = which (cases_lt u slot.0)
    where
      which : (u < slot.0) ⊎ (slot.0 ≤ u) → nat_lt u slot.0 ≡ true
      which (inl less) = lt-ltb u slot.0 less
      which (inr past) = absurd (both_ways (set.contains slots u) (none u (omega (arith, past, other))) some)
  done-same u some other (Some v) low = which (cases_lt u slot.0)
    where
      above : slot.0 + 1 ≤ v.0
      above = low.1.not_below

      which : (u < slot.0) ⊎ (slot.0 ≤ u) → nat_lt u slot.0 ≡ nat_lt u v.0
      which (inl less) = lt-ltb u slot.0 less ∙ sym (lt-ltb u v.0 (omega (arith, less, above)))
      which (inr past) = by (cases_lt u v.0)
        where
          by : (u < v.0) ⊎ (v.0 ≤ u) → nat_lt u slot.0 ≡ nat_lt u v.0
          by (inl less) = absurd (both_ways (set.contains slots u) (low.1.lowest u (omega (arith, past, other)) less) some)
          by (inr far) = le-ltb u slot.0 past ∙ sym (le-ltb u v.0 far)

module _ {layout : Layout} {old : View} (c : Clear) (slot : VSlot) (fits : Fits layout old c) (has : IsClearing layout old (record c { next = Some slot })) where
  abbrev state : PageState
  state = state_of layout has.taken.log

  used : set.contains c.slots slot.0 ≡ true
  used = has.member slot refl

  maps-used : set.contains state.maps slot.0 ≡ true
  maps-used = ap (λ m. set.contains m slot.0) (sym has.slots_are) ∙ used

  decl : (t : TransDecl) × (slice_get layout.trans slot.0 ≡ Some t) × (t.page ≡ c.page)
  decl = has.declared slot.0 used

  within : slot.0 < length layout.trans
  within = slice_get_within layout.trans slot.0 decl.0 decl.1

  small : c.frame.0 < 2 ^ 16
  small = let few : _ = fits.sound.frames in let inside : _ = fits.frame in omega (arith, few, inside)

  -- its word names the frame still
  names-frame : slice_get has.trans slot.0 ≡ Some (c.frame.0 + 1)
  names-frame = has.words slot.0 decl.0 decl.1 decl.2
      ∙ ap (λ (b : Bool). Some (cond b (cond (nat_lt slot.0 slot.0) (pte_word (pte_of c.barred)) (c.frame.0 + 1)) (cond (set.contains state.bar slot.0) (pte_word ptes.Poison) 0))) maps-used
      ∙ ap (λ (b : Bool). Some (cond b (pte_word (pte_of c.barred)) (c.frame.0 + 1))) (le-ltb slot.0 slot.0 (omega arith))

  pages : old.pages ≡ page_lock c.page (Some c.frame) (Some has.trans) ∷ []
  pages = ap (λ (h : Hand). h.pages) has.hand_is

  can-write : CanSetPte layout old slot (pte_of c.barred)
  can-write = record {
    decl = decl.0;
    declared = decl.1;
    page_held = record {
      lock = record { lock = page_lock c.page (Some c.frame) (Some has.trans); listed = ap (λ l. slice_get l 0) pages; page_is = sym decl.2 };
      body = has.taken;
      body_is = ap (λ (h : Hand). find (is_body_of decl.0.page) h.bodies) has.hand_is ∙ ap (λ (b : Bool). cond b (Some has.taken) None) (same-number has.taken.log.page.0 decl.0.page.0 (ap (λ (p : Page). p.0) (has.taken_is ∙ sym decl.2)));
      cache = c.frame.0 + 1;
      cache_is = refl;
      trans = has.trans;
      trans_is = refl;
    };
    old = c.frame.0 + 1;
    old_is = names-frame;
    frames = (
      λ f named. subst (CanFree layout old) (same_Some c.frame f (sym (frame-named c.frame small) ∙ named)) (record {
        has = lock-held _ (ap (λ (h : Hand). h.locks) has.hand_is) refl;
        room = subst (λ (n : ℕ). n + 1 ≤ length layout.trans + 2) (sym (ap (λ (h : Hand). refs_on c.frame.0 h.refs) has.hand_is ∙ refs-are c.frame (c.count - 1))) (let few : c.count ≤ slot.0 + 2 = has.counted in let inside : _ = within in let some : _ = has.some in omega (arith, few, inside, some));
      }),
      λ f leads. absurd (leads-nowhere c.barred f leads),
    );
  }

  -- ---- after the step

  module _ {new : View} {found : ℕ} {got : Option BodyValue} (made : Steps layout c.who (steps.SetPte slot (pte_of c.barred)) None old new found got) where
    abbrev word : ℕ
    word = pte_word (pte_of c.barred)

    abbrev now : List ℕ
    now = slice_set has.trans slot.0 word

    abbrev after : List Ref → Hand
    after refs = record (with_frame c.frame (c.page.0 + 1) has.handled has.poisoned 0 (page_held c.page (Some c.frame) now has.taken)) { refs = refs }

    found-is : found ≡ c.frame.0 + 1
    found-is = same_Some found (c.frame.0 + 1) (sym (trans-word layout made.told.board made.told.rule slot found within made.told.met)
        ∙ sym ((lock-knows layout made.told.board made.told.rule made.told.seat old made.told.me (page_lock c.page (Some c.frame) (Some has.trans)) (ap (λ l. slice_get l 0) pages)).words has.trans refl slot.0 decl.0 decl.1 decl.2)
        ∙ names-frame)

    hand : hand_of new ≡ after (record { frame = c.frame; count = c.count + 1 - 1 } ∷ [])
    hand = hand-planned made refl has.hand_is
        ∙ ap (λ (n : Option Frame). after (with_named (frame_in found) (less_named n (record { frame = c.frame; count = c.count - 1 } ∷ [])))) (names-none c.barred)
        ∙ ap (λ (n : Option Frame). after (with_named n (record { frame = c.frame; count = c.count - 1 } ∷ []))) (ap frame_in found-is ∙ frame-named c.frame small)
        ∙ ap (λ (b : Bool). after (cond b (record { frame = c.frame; count = c.count - 1 + 1 } ∷ []) (record { frame = c.frame; count = c.count - 1 } ∷ record { frame = c.frame; count = 1 } ∷ []))) (same-number c.frame.0 c.frame.0 refl)
        ∙ ap (λ (n : ℕ). after (record { frame = c.frame; count = n } ∷ [])) (let some : _ = has.some in omega (arith, some))

    module _ (next : Option VSlot) (lowest : IsNextFrom c.slots (slot.0 + 1) next) where
      words-now : (u : ℕ) (t : TransDecl) → slice_get layout.trans u ≡ Some t → t.page ≡ c.page → slice_get now u ≡ Some (word_now state c.barred c.frame next u)
      words-now u t declared own = which (same-or u slot.0)
        where
          same-word : u ≢ slot.0 → (b : Bool) → set.contains state.maps u ≡ b → word_now state c.barred c.frame (Some slot) u ≡ word_now state c.barred c.frame next u
          same-word other true some = ap (λ (d : Bool). cond (set.contains state.maps u) (cond d word (c.frame.0 + 1)) (cond (set.contains state.bar u) (pte_word ptes.Poison) 0)) (done-same c.slots slot u (ap (λ m. set.contains m u) has.slots_are ∙ some) other next lowest)
          same-word other false none = ap (λ (b : Bool). cond b (cond (nat_lt u slot.0) word (c.frame.0 + 1)) (cond (set.contains state.bar u) (pte_word ptes.Poison) 0)) none
              ∙ sym (ap (λ (b : Bool). cond b (cond (is_done next u) word (c.frame.0 + 1)) (cond (set.contains state.bar u) (pte_word ptes.Poison) 0)) none)

          which : (u ≡ slot.0) ⊎ (u ≢ slot.0) → slice_get now u ≡ Some (word_now state c.barred c.frame next u)
          which (inl same) = ap (slice_get now) same ∙ set_here has.trans slot.0 word (c.frame.0 + 1) names-frame
              ∙ sym (ap (λ (n : ℕ). Some (word_now state c.barred c.frame next n)) same
              ∙ ap (λ (b : Bool). Some (cond b (cond (is_done next slot.0) word (c.frame.0 + 1)) (cond (set.contains state.bar slot.0) (pte_word ptes.Poison) 0))) maps-used
              ∙ ap (λ (b : Bool). Some (cond b word (c.frame.0 + 1))) (done-behind c.slots slot next lowest))
          which (inr other) = set_else has.trans slot.0 u word other ∙ has.words u t declared own ∙ ap (λ (n : ℕ). Some n) (same-word other (set.contains state.maps u) refl)

      counted : (n : Option VSlot) → IsNextFrom c.slots (slot.0 + 1) n → IsCounted layout (c.count + 1) n
      counted None none = let few : c.count ≤ slot.0 + 2 = has.counted in let inside : _ = within in omega (arith, few, inside)
      counted (Some v) low = let few : c.count ≤ slot.0 + 2 = has.counted in let above : slot.0 + 1 ≤ v.0 = low.1.not_below in omega (arith, few, above)

      member-now : (n : Option VSlot) → IsNextFrom c.slots (slot.0 + 1) n → (s : VSlot) → n ≡ Some s → set.contains c.slots s.0 ≡ true
      member-now None none s is = absurd (none-some s is)
      member-now (Some v) low s is = subst (λ (x : VSlot). set.contains c.slots x.0 ≡ true) (same_Some v s is) low.1.member

      pub written : IsClearing layout new (record c { count = c.count + 1; next = next })
      written = record {
        trans = now;
        taken = has.taken;
        handled = has.handled;
        poisoned = has.poisoned;
        hand_is = hand;
        taken_is = has.taken_is;
        slots_are = has.slots_are;
        declared = has.declared;
        words = words-now;
        some = let some : _ = has.some in omega (arith, some);
        counted = counted next lowest;
        member = member-now next lowest;
      }

pub can : (layout : Layout) (view : View) (c : Clear) (step : Step) → Fits layout view c → plan c ≡ Some step → CanMake layout c.who step None view
can layout view c step fits is = which c.next fits.at is
  where
    which : (n : Option VSlot) → IsClearing layout view (record c { next = n }) → plan_at c.barred n ≡ Some step → CanMake layout c.who step None view
    which None has e = absurd (none-some step e)
    which (Some slot) has e = can-make fits.on_turn e (within c slot fits has) (can-write c slot fits has)

-- a step shows what is needed, and what follows fits again
pub both : (layout : Layout) (old new : View) (c : Clear) (step : Step) (found : ℕ) (got : Option BodyValue) → Fits layout old c → plan c ≡ Some step → Steps layout c.who step None old new found got → Shows c × ((after : Clear) → Follows c after → Fits layout new after)
both layout old new c step found got fits is made = which c.next fits.at is
  where
    which : (n : Option VSlot) → IsClearing layout old (record c { next = n }) → plan_at c.barred n ≡ Some step → ShowsAt c.count n × ((after : Clear) → FollowsAt c n after → Fits layout new after)
    which None has e = absurd (none-some step e)
    which (Some slot) has e = (
      let inside : _ = within c slot fits has in let few : _ = fits.sound.trans in (omega (arith, inside, few), has.counted),
      λ after follows. subst (Fits layout new) (sym follows.0) (record {
        on_turn = on-turn-after fits.on_turn made;
        sound = fits.sound;
        page = fits.page;
        frame = fits.frame;
        at = written c slot fits has (steps-planned e made) after.next follows.1;
      }),
    )

pub stays : (layout : Layout) (old new : View) (c : Clear) (step : Step) (found : ℕ) (got : Option BodyValue) → Fits layout old c → plan c ≡ Some step → Steps layout c.who step None old new found got
    → Shows c × ((after : Clear) (turn : Turn) → Follows c after × (turn ≡ Moved) → Fits layout new after × (after.who.cpu ≡ c.who.cpu))
stays layout old new c step found got fits is made = let all = both layout old new c step found got fits is made in (all.0, λ after turn follows. (all.1 after follows.0, own c.next after follows.0))
  where
    own : (n : Option VSlot) (after : Clear) → FollowsAt c n after → after.who.cpu ≡ c.who.cpu
    own None after follows = ap (λ (x : Clear). x.who.cpu) follows
    own (Some slot) after follows = ap (λ (x : Clear). x.who.cpu) follows.0

-- the page, its frame and the command stay the same with each turn
pub record IsSameClear (c after : Clear) : Type 0 where
  pub who : after.who ≡ c.who
  pub page : after.page ≡ c.page
  pub frame : after.frame ≡ c.frame
  pub barred : after.barred ≡ c.barred

pub same-clear : (c after : Clear) → Follows c after → IsSameClear c after
same-clear c after follows = which c.next follows
  where
    which : (n : Option VSlot) → FollowsAt c n after → IsSameClear c after
    which None is = record { who = ap (λ (x : Clear). x.who) is; page = ap (λ (x : Clear). x.page) is; frame = ap (λ (x : Clear). x.frame) is; barred = ap (λ (x : Clear). x.barred) is }
    which (Some slot) is = record { who = ap (λ (x : Clear). x.who) is.0; page = ap (λ (x : Clear). x.page) is.0; frame = ap (λ (x : Clear). x.frame) is.0; barred = ap (λ (x : Clear). x.barred) is.0 }

-- ---- the law of the rank

pub clears-fall : (c next : Clear) (w now : Words) {step : Step} → plan c ≡ Some step → Follows c next → Shows c → cost next now < cost c w
clears-fall c next w now {step} is follows shows = which c.next is follows shows
  where
    by : (slot : VSlot) (n : Option VSlot) → slot.0 < slot_limit → IsNextFrom c.slots (slot.0 + 1) n → cost_at n < slot_limit - slot.0
    by slot None few low = omega (arith, few)
    by slot (Some v) few low = let above : slot.0 + 1 ≤ v.0 = low.1.not_below in omega (arith, few, above)

    which : (n : Option VSlot) → plan_at c.barred n ≡ Some step → FollowsAt c n next → ShowsAt c.count n → cost_at next.next < cost_at n
    which None e follows shows = absurd (none-some step e)
    which (Some slot) e follows shows = by slot next.next shows.0 follows.1

pub clear-small : (w : Words) (c : Clear) → cost c w ≤ translation_room
clear-small w c = which c.next
  where
    which : (n : Option VSlot) → cost_at n ≤ translation_room
    which None = omega arith
    which (Some slot) = omega arith

-- none of its steps poisons a frame or takes its poison back
pub clear-mild : (c : Clear) (step : Step) → plan c ≡ Some step → IsMild step
clear-mild c step is = which c.next is
  where
    which : (n : Option VSlot) → plan_at c.barred n ≡ Some step → IsMild step
    which (Some slot) e = subst IsMild (same_Some (steps.SetPte slot (pte_of c.barred)) step e) tt
    which None e = absurd (none-some step e)

-- none of its steps lists an entry by itself
pub clear-lists : (c : Clear) (step : Step) → plan c ≡ Some step → ListsNone step
clear-lists c step is = which c.next is
  where
    which : (n : Option VSlot) → plan_at c.barred n ≡ Some step → ListsNone step
    which (Some slot) e = subst ListsNone (same_Some (steps.SetPte slot (pte_of c.barred)) step e) tt
    which None e = absurd (none-some step e)

pub clear-ranked : IsRanked clear-task
clear-ranked = rank-of clear-task (λ s. refl) (λ s. (omega arith, omega arith)) (λ layout a seat s rule fits. let few : _ = clear-small (words_at layout a) s in omega (arith, few))
    (λ layout seat a b s t turn made goes. clears-fall s t (words_at layout a) (words_at layout b) made.planned made.follows.0 (both layout (view_of a seat) _ s made.step made.found made.got made.fits made.planned (steps-on made)).0)
    (λ layout seat a b s t turn made is quiet. absurd (both_ways true (sym is ∙ ap is_waits made.follows.1) refl))
    (λ s. refl) clear-mild
