-- A page that is swapped out: its translations are written, and then it leaves its frame.
use Rattle.std.proofs.Common.{◌≡◌, ℕ, ◌+◌, ◌-◌, ◌<◌, ◌≤◌, Bool, true, false, cond, List, [], ◌∷◌, Option, Some, None, length, drop, slice_get, refl, sym, ap, ◌∙◌, subst, arith}
use Rattle.std.proofs.lemmas.Option.{none-some, same_Some}
use Rattle.std.specs.FinSet as set
use Rattle.std.specs.List.{find}
use Rattle.std.specs.Ordering.{nat_cmp}
use Rattle.hwp_core.specs.hwp_geom.declared.Frame.{Frame}
use Rattle.hwp_core.specs.hwp_geom.declared.Layout.{Layout}
use Rattle.hwp_core.specs.hwp_geom.declared.Page.{Page}
use Rattle.hwp_core.specs.hwp_geom.declared.TransDecl.{TransDecl}
use Rattle.hwp_core.specs.hwp_geom.declared.VSlot.{VSlot}
use Rattle.hwp_core.specs.hwp_geom.declared.Who.{Who}
use Rattle.hwp_core.specs.hwp_geom.Layout.{IsSound}
use Rattle.hwp_core.specs.hwp_page.declared.At.{At}
use Rattle.hwp_core.specs.hwp_page.declared.PageState.{PageState}
use Rattle.hwp_core.specs.hwp_page.declared.What.TheVariants as entries
use Rattle.hwp_core.specs.hwp_page.History.{BodyValue}
use Rattle.hwp_core.specs.hwp_words.Translations.{pte_word}
use Rattle.hwp_core.specs.hwp_words.declared.Pte.TheVariants as ptes
use Rattle.hwp_core.specs.hwp_core_rule.declared.Made.{Made}
use Rattle.hwp_core.specs.hwp_core_rule.declared.InHand.{InHand}
use Rattle.hwp_core.specs.hwp_core_rule.declared.Log.{Log}
use Rattle.hwp_core.specs.hwp_core_rule.declared.Sight.{Sight}
use Rattle.hwp_core.specs.hwp_core_rule.declared.Step.{Step}
use Rattle.hwp_core.specs.hwp_core_rule.declared.View.{View}
use Rattle.hwp_core.specs.hwp_core_rule.Logs.{log_of, state_of, fitting_word}
use Rattle.hwp_core.specs.hwp_core_rule.Views.{is_body_of}
use Rattle.hwp_core.specs.hwp_core_rule.parts.Entries.{HasSeen}
use Rattle.hwp_core.specs.hwp_core_rule.parts.Fits.{FitsWords}
use Rattle.hwp_core.proofs.of_hwp_core_rule.PageWords.{fitting-at}
use Rattle.hwp_core.proofs.of_hwp_core_rule.Lists.{same-number}
use Rattle.hwp_core.specs.hwp_core_rule.Calls.{IsOnTurn, Steps}
use Rattle.hwp_core.specs.hwp_core_rule.Hands.{Hand, hand_of, body_in}
use Rattle.hwp_core.proofs.of_hwp_core_rule.tasks.StepLeaves.{steps-planned}
use Rattle.hwp_core.specs.hwp_core_rule.Known.{HasMadeNoneBeside}
use Rattle.hwp_core.proofs.of_hwp_core_rule.tasks.MadeEntries.{deeds-same}
use Rattle.hwp_core.specs.Holds.{HoldsPage}
use Rattle.hwp_core.specs.declared.clear.Clear.{Clear}
use Rattle.hwp_evict.specs.declared.evict.EvictAnswer.TheVariants as answers
use Rattle.hwp_evict.specs.declared.evict.EvictAt.{EvictAt}
use Rattle.hwp_evict.specs.declared.evict.EvictAt.TheVariants as at
use Rattle.hwp_evict.specs.declared.evict.Eviction.{Eviction}
use Rattle.hwp_evict.specs.declared.evict.Eviction.TheVariants as evictions
use Rattle.hwp_core.specs.Clears as clears
use Rattle.hwp_core.specs.Clears.{IsClearing, IsNextFrom, is_done, word_now}
use Rattle.hwp_evict.specs.Evictions.{entry_of}
use Rattle.hwp_evict.specs.Evicts.{FitsAt, HasEntry, IsAhead, IsClearingOut, IsCleared, StartsClearing, after_clear, place}
use Rattle.hwp_core.specs.Vacates as vacates
use Rattle.hwp_core.specs.Vacates.{page_held, with_frame}
use Rattle.hwp_core.proofs.ClearLaws as clearing
use Rattle.hwp_core.proofs.ClearLaws.{IsSameClear, none-done, same-clear}
use Rattle.hwp_evict.proofs.EntryHome.{body-page, extends, kills-none, one-more, state-after, words}
use Rattle.hwp_core.proofs.TranslationWrites.{declared-of}
use Rattle.hwp_core.proofs.PageStates.{replay-apart, replay-own, state-is}

module _ {layout : Layout} {view : View} {who : Who} {page : Page} {log : Log} {done : At} {body : BodyValue} (on : IsOnTurn view who) (inside : page.0 < length layout.pages) (entry : HasEntry layout who page evictions.Out log done body) where
  -- ---- all translations are written

  module _ (c : Clear) (seen : ℕ) (has : IsClearing layout view (record c { next = None })) (its : c.page ≡ page) (empties : c.barred ≡ false) (bodies : view.bodies ≡ body_in (Some c.frame) log seen ∷ []) where
    abbrev taken : InHand
    taken = body_in (Some c.frame) log seen

    abbrev state : PageState
    state = state_of layout log

    taken-is : has.taken ≡ body_in (Some c.frame) log seen
    taken-is = same_Some has.taken (body_in (Some c.frame) log seen) (sym (ap (λ (h : Hand). slice_get h.bodies 0) has.hand_is) ∙ ap (λ l. slice_get l 0) bodies)

    hand : hand_of view ≡ with_frame c.frame (page.0 + 1) has.handled has.poisoned (c.count - 1) (page_held page (Some c.frame) has.trans (body_in (Some c.frame) log seen))
    hand = has.hand_is ∙ ap (λ (t : InHand). with_frame c.frame (c.page.0 + 1) has.handled has.poisoned (c.count - 1) (page_held c.page (Some c.frame) has.trans t)) taken-is
        ∙ ap (λ (p : Page). with_frame c.frame (p.0 + 1) has.handled has.poisoned (c.count - 1) (page_held p (Some c.frame) has.trans (body_in (Some c.frame) log seen))) its

    word-is : (slot w : ℕ) (t : TransDecl) → slice_get layout.trans slot ≡ Some t → t.page ≡ body.page → slice_get has.trans slot ≡ Some w → w ≡ word_now state false c.frame None slot
    word-is slot w t declared own there = same_Some w (word_now state false c.frame None slot)
        (sym there ∙ has.words slot t declared (own ∙ body-page entry c.frame seen ∙ sym its)
        ∙ ap (λ (x : InHand). Some (word_now (state_of layout x.log) c.barred c.frame None slot)) taken-is
        ∙ ap (λ (b : Bool). Some (word_now state b c.frame None slot)) empties)

    -- they fit the page on its shelf
    fits : FitsWords layout (log_of body) 0 has.trans
    fits = record {
      cached = sym (ap (λ (s : PageState). s.cached) (state-after entry c.frame seen));
      used = λ slot w t declared own there. word-is slot w t declared own there ∙ by slot (set.contains state.maps slot) refl;
    }
      where
        target : (slot : ℕ) → fitting_word (state_of layout (log_of body)) 0 slot ≡ cond (set.contains state.bar slot) (pte_word ptes.Poison) 0
        target slot = ap (λ (b : Bool). cond b 0 (cond (set.contains (state_of layout (log_of body)).bar slot) (pte_word ptes.Poison) 0)) (ap (λ (s : PageState). set.contains s.maps slot) (state-after entry c.frame seen) ∙ set.contains-empty nat_cmp slot)
            ∙ ap (λ (b : Bool). cond b (pte_word ptes.Poison) 0) (ap (λ (s : PageState). set.contains s.bar slot) (state-after entry c.frame seen))

        by : (slot : ℕ) (b : Bool) → set.contains state.maps slot ≡ b → word_now state false c.frame None slot ≡ fitting_word (state_of layout (log_of body)) 0 slot
        by slot true some = ap (λ (b : Bool). cond b 0 (cond (set.contains state.bar slot) (pte_word ptes.Poison) 0)) some
            ∙ sym (target slot ∙ ap (λ (b : Bool). cond b (pte_word ptes.Poison) 0) (replay-apart entry.replay slot some))
        by slot false none = ap (λ (b : Bool). cond b 0 (cond (set.contains state.bar slot) (pte_word ptes.Poison) 0)) none ∙ sym (target slot)

    ahead : {base : List Made} → HasMadeNoneBeside base view who → IsAhead base layout view who page evictions.Out (answers.Done done) body
    ahead {base} none = record {
      taken = body_in (Some c.frame) log seen;
      there = ap (find (is_body_of body.page)) bodies ∙ ap (λ (b : Bool). cond b (Some (body_in (Some c.frame) log seen)) None) (same-number log.page.0 body.page.0 (sym (ap (λ (l : Log). l.page.0) entry.log_is)));
      page_is = body-page entry c.frame seen;
      made_none = none;
      comes = (one-more entry c.frame seen, entry.done_is);
    }

    leaves : {base : List Made} → IsSound layout → c.frame.0 < layout.frames → seen ≤ length view.sights → HasSeen (drop seen view.sights) who (Some c.frame) entries.Out → HasMadeNoneBeside base view who → FitsAt base layout view who page evictions.Out (at.Vacate (vacates.begin who page c.frame c.count body) done)
    leaves {base} sound within few saw none = record {
      vacate = record {
        on_turn = on;
        sound = sound;
        page = inside;
        frame = within;
        some = has.some;
        room = has.counted;
        at = record {
          trans = has.trans;
          taken = body_in (Some c.frame) log seen;
          handled = has.handled;
          poisoned = has.poisoned;
          hand_is = hand;
          goes = record {
            body = body;
            given_is = refl;
            page_is = body-page entry c.frame seen;
            taken_is = entry.page_is;
            layout_is = entry.layout_is;
            from = few;
            extends = extends entry c.frame seen view.sights saw;
            killed = kills-none entry c.frame seen;
            fits = fits;
            unmapped = ap (λ (s : PageState). s.maps) (state-after entry c.frame seen);
          };
        };
      };
      own = refl;
      under_way = refl;
      body = body;
      body_is = refl;
      ahead = ahead none;
    }

  -- ---- more are to be written, or all are

  pub clears-on : {base : List Made} (c : Clear) (seen : ℕ) → clears.Fits layout view c → c.who ≡ who → c.page ≡ page → c.barred ≡ false → view.bodies ≡ body_in (Some c.frame) log seen ∷ [] → seen ≤ length view.sights → HasSeen (drop seen view.sights) who (Some c.frame) entries.Out
      → HasMadeNoneBeside base view who → FitsAt base layout view who page evictions.Out (after_clear who page c body done)
  clears-on {base} c seen fit own its empties bodies few saw none = which c.next fit
    where
      which : (n : Option VSlot) → clears.Fits layout view (record c { next = n }) → FitsAt base layout view who page evictions.Out (after_clear who page (record c { next = n }) body done)
      which None fit = leaves c seen fit.at its empties bodies fit.sound fit.frame few saw none
      which (Some slot) fit = record {
        clear = fit;
        own = own;
        page_is = its;
        under_way = refl;
        empties = empties;
        out = refl;
        log = log;
        seen = seen;
        bodies_are = bodies;
        entry = entry;
        few = few;
        saw = saw;
        made_none = none;
      }

-- ---- the first of them

module _ {layout : Layout} {view : View} {who : Who} {page : Page} (on : IsOnTurn view who) (inside : page.0 < length layout.pages) (sound : IsSound layout) (frame : Frame) (body : BodyValue) (has : HoldsPage layout view page (Some frame) body) (now : BodyValue) (entry : HasEntry layout who page evictions.Out (log_of body) (place page body) now) where
  maps-are : body.state.maps ≡ (state_of layout (log_of body)).maps
  maps-are = ap (λ (s : PageState). s.maps) (sym (state-is has.body_is))

  begun : (next : Option VSlot) → IsNextFrom body.state.maps 0 next → IsClearing layout view (clears.begin who page frame body.state.maps false next)
  begun next lowest = record {
    trans = words entry frame has.seen;
    taken = body_in (Some frame) (log_of body) has.seen;
    handled = has.handled;
    poisoned = has.poisoned;
    hand_is = has.hand_is;
    taken_is = has.body_is.page_is;
    slots_are = maps-are;
    declared = λ slot some. declared-of (λ (t : TransDecl). t.page ≡ page) (slice_get layout.trans slot) (replay-own entry.replay slot (ap (λ m. set.contains m slot) (sym maps-are) ∙ some));
    words = λ slot t declared own. fitting-at body.page (state_of layout (log_of body)) (frame.0 + 1) 0 layout.trans slot t declared (own ∙ sym has.body_is.page_is)
        ∙ ap (λ (n : ℕ). Some (fitting_word (state_of layout (log_of body)) (frame.0 + 1) n)) (let first : 0 + slot ≡ slot = omega arith in first)
        ∙ ap (λ (n : ℕ). Some n) (same slot (set.contains (state_of layout (log_of body)).maps slot) refl);
    some = omega arith;
    counted = few next;
    member = member next lowest;
  }
    where
      same : (slot : ℕ) (b : Bool) → set.contains (state_of layout (log_of body)).maps slot ≡ b → fitting_word (state_of layout (log_of body)) (frame.0 + 1) slot ≡ word_now (state_of layout (log_of body)) false frame next slot
      same slot true some = ap (λ (d : Bool). cond (set.contains (state_of layout (log_of body)).maps slot) (cond d 0 (frame.0 + 1)) (cond (set.contains (state_of layout (log_of body)).bar slot) (pte_word ptes.Poison) 0))
          (sym (none-done body.state.maps next lowest slot (ap (λ m. set.contains m slot) maps-are ∙ some)))
      same slot false none = ap (λ (b : Bool). cond b (frame.0 + 1) (cond (set.contains (state_of layout (log_of body)).bar slot) (pte_word ptes.Poison) 0)) none
          ∙ sym (ap (λ (b : Bool). cond b (cond (is_done next slot) 0 (frame.0 + 1)) (cond (set.contains (state_of layout (log_of body)).bar slot) (pte_word ptes.Poison) 0)) none)

      few : (n : Option VSlot) → clears.IsCounted layout 2 n
      few None = omega arith
      few (Some v) = omega arith

      member : (n : Option VSlot) → IsNextFrom body.state.maps 0 n → (slot : VSlot) → n ≡ Some slot → set.contains body.state.maps slot.0 ≡ true
      member None none slot is = absurd (none-some slot is)
      member (Some v) low slot is = subst (λ (x : VSlot). set.contains body.state.maps x.0 ≡ true) (same_Some v slot is) low.1.member

  pub starts : {base : List Made} → has.seen ≤ length view.sights → HasSeen (drop has.seen view.sights) who (Some frame) entries.Out → HasMadeNoneBeside base view who → (x : EvictAt) → StartsClearing who page frame body.state.maps now (place page body) x → FitsAt base layout view who page evictions.Out x
  starts {base} few saw none x is = subst (FitsAt base layout view who page evictions.Out) (sym is.next_is) (subst (λ (c : Clear). FitsAt base layout view who page evictions.Out (after_clear who page c now (place page body))) (sym is.begun.is)
      (clears-on on inside entry (clears.begin who page frame body.state.maps false is.clear.next) has.seen
      (record { on_turn = on; sound = sound; page = inside; frame = has.within frame refl; at = begun is.clear.next is.begun.lowest })
      refl refl refl (ap (λ (h : Hand). h.bodies) has.hand_is) few saw none))

-- ---- a translation more is written

module _ {base : List Made} {layout : Layout} {old new : View} {who : Who} {page : Page} {what : Eviction} (c : Clear) {body : BodyValue} {done : At} {step : Step} {found : ℕ} {got : Option BodyValue} (on : IsOnTurn new who) (inside : page.0 < length layout.pages) (has : IsClearingOut base layout old who page what c body done) (is : clears.plan c ≡ Some step)
    (made : Steps layout c.who step None old new found got) where
  sights-same : new.sights ≡ old.sights
  sights-same = which c.next is
    where
      which : (n : Option VSlot) → clears.plan_at c.barred n ≡ Some step → new.sights ≡ old.sights
      which None e = absurd (none-some step e)
      which (Some slot) e = ap (λ (v : View). v.sights) (steps-planned e made).told.next

  bodies-same : new.bodies ≡ old.bodies
  bodies-same = which c.next is
    where
      which : (n : Option VSlot) → clears.plan_at c.barred n ≡ Some step → new.bodies ≡ old.bodies
      which None e = absurd (none-some step e)
      which (Some slot) e = ap (λ (v : View). v.bodies) (steps-planned e made).told.next

  pub clear-shows : clears.Shows c
  clear-shows = (clearing.both layout old new c step found got has.clear is made).0

  pub clear-fits : (y : EvictAt) → IsCleared who page c body done y → FitsAt base layout new who page what y
  clear-fits y follows = subst (λ (w : Eviction). FitsAt base layout new who page w y) (sym has.out) (subst (FitsAt base layout new who page evictions.Out) (sym follows.next_is)
      (clears-on on inside (subst (λ (w : Eviction). HasEntry layout who page w has.log done body) has.out has.entry) follows.after has.seen ((clearing.both layout old new c step found got has.clear is made).1 follows.after follows.follows)
      (same.who ∙ has.own) (same.page ∙ has.page_is) (same.barred ∙ has.empties)
      (bodies-same ∙ has.bodies_are ∙ ap (λ (f : Frame). body_in (Some f) has.log has.seen ∷ []) (sym same.frame))
      (subst (λ (l : List Sight). has.seen ≤ length l) (sym sights-same) has.few)
      (subst (λ (l : List Sight). HasSeen (drop has.seen l) who (Some follows.after.frame) entries.Out) (sym sights-same) (subst (λ (f : Frame). HasSeen (drop has.seen old.sights) who (Some f) entries.Out) (sym same.frame)
      (subst (λ (w : Eviction). HasSeen (drop has.seen old.sights) who (Some c.frame) (entry_of w)) has.out has.saw)))
      (deeds-same who (clearing.clear-lists c step is) made ∙ has.made_none)))
    where
      same : IsSameClear c follows.after
      same = same-clear c follows.after follows.follows
