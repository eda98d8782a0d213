-- What fits once the entry of a failure is made: the translations are written, and then the page leaves its frame.
use Rattle.std.proofs.Common.{◌≡◌, ℕ, ◌+◌, ◌-◌, ◌<◌, Bool, true, false, cond, List, [], ◌∷◌, Option, Some, None, is_none, length, drop, slice_get, refl, sym, ap, ◌∙◌, subst, arith}
use Rattle.std.proofs.lemmas.Option.{none-some, same_Some}
use Rattle.std.specs.FinSet as set
use Rattle.hwp_core.specs.hwp_geom.declared.Frame.{Frame}
use Rattle.hwp_core.specs.hwp_geom.declared.Layout.{Layout}
use Rattle.hwp_core.specs.hwp_geom.declared.Page.{Page}
use Rattle.hwp_core.specs.hwp_geom.declared.Thread.{Thread}
use Rattle.hwp_core.specs.hwp_geom.declared.TransDecl.{TransDecl}
use Rattle.hwp_core.specs.hwp_geom.declared.VSlot.{VSlot}
use Rattle.hwp_core.specs.hwp_geom.declared.Who.{Who}
use Rattle.hwp_core.specs.hwp_geom.Layout.{IsSound}
use Rattle.hwp_core.specs.hwp_kill.declared.Seen.{Seen}
use Rattle.hwp_core.specs.hwp_page.declared.PageState.{PageState}
use Rattle.hwp_core.specs.hwp_page.Actions.{situation_of}
use Rattle.hwp_core.specs.hwp_page.History.{BodyValue}
use Rattle.hwp_core.specs.hwp_words.Translations.{pte_word}
use Rattle.hwp_core.specs.hwp_words.declared.Pte.TheVariants as ptes
use Rattle.hwp_core.specs.hwp_core_rule.declared.FrameLock.{FrameLock}
use Rattle.hwp_core.specs.hwp_core_rule.declared.InHand.{InHand}
use Rattle.hwp_core.specs.hwp_core_rule.declared.View.{View}
use Rattle.hwp_core.specs.hwp_core_rule.Lists.{EachMember}
use Rattle.hwp_core.specs.hwp_core_rule.Logs.{fitting, fitting_word, log_of, state_of}
use Rattle.hwp_core.specs.hwp_core_rule.parts.Entries.{HasPolicy}
use Rattle.hwp_core.specs.hwp_core_rule.parts.Fits.{FitsWords}
use Rattle.hwp_core.proofs.of_hwp_core_rule.PageWords.{fitting-at}
use Rattle.hwp_core.specs.hwp_core_rule.Calls.{IsOnTurn}
use Rattle.hwp_core.specs.hwp_core_rule.Hands.{Hand, body_in, hand_of}
use Rattle.hwp_core.specs.declared.clear.Clear.{Clear}
use Rattle.hwp_core.specs.Clears as clears
use Rattle.hwp_core.specs.Clears.{IsNextFrom, is_done, pte_of, word_now}
use Rattle.hwp_core.specs.Vacates.{page_held, with_frame}
use Rattle.hwp_core.proofs.TranslationWrites.{declared-of}
use Rattle.hwp_core.proofs.PageStates.{replay-is, replay-own, state-is}
use Rattle.hwp_claim_act.specs.declared.abandon.Failed.{Failed}
use Rattle.hwp_claim_act.specs.declared.abandon.Losses.{Losses}
use Rattle.hwp_claim_act.specs.declared.act.ActAt.{ActAt}
use Rattle.hwp_claim_act.specs.declared.act.ActAt.TheVariants as at
use Rattle.hwp_claim_act.specs.declared.failing.Entered.{Entered}
use Rattle.hwp_claim_act.specs.Abandons as abandons
use Rattle.hwp_claim_act.specs.Acting.{FitsAt, IsAbandoning, IsClean, IsClearing}
use Rattle.hwp_claim_act.specs.Acts.{Enters, after_clear}
use Rattle.hwp_claim_act.specs.Failing.{bars_of, failure_of}
use Rattle.hwp_claim_act.specs.Reads.{HoldsFailed}
use Rattle.hwp_claim_act.proofs.FailureEntry.{acts-after, extends, has-failure, one-more, written-fits}
use Rattle.hwp_core.proofs.ClearLaws.{none-done}

module _ {layout : Layout} {view : View} {who : Who} {page : Page} {frame : Frame} (on : IsOnTurn view who) (inside : page.0 < length layout.pages) (within : frame.0 < layout.frames) where
  -- ---- all translations are written

  module _ (c : Clear) (losses : Losses) (failed : Failed) (body : BodyValue) (has : IsClearing layout view who page frame c losses failed body) (done : c.next ≡ None) where
    abbrev at-end : clears.IsClearing layout view c
    at-end = has.clear.at

    abbrev taken : InHand
    taken = body_in (Some frame) has.log has.seen

    abbrev state : PageState
    state = state_of layout has.log

    taken-is : at-end.taken ≡ taken
    taken-is = same_Some at-end.taken taken (sym (ap (λ (h : Hand). slice_get h.bodies 0) at-end.hand_is) ∙ ap (λ l. slice_get l 0) has.bodies_are)

    abbrev lock-now : FrameLock
    lock-now = record { frame = c.frame; owner = c.page.0 + 1; handled = at-end.handled; poisoned = at-end.poisoned }

    abbrev lock-then : FrameLock
    lock-then = record { frame = frame; owner = page.0 + 1; handled = false; poisoned = true }

    lock-is : lock-now ≡ lock-then
    lock-is = same_Some lock-now lock-then (sym (ap (λ (h : Hand). slice_get h.locks 0) at-end.hand_is) ∙ ap (λ l. slice_get l 0) has.locks_are)

    hand : hand_of view ≡ with_frame frame (page.0 + 1) false true (c.count - 1) (page_held page (Some frame) at-end.trans taken)
    hand = at-end.hand_is ∙ ap (λ (t : InHand). with_frame c.frame (c.page.0 + 1) at-end.handled at-end.poisoned (c.count - 1) (page_held c.page (Some c.frame) at-end.trans t)) taken-is
        ∙ ap (λ (b : Bool). with_frame c.frame (c.page.0 + 1) b at-end.poisoned (c.count - 1) (page_held c.page (Some c.frame) at-end.trans taken)) (ap (λ (l : FrameLock). l.handled) lock-is)
        ∙ ap (λ (b : Bool). with_frame c.frame (c.page.0 + 1) false b (c.count - 1) (page_held c.page (Some c.frame) at-end.trans taken)) (ap (λ (l : FrameLock). l.poisoned) lock-is)
        ∙ ap (λ (p : Page). with_frame c.frame (p.0 + 1) false true (c.count - 1) (page_held p (Some c.frame) at-end.trans taken)) has.page_is
        ∙ ap (λ (f : Frame). with_frame f (page.0 + 1) false true (c.count - 1) (page_held page (Some f) at-end.trans taken)) has.frame_is

    body-page : body.page ≡ page
    body-page = ap (λ l. l.page) has.entry.log_is ∙ has.entry.page_is

    word-is : (slot w : ℕ) (t : TransDecl) → slice_get layout.trans slot ≡ Some t → t.page ≡ body.page → slice_get at-end.trans slot ≡ Some w → w ≡ word_now state (bars_of has.f.situation) frame None slot
    word-is slot w t declared own there = same_Some w (word_now state (bars_of has.f.situation) frame None slot)
        (sym there ∙ at-end.words slot t declared (own ∙ body-page ∙ sym has.page_is)
        ∙ ap (λ (x : InHand). Some (word_now (state_of layout x.log) c.barred c.frame c.next slot)) taken-is
        ∙ ap (λ (b : Bool). Some (word_now state b c.frame c.next slot)) has.barred_is
        ∙ ap (λ (f : Frame). Some (word_now state (bars_of has.f.situation) f c.next slot)) has.frame_is
        ∙ ap (λ (n : Option VSlot). Some (word_now state (bars_of has.f.situation) frame n slot)) done)

    -- they fit the page on its shelf
    fits : FitsWords layout (log_of body) 0 at-end.trans
    fits = record {
      cached = sym (acts-after has.entry).cached;
      used = λ slot w t declared own there. word-is slot w t declared own there ∙ written-fits has.entry has.replay frame slot;
    }

    leaves : IsAbandoning layout view who page frame (abandons.begin who page frame c.count losses failed body)
    leaves = record {
      abandon = record {
        on_turn = on;
        sound = has.clear.sound;
        page = inside;
        frame = within;
        place = ap (λ (x : Failed). x.at.page) has.entry.failed_is;
        some = at-end.some;
        room = subst (clears.IsCounted layout c.count) done at-end.counted;
        at = record {
          trans = at-end.trans;
          taken = taken;
          hand_is = hand;
          carries = record {
            log = has.log;
            f = has.f;
            body = body;
            given_is = refl;
            entry = has.entry;
            in_hand = record {
              own = has.entry.page_is;
              since = refl;
              place = refl;
              killed_are = λ i s less at. absurd (omega (arith, less));
              few = has.few;
              extends = extends has.entry frame has.seen view.sights has.saw;
            };
            fits = fits;
            unmapped = (acts-after has.entry).maps;
            paid = has.clean.paid;
          };
          unlisted = record { more = one-more has.entry frame has.seen; length_is = refl };
          spare = has.clean.spare;
        };
      };
      own = refl;
      page_is = refl;
      frame_is = refl;
      under_way = refl;
    }

  -- ---- more are to be written, or all are

  pub clears-on : (c : Clear) (entered : Entered) → IsClearing layout view who page frame c entered.losses entered.failed entered.body → FitsAt layout view who page frame (after_clear who page frame c entered)
  clears-on c entered has = which c.next refl
    where
      which : (n : Option VSlot) → c.next ≡ n → FitsAt layout view who page frame (after_clear who page frame c entered)
      which None is = subst (λ (b : Bool). FitsAt layout view who page frame (cond b (at.Abandon (abandons.begin who page frame c.count entered.losses entered.failed entered.body)) (at.Clear c entered.losses entered.failed entered.body))) (sym (ap is_none is))
          (leaves c entered.losses entered.failed entered.body has is)
      which (Some slot) is = subst (λ (b : Bool). FitsAt layout view who page frame (cond b (at.Abandon (abandons.begin who page frame c.count entered.losses entered.failed entered.body)) (at.Clear c entered.losses entered.failed entered.body))) (sym (ap is_none is))
          (has, ap is_none is)

  -- ---- the first of them

  module _ (sound : IsSound layout) (body : BodyValue) (held : HoldsFailed layout view page frame body) (barred : Bool) where
    maps-are : body.state.maps ≡ (state_of layout (log_of body)).maps
    maps-are = ap (λ (s : PageState). s.maps) (sym (state-is held.holds.body_is))

    begun : (next : Option VSlot) → IsNextFrom body.state.maps 0 next → clears.IsClearing layout view (clears.begin who page frame body.state.maps barred next)
    begun next lowest = record {
      trans = fitting layout body.page (state_of layout (log_of body)) (frame.0 + 1);
      taken = body_in (Some frame) (log_of body) held.holds.seen;
      handled = held.holds.handled;
      poisoned = held.holds.poisoned;
      hand_is = held.holds.hand_is;
      taken_is = held.holds.body_is.page_is;
      slots_are = maps-are;
      declared = λ slot some. declared-of (λ (t : TransDecl). t.page ≡ page) (slice_get layout.trans slot) (replay-own (replay-is held.holds.body_is) slot (ap (λ m. set.contains m slot) (sym maps-are) ∙ some));
      words = λ slot t declared own. fitting-at body.page (state_of layout (log_of body)) (frame.0 + 1) 0 layout.trans slot t declared (own ∙ sym held.holds.body_is.page_is)
          ∙ ap (λ (n : ℕ). Some (fitting_word (state_of layout (log_of body)) (frame.0 + 1) n)) (let first : 0 + slot ≡ slot = omega arith in first)
          ∙ ap (λ (n : ℕ). Some n) (same slot (set.contains (state_of layout (log_of body)).maps slot) refl);
      some = omega arith;
      counted = few next;
      member = member next lowest;
    }
      where
        same : (slot : ℕ) (b : Bool) → set.contains (state_of layout (log_of body)).maps slot ≡ b → fitting_word (state_of layout (log_of body)) (frame.0 + 1) slot ≡ word_now (state_of layout (log_of body)) barred frame next slot
        same slot true some = ap (λ (d : Bool). cond (set.contains (state_of layout (log_of body)).maps slot) (cond d (pte_word (pte_of barred)) (frame.0 + 1)) (cond (set.contains (state_of layout (log_of body)).bar slot) (pte_word ptes.Poison) 0))
            (sym (none-done body.state.maps next lowest slot (ap (λ m. set.contains m slot) maps-are ∙ some)))
        same slot false none = ap (λ (b : Bool). cond b (frame.0 + 1) (cond (set.contains (state_of layout (log_of body)).bar slot) (pte_word ptes.Poison) 0)) none
            ∙ sym (ap (λ (b : Bool). cond b (cond (is_done next slot) (pte_word (pte_of barred)) (frame.0 + 1)) (cond (set.contains (state_of layout (log_of body)).bar slot) (pte_word ptes.Poison) 0)) none)

        few : (n : Option VSlot) → clears.IsCounted layout 2 n
        few None = omega arith
        few (Some v) = omega arith

        member : (n : Option VSlot) → IsNextFrom body.state.maps 0 n → (slot : VSlot) → n ≡ Some slot → set.contains body.state.maps slot.0 ≡ true
        member None none slot is = absurd (none-some slot is)
        member (Some v) low slot is = subst (λ (x : VSlot). set.contains body.state.maps x.0 ≡ true) (same_Some v slot is) low.1.member

  pub enters-fits : (sound : IsSound layout) (body : BodyValue) (held : HoldsFailed layout view page frame body) → IsClean view → (required : Option Thread) (seen : List Seen) → EachMember (HasPolicy (drop held.holds.seen view.sights) who (Some frame)) seen
      → (x : ActAt) → Enters who page frame required body seen x → FitsAt layout view who page frame x
  enters-fits sound body held clean required seen saw x is = subst (FitsAt layout view who page frame) (sym is.next_is) (clears-on is.clear is.entered (record {
    clear = subst (clears.Fits layout view) (sym is.begun.is) (record { on_turn = on; sound = sound; page = inside; frame = within; at = begun sound body held (bars_of (situation_of body.state)) is.clear.next is.begun.lowest });
    own = ap (λ (c : Clear). c.who) is.begun.is;
    page_is = ap (λ (c : Clear). c.page) is.begun.is;
    frame_is = ap (λ (c : Clear). c.frame) is.begun.is;
    log = log_of body;
    seen = held.holds.seen;
    f = failure_of body.state required seen is.made.signals;
    bodies_are = ap (λ (h : Hand). h.bodies) held.holds.hand_is;
    locks_are = ap (λ (h : Hand). h.locks) held.holds.hand_is
        ∙ ap (λ (b : Bool). record { frame = frame; owner = page.0 + 1; handled = b; poisoned = held.holds.poisoned } ∷ []) held.unhandled
        ∙ ap (λ (b : Bool). record { frame = frame; owner = page.0 + 1; handled = false; poisoned = b } ∷ []) held.poisoned;
    entry = has-failure held.holds.body_is is.can is.made;
    replay = replay-is held.holds.body_is;
    barred_is = ap (λ (c : Clear). c.barred) is.begun.is;
    few = held.few;
    saw = saw;
    clean = clean;
  }))
