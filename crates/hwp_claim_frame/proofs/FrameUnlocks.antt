-- A frame that was locked and is let go again: its body goes home as it was taken, and what is left of what was held.
use Rattle.std.proofs.Common.{◌≡◌, ℕ, ◌+◌, ◌<◌, ◌==◌, Bool, true, false, cond, [], ◌∷◌, Option, Some, None, length, drop, slice_get, refl, sym, ap, ◌∙◌, subst, arith}
use Rattle.std.specs.List.{find}
use Rattle.std.proofs.lemmas.Bool.{both_ways, ne_eqb}
use Rattle.std.proofs.lemmas.Option.{none-some, same_Some}
use Rattle.hwp_core.specs.hwp_geom.declared.Frame.{Frame}
use Rattle.hwp_core.specs.hwp_geom.declared.Layout.{Layout}
use Rattle.hwp_core.specs.hwp_geom.declared.Page.{Page}
use Rattle.hwp_core.specs.hwp_geom.declared.Who.{Who}
use Rattle.hwp_core.specs.hwp_page.Endings.{has_ending}
use Rattle.hwp_core.specs.hwp_page.History.{BodyValue}
use Rattle.hwp_core.specs.hwp_words.Frames.{is_handled, is_poisoned, owner_of}
use Rattle.hwp_core.specs.hwp_core_rule.declared.FrameLock.{FrameLock}
use Rattle.hwp_core.specs.hwp_core_rule.declared.InHand.{InHand}
use Rattle.hwp_core.specs.hwp_core_rule.declared.Log.{Log}
use Rattle.hwp_core.specs.hwp_core_rule.declared.PageLock.{PageLock}
use Rattle.hwp_core.specs.hwp_core_rule.declared.Step.TheVariants as steps
use Rattle.hwp_core.specs.hwp_core_rule.declared.View.{View}
use Rattle.hwp_core.specs.hwp_core_rule.Asks.{CanGoHome, CanPut, CanUnlockFrame}
use Rattle.hwp_core.specs.hwp_core_rule.Logs.{log_of}
use Rattle.hwp_core.specs.hwp_core_rule.Views.{body_of, is_body_of, is_lock_of, knowing, lock_found, more_of, without}
use Rattle.hwp_core.specs.hwp_core_rule.parts.Bodies.{content_name}
use Rattle.hwp_core.proofs.of_hwp_core_rule.Lists.{same-number}
use Rattle.hwp_core.specs.hwp_core_rule.Calls.{CanMake, FitsLayout, IsOnTurn, logs}
use Rattle.hwp_core.specs.hwp_core_rule.Hands.{Hand, hand_of, hand_after, body_in, putting, taking}
use Rattle.hwp_core.proofs.of_hwp_core_rule.tasks.StepLeaves.{can-put}
use Rattle.hwp_core.specs.Unlocks.{FitsFrame, holding}
use Rattle.hwp_core.proofs.HoldEnds.{as-taken, none-more}
use Rattle.hwp_claim_frame.specs.Meets.{AsTaken, paged, reference}

-- a body that alone is in hand has the entries that it was taken with
pub one-taken : (layout : Layout) (who : Who) (view : View) (from : Option Frame) (b : BodyValue) (seen : ℕ) → view.bodies ≡ body_in from (log_of b) seen ∷ [] → AsTaken view (Some b)
one-taken layout who view from b seen alone x is = subst (λ (y : BodyValue). (i : InHand) × (body_of y.page view ≡ Some i) × (more_of i (log_of y) ≡ [])) (same_Some b x is) (
  body_in from (log_of b) seen,
  ap (find (is_body_of b.page)) alone ∙ ap (λ (c : Bool). cond c (Some (body_in from (log_of b) seen)) None) (same-number b.page.0 b.page.0 refl),
  none-more layout who from (log_of b) seen,
)

-- the frame and its lock, as a step found the word
module _ (layout : Layout) (who : Who) (view : View) (frame : Frame) (found seen : ℕ) where
  abbrev lock : FrameLock
  lock = lock_found frame found

  abbrev taken : BodyValue → InHand
  taken b = body_in (Some frame) (log_of b) seen

  -- a body goes home as it was taken, where its page isn't locked
  goes-home : (b : BodyValue) → body_of b.page view ≡ Some (taken b) → ((l : PageLock) → slice_get view.pages 0 ≡ Some l → l.page ≡ b.page → ⊥) → CanGoHome layout who view (log_of b)
  goes-home b in_hand unlocked = record {
    body = taken b;
    body_is = in_hand;
    extends = as-taken layout who (Some frame) (log_of b) seen view.sights;
    fits = record { unlocked = λ free. record { cached = refl; maps = refl; bar = refl }; locked = λ l cache trans at own cache_is trans_is. absurd (unlocked l at own) };
    killed = λ process ended. absurd (both_ways (has_ending layout process (drop (length b.log) b.log)) (ap (has_ending layout process) (none-more layout who (Some frame) (log_of b) seen)) ended);
  }

  -- ---- without a page's lock

  abbrev alone : Option Log → Hand
  alone content = taking layout (Some frame) content seen (record (reference frame) { locks = lock ∷ [] })

  pub frame-held : (g : Option BodyValue) → hand_of view ≡ alone (logs g) → content_name (logs g) ≡ owner_of found → FitsLayout layout g → frame.0 < layout.frames → FitsFrame layout view who frame g
  frame-held None hand named fits inside = record {
    handled = is_handled found;
    poisoned = is_poisoned found;
    hand_is = hand ∙ ap (λ (o : ℕ). record (reference frame) { locks = record { frame = frame; owner = o; handled = is_handled found; poisoned = is_poisoned found } ∷ [] }) (sym named);
    within = inside;
  }
  frame-held (Some b) hand named fits inside = record {
    body = b;
    given_is = refl;
    taken = taken b;
    handled = is_handled found;
    poisoned = is_poisoned found;
    hand_is = hand ∙ ap (λ (o : ℕ). record (holding frame b.page (taken b) (is_handled found) (is_poisoned found)) { locks = record { frame = frame; owner = o; handled = is_handled found; poisoned = is_poisoned found } ∷ [] }) (sym named);
    home = goes-home b (ap (λ (h : Hand). find (is_body_of b.page) h.bodies) hand ∙ ap (λ (c : Bool). cond c (Some (taken b)) None) (same-number b.page.0 b.page.0 refl))
        (λ l at own. absurd (none-some l (sym (ap (λ (h : Hand). slice_get h.pages 0) hand) ∙ at)));
    taken_is = refl;
    layout_is = fits b refl;
    within = inside;
  }

  pub alone-taken : (g : Option BodyValue) → hand_of view ≡ alone (logs g) → AsTaken view g
  alone-taken None hand = λ b is. absurd (none-some b is)
  alone-taken (Some b) hand = one-taken layout who view (Some frame) b seen (ap (λ (h : Hand). h.bodies) hand)

  -- ---- with the lock of a page that isn't in the frame

  -- the page's lock, with what was on the page's shelf
  module _ (page : Page) (cache : Option ℕ) (before : ℕ) where
    abbrev held : Option Log → Hand
    held shelf = paged layout page frame cache shelf before

    -- and the frame's, with what was in its slot
    abbrev both : Option Log → Option Log → Hand
    both shelf content = taking layout (Some frame) content seen (record (held shelf) { locks = lock ∷ [] })

    abbrev IsOther : Option Log → Type 0
    IsOther content = (log : Log) → content ≡ Some log → (log.page.0 == page.0) ≡ false × ((page.0 == log.page.0) ≡ false)

    both-locks : (shelf content : Option Log) → slice_get (both shelf content).locks 0 ≡ Some lock
    both-locks None None = refl
    both-locks None (Some log) = refl
    both-locks (Some s) None = refl
    both-locks (Some s) (Some log) = refl

    kept-page : (c : Bool) (log : Log) (l : PageLock) → (cond c (knowing layout log (Some frame) l) l).page ≡ l.page
    kept-page true log l = refl
    kept-page false log l = refl

    both-pages : (shelf content : Option Log) (l : PageLock) → slice_get (both shelf content).pages 0 ≡ Some l → l.page ≡ page
    both-pages None None l at = sym (ap (λ (x : PageLock). x.page) (same_Some _ l at))
    both-pages (Some s) None l at = sym (ap (λ (x : PageLock). x.page) (same_Some _ l at))
    both-pages None (Some log) l at = sym (ap (λ (x : PageLock). x.page) (same_Some _ l at)) ∙ kept-page (page.0 == log.page.0) log _
    both-pages (Some s) (Some log) l at = sym (ap (λ (x : PageLock). x.page) (same_Some _ l at)) ∙ kept-page (page.0 == log.page.0) log _

    both-body : (shelf : Option Log) (log : Log) → ((s : Log) → shelf ≡ Some s → s.page ≡ page) → (page.0 == log.page.0) ≡ false → find (is_body_of log.page) (both shelf (Some log)).bodies ≡ Some (body_in (Some frame) log seen)
    both-body None log of differs = let same = same-number log.page.0 log.page.0 refl in grind arith
    both-body (Some s) log of differs = let own : s.page.0 ≡ page.0 = ap (λ (p : Page). p.0) (of s refl) in let same = same-number log.page.0 log.page.0 refl in grind arith

    both-left : (shelf content : Option Log) → ((s : Log) → shelf ≡ Some s → s.page ≡ page) → IsOther content → record (putting content (both shelf content)) { locks = without (is_lock_of frame) (both shelf content).locks } ≡ held shelf
    both-left None None of other = grind arith
    both-left (Some s) None of other = grind arith
    both-left None (Some log) of other = let differs = other log refl in grind arith
    both-left (Some s) (Some log) of other = let own : s.page.0 ≡ page.0 = ap (λ (p : Page). p.0) (of s refl) in let differs = other log refl in grind arith

    -- the frame can be unlocked, and its body, if any, goes home
    module _ (on : IsOnTurn view who) (inside : frame.0 < layout.frames) (shelf g : Option BodyValue) (hand : hand_of view ≡ both (logs shelf) (logs g)) (of : (s : Log) → logs shelf ≡ Some s → s.page ≡ page)
        (named : content_name (logs g) ≡ owner_of found) (fits : FitsLayout layout g) (elsewhere : owner_of found ≡ page.0 + 1 → ⊥) where
      other : IsOther (logs g)
      other log is = (ne_eqb log.page.0 page.0 (λ e. elsewhere (name ∙ ap (λ (n : ℕ). n + 1) e)), ne_eqb page.0 log.page.0 (λ e. elsewhere (name ∙ ap (λ (n : ℕ). n + 1) (sym e))))
        where
          name : owner_of found ≡ log.page.0 + 1
          name = sym named ∙ ap content_name is

      page-at : (l : PageLock) → slice_get view.pages 0 ≡ Some l → l.page ≡ page
      page-at l at = both-pages (logs shelf) (logs g) l (sym (ap (λ (h : Hand). slice_get h.pages 0) hand) ∙ at)

      found-body : (b : BodyValue) → g ≡ Some b → body_of b.page view ≡ Some (taken b)
      found-body b is = ap (λ (h : Hand). find (is_body_of b.page) h.bodies) hand ∙ ap (λ (c : Option Log). find (is_body_of b.page) (both (logs shelf) c).bodies) (ap logs is) ∙ both-body (logs shelf) (log_of b) of (other (log_of b) (ap logs is)).1

      pub both-taken : AsTaken view g
      both-taken b is = (taken b, found-body b is, none-more layout who (Some frame) (log_of b) seen)

      home : (x : Option BodyValue) → g ≡ x → CanPut layout who view (logs x)
      home None is = tt
      home (Some b) is = goes-home b (found-body b is) (λ l at own. both_ways (page.0 == b.page.0) (other (log_of b) (ap logs is)).1 (same-number page.0 b.page.0 (ap (λ (p : Page). p.0) (sym (page-at l at) ∙ own))))

      can-free : CanUnlockFrame layout who view frame (logs g)
      can-free = record {
        has = record { lock = lock; listed = (0, lock, ap (λ (h : Hand). slice_get h.locks 0) hand ∙ both-locks (logs shelf) (logs g), refl); frame_is = refl };
        named = named;
        cached = λ l at owner. absurd (elsewhere (owner ∙ ap (λ (p : Page). p.0 + 1) (page-at l at)));
        put = home g refl;
      }

      pub can-leave : CanMake layout who (steps.UnlockFrame frame) g view
      can-leave = can-put on refl inside can-free fits tt

      pub left : hand_after layout (steps.UnlockFrame frame) 0 (logs g) 0 (hand_of view) ≡ held (logs shelf)
      left = ap (λ (h : Hand). record (putting (logs g) h) { locks = without (is_lock_of frame) h.locks }) hand ∙ both-left (logs shelf) (logs g) of other
