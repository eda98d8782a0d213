-- The entry that a page was brought into a frame: no translation was in use before, so the words that fitted the page's
-- state fit it still.
use Rattle.std.proofs.Common.{◌≡◌, ℕ, zero, suc, ◌+◌, ◌==◌, Bool, false, not, cond, List, [], ◌∷◌, ◌++◌, Some, None, length, drop, slice_get, refl, sym, ap, ◌∙◌, subst, arith}
use Rattle.std.proofs.Math.Seq.{drop-append_seam}
use Rattle.std.proofs.lemmas.Bool.{both_ways, ne_eqb}
use Rattle.std.proofs.lemmas.List.Sums.{fold-append, sum_by-cons}
use Rattle.std.proofs.lemmas.Option.{none-some, same_Some}
use Rattle.std.specs.FinSet as set
use Rattle.std.specs.Int.{from_bool}
use Rattle.std.specs.List.{find}
use Rattle.std.specs.Ordering.{nat_cmp}
use Rattle.hwp_core.specs.hwp_geom.declared.Frame.{Frame}
use Rattle.hwp_core.specs.hwp_geom.declared.Layout.{Layout}
use Rattle.hwp_core.specs.hwp_geom.declared.Page.{Page}
use Rattle.hwp_core.specs.hwp_geom.declared.Who.{Who}
use Rattle.hwp_core.specs.hwp_geom.Layout.{is_locked}
use Rattle.hwp_core.specs.hwp_page.declared.Entry.{Entry}
use Rattle.hwp_core.specs.hwp_page.declared.PageState.{PageState}
use Rattle.hwp_core.specs.hwp_page.declared.What.TheVariants as entries
use Rattle.hwp_core.specs.hwp_page.History.{BodyValue, IsReplay, Leads}
use Rattle.hwp_core.specs.hwp_page.Step.{Allowed, after}
use Rattle.hwp_core.specs.hwp_page.Endings.{has_ending}
use Rattle.hwp_core.specs.hwp_words.Names.{frame_name}
use Rattle.hwp_core.specs.hwp_words.Translations.{pte_word}
use Rattle.hwp_core.specs.hwp_words.declared.Pte.TheVariants as ptes
use Rattle.hwp_core.specs.hwp_core_rule.declared.InHand.{InHand}
use Rattle.hwp_core.specs.hwp_core_rule.declared.Log.{Log}
use Rattle.hwp_core.specs.hwp_core_rule.declared.PageLock.{PageLock}
use Rattle.hwp_core.specs.hwp_core_rule.declared.Sight.{Sight}
use Rattle.hwp_core.specs.hwp_core_rule.declared.View.{View}
use Rattle.hwp_core.specs.hwp_core_rule.Asks.{Extends, PutFits, CanGoHome}
use Rattle.hwp_core.specs.hwp_core_rule.Lists.{EachMember}
use Rattle.hwp_core.specs.hwp_core_rule.Logs.{log_of, opening_at, state_of, fitting, fitting_word}
use Rattle.hwp_core.specs.hwp_core_rule.Views.{is_body_of, more_of, page_locks_on}
use Rattle.hwp_core.specs.hwp_core_rule.parts.Entries.{HasSeen}
use Rattle.hwp_core.specs.hwp_core_rule.parts.Fits.{FitsWords}
use Rattle.hwp_core.proofs.of_hwp_core_rule.PageWords.{fitting-at}
use Rattle.hwp_core.proofs.of_hwp_core_rule.Lists.{same-number}
use Rattle.hwp_core.specs.hwp_core_rule.Hands.{Hand, hand_of, body_in}
use Rattle.hwp_core.specs.Holds.{page_lock}
use Rattle.hwp_core.specs.Unholds.{holding}
use Rattle.hwp_core.proofs.BodyStates.{replay-state, replay-unused}
use Rattle.hwp_evict.specs.Fills.{CanBring, brought}

-- the one member of a list
only-member : {A : Type 0} (P : A → Type 0) (l : List A) (a : A) → l ≡ a ∷ [] → P a → EachMember P l
only-member P l a one here i x e = which i (sym (ap (λ m. slice_get m i) one) ∙ e)
  where
    which : (j : ℕ) → slice_get (a ∷ []) j ≡ Some x → P x
    which zero at = subst P (same_Some a x at) here
    which (suc j) at = absurd (none-some x at)

-- the words that fit a body of a page in no frame
abbrev pub trans : Layout → BodyValue → List ℕ
trans layout body = fitting layout body.page (state_of layout (log_of body)) (frame_name None)

module _ {layout : Layout} {page : Page} {body : BodyValue} (who : Who) (frame : Frame) (seen : ℕ) (has : CanBring layout page body) where
  -- the entry, the body as it was taken, and its history with the entry
  abbrev entry : Entry
  entry = record { who = who; what = entries.FaultIn }

  abbrev taken : InHand
  taken = body_in None (log_of body) seen

  abbrev more : Log
  more = log_of (brought who body)

  abbrev state : PageState
  state = state_of layout (log_of body)

  replay : IsReplay layout body.page body.log body.state
  replay = subst (λ (p : Page). IsReplay layout p body.log body.state) (sym has.body_is.page_is) has.body_is.replay

  allowed : Allowed layout body.page state entries.FaultIn
  allowed = subst (λ (s : PageState). Allowed layout body.page s entries.FaultIn) (sym (replay-state replay)) has.room.allowed

  state-is : after state entries.FaultIn ≡ state_of layout more
  state-is = sym (fold-append (λ (t : PageState) (e : Entry). after t e.what) (opening_at (slice_get layout.pages body.page.0) (is_locked layout body.page)) body.log (entry ∷ []))

  one-more : more_of taken more ≡ entry ∷ []
  one-more = drop-append_seam body.log (entry ∷ [])

  -- what holds of the entry holds of all that are more
  of-entry : (P : Entry → Type 0) → P entry → EachMember P (more_of taken more)
  of-entry P is = only-member P (more_of taken more) entry one-more is

  extends : (sights : List Sight) → Extends layout who sights taken more
  extends sights = record {
    page_is = refl;
    longer = ap (λ (list : List Entry). body.log ++ list) (sym one-more);
    leads = subst (λ (list : List Entry). Leads layout body.page state list (state_of layout more)) (sym one-more) (allowed, state-is);
    own = of-entry (λ (e : Entry). e.who ≡ who) refl;
    seen = of-entry (λ (e : Entry). HasSeen (drop seen sights) who None e.what) tt;
  }

  -- no translation is in use, so none names the frame
  same-word : (slot : ℕ) → fitting_word state 0 slot ≡ fitting_word (state_of layout more) (frame.0 + 1) slot
  same-word slot =
      ap (λ (b : Bool). cond b 0 (cond (set.contains state.bar slot) (pte_word ptes.Poison) 0)) none
      ∙ sym (ap (λ (b : Bool). cond b (frame.0 + 1) (cond (set.contains state.bar slot) (pte_word ptes.Poison) 0)) none)
      ∙ ap (λ (s : PageState). fitting_word s (frame.0 + 1) slot) state-is
    where
      none : set.contains state.maps slot ≡ false
      none = ap (λ m. set.contains m slot) (ap (λ (s : PageState). s.maps) (replay-state replay) ∙ replay-unused replay has.room.allowed.0) ∙ set.contains-empty nat_cmp slot

  fits-words : FitsWords layout more (frame_name (Some frame)) (trans layout body)
  fits-words = record {
    cached = ap not (ne_eqb (frame.0 + 1) 0 (λ e. omega (arith, e))) ∙ ap (λ (s : PageState). s.cached) state-is;
    used = λ slot word decl declared own there.
        same_Some word (fitting_word state 0 slot)
        (sym there ∙ fitting-at body.page state 0 0 layout.trans slot decl declared own ∙ ap (λ (n : ℕ). Some (fitting_word state 0 n)) (let first : 0 + slot ≡ slot = omega arith in first))
        ∙ same-word slot;
  }

  -- the body can go home with the entry, to the frame
  module _ (view : View) (handled poisoned : Bool) (hand : hand_of view ≡ holding page (Some frame) 1 (trans layout body) taken handled poisoned) where
    abbrev lock : PageLock
    lock = page_lock page (Some frame) (Some (trans layout body))

    lock-at : slice_get view.pages 0 ≡ Some lock
    lock-at = ap (λ (h : Hand). slice_get h.pages 0) hand

    put-fits : PutFits layout view taken more
    put-fits = record {
      unlocked = λ none.
          let one : page_locks_on body.page.0 view.pages ≡ from_bool (page.0 == body.page.0) + page_locks_on body.page.0 [] = ap (λ (h : Hand). page_locks_on body.page.0 h.pages) hand ∙ sum_by-cons (λ (l : PageLock). from_bool (l.page.0 == body.page.0)) lock [] in
          let this : from_bool (page.0 == body.page.0) ≡ 1 = ap from_bool (same-number page.0 body.page.0 (ap (λ (p : Page). p.0) (sym has.body_is.page_is))) in
          absurd (omega (arith, none, one, this));
      locked = λ other cache words at own cache_is trans_is.
          let same : lock ≡ other = same_Some lock other (sym lock-at ∙ at) in
          subst (λ (c : ℕ). FitsWords layout more c words) (same_Some (frame_name (Some frame)) cache (ap (λ (l : PageLock). l.cache) same ∙ cache_is))
          (subst (λ (ws : List ℕ). FitsWords layout more (frame_name (Some frame)) ws) (same_Some (trans layout body) words (ap (λ (l : PageLock). l.trans) same ∙ trans_is)) fits-words);
    }

    pub goes-home : CanGoHome layout who view more
    goes-home = record {
      body = taken;
      body_is = ap (λ (h : Hand). find (is_body_of body.page) h.bodies) hand ∙ ap (λ (b : Bool). cond b (Some taken) None) (same-number body.page.0 body.page.0 refl);
      extends = extends view.sights;
      fits = put-fits;
      killed = λ process ended. absurd (both_ways (has_ending layout process (drop (length body.log) more.entries)) (ap (has_ending layout process) (drop-append_seam body.log (entry ∷ []))) ended);
    }
