-- What a finished `Hold` leaves fits `Unhold`: the page can be let go with its body as it was taken.
use Rattle.std.proofs.Common.{◌≡◌, ℕ, ◌+◌, ◌<◌, ◌==◌, Bool, true, cond, List, [], ◌∷◌, ◌++◌, Option, Some, None, is_none, length, drop, slice_get, append-nil, refl, sym, ap, ◌∙◌, subst, arith}
use Rattle.std.proofs.lemmas.Bool.{both_ways, false≢true}
use Rattle.std.proofs.lemmas.List.{drop_all}
use Rattle.std.proofs.lemmas.List.Sums.{sum_by-cons}
use Rattle.std.proofs.lemmas.Option.{none-some, same_Some}
use Rattle.std.specs.Int.{from_bool}
use Rattle.std.specs.List.{find}
use Rattle.hwp_core_rule.specs.hwp_geom.declared.Frame.{Frame}
use Rattle.hwp_core_rule.specs.hwp_geom.declared.Layout.{Layout}
use Rattle.hwp_core_rule.specs.hwp_geom.declared.Page.{Page}
use Rattle.hwp_core_rule.specs.hwp_geom.declared.Who.{Who}
use Rattle.hwp_core_rule.specs.hwp_page.declared.Entry.{Entry}
use Rattle.hwp_core_rule.specs.hwp_page.History.{BodyValue, Leads}
use Rattle.hwp_core_rule.specs.hwp_page.Endings.{has_ending}
use Rattle.hwp_core_rule.specs.hwp_words.Names.{frame_name}
use Rattle.hwp_core_rule.specs.declared.InHand.{InHand}
use Rattle.hwp_core_rule.specs.declared.Log.{Log}
use Rattle.hwp_core_rule.specs.declared.PageLock.{PageLock}
use Rattle.hwp_core_rule.specs.declared.Sight.{Sight}
use Rattle.hwp_core_rule.specs.declared.View.{View}
use Rattle.hwp_core_rule.specs.Asks.{Extends, PutFits, CanGoHome}
use Rattle.hwp_core_rule.specs.Lists.{EachMember}
use Rattle.hwp_core_rule.specs.Logs.{log_of, state_of, fitting, fitting_word}
use Rattle.hwp_core_rule.specs.Views.{more_of, page_locks_on}
use Rattle.hwp_core_rule.specs.parts.Entries.{HasSeen}
use Rattle.hwp_core_rule.specs.parts.Fits.{FitsWords}
use Rattle.hwp_core_rule.proofs.PageWords.{fitting-at}
use Rattle.hwp_core_rule.proofs.Lists.{same-number}
use Rattle.hwp_core.specs.declared.hold.Hold.{Hold}
use Rattle.hwp_core.specs.declared.hold.HoldAt.TheVariants as at
use Rattle.hwp_core.specs.declared.unhold.Unhold.{Unhold}
use Rattle.hwp_core.specs.declared.unhold.UnholdAt.{UnholdAt}
use Rattle.hwp_core.specs.declared.unhold.UnholdAt.TheVariants as unhold_at
use Rattle.hwp_core_rule.specs.Calls.{IsOnTurn}
use Rattle.hwp_core_rule.specs.Hands.{Hand, body_in, empty, hand_of}
use Rattle.hwp_core.specs.Holds.{HoldsPage, FitsAt, held, page_lock, words_of}
use Rattle.hwp_core.specs.Unholds.{begin, plan, plan_at, HoldsAhead, Fits, FitsAt as UnholdFitsAt, LetsGo}

no-member : {A : Type 0} (P : A → Type 0) → EachMember P []
no-member P i x e = absurd (none-some x e)

-- a body as it was taken has no entry more
module _ (layout : Layout) (who : Who) (frame : Option Frame) (log : Log) (seen : ℕ) where
  abbrev taken : InHand
  taken = body_in frame log seen

  pub none-more : more_of taken log ≡ []
  none-more = drop_all (length log.entries) log.entries (omega arith)

  pub as-taken : (sights : List Sight) → Extends layout who sights taken log
  as-taken sights = record {
    page_is = refl;
    longer = sym (ap (λ (more : List Entry). log.entries ++ more) none-more ∙ append-nil log.entries);
    leads = subst (λ (more : List Entry). Leads layout log.page (state_of layout log) more (state_of layout log)) (sym none-more) refl;
    own = subst (EachMember (λ (e : Entry). e.who ≡ who)) (sym none-more) (no-member (λ (e : Entry). e.who ≡ who));
    seen = subst (EachMember (λ (e : Entry). HasSeen (drop seen sights) who frame e.what)) (sym none-more) (no-member (λ (e : Entry). HasSeen (drop seen sights) who frame e.what));
  }

module _ (layout : Layout) (view : View) (who : Who) (page : Page) (frame : Option Frame) (body : BodyValue) (has : HoldsPage layout view page frame body) where
  abbrev log : Log
  log = log_of body

  abbrev words : List ℕ
  words = fitting layout body.page (state_of layout log) (frame_name frame)

  abbrev lock : PageLock
  lock = page_lock page frame (words_of layout frame log)

  bodies : view.bodies ≡ body_in frame log has.seen ∷ []
  bodies = ap (λ (h : Hand). h.bodies) has.hand_is ∙ which frame
    where
      which : (f : Option Frame) → (held layout page f log has.seen has.handled has.poisoned).bodies ≡ body_in f log has.seen ∷ []
      which None = refl
      which (Some f) = refl

  pages : view.pages ≡ lock ∷ []
  pages = ap (λ (h : Hand). h.pages) has.hand_is ∙ which frame
    where
      which : (f : Option Frame) → (held layout page f log has.seen has.handled has.poisoned).pages ≡ page_lock page f (words_of layout f log) ∷ []
      which None = refl
      which (Some f) = refl

  -- the words that the lock lists fit the body
  fits-words : FitsWords layout log (frame_name frame) words
  fits-words = record {
    cached = has.body_is.cached;
    used = λ slot word decl declared own there.
        same_Some word (fitting_word (state_of layout log) (frame_name frame) slot)
        (sym there ∙ fitting-at body.page (state_of layout log) (frame_name frame) 0 layout.trans slot decl declared own
        ∙ ap (λ (n : ℕ). Some (fitting_word (state_of layout log) (frame_name frame) n)) (let first : 0 + slot ≡ slot = omega arith in first));
  }

  put-fits : PutFits layout view (body_in frame log has.seen) log
  put-fits = record {
    unlocked = λ none.
        let one : page_locks_on body.page.0 view.pages ≡ from_bool (page.0 == body.page.0) + page_locks_on body.page.0 [] = ap (λ (l : List PageLock). page_locks_on body.page.0 l) pages ∙ sum_by-cons (λ (l : PageLock). from_bool (l.page.0 == body.page.0)) lock [] in
        let this : from_bool (page.0 == body.page.0) ≡ 1 = ap from_bool (same-number page.0 body.page.0 (ap (λ (p : Page). p.0) (sym has.body_is.page_is))) in
        absurd (omega (arith, none));
    locked = λ other cache trans at own cache_is trans_is.
        let same : other ≡ lock = same_Some other lock (sym at ∙ ap (λ (l : List PageLock). slice_get l 0) pages) in
        subst (λ (c : ℕ). FitsWords layout log c trans) (sym (same_Some cache (frame_name frame) (sym cache_is ∙ ap (λ (l : PageLock). l.cache) same)))
        (subst (λ (ws : List ℕ). FitsWords layout log (frame_name frame) ws) (sym (same_Some trans words (sym trans_is ∙ ap (λ (l : PageLock). l.trans) same))) fits-words);
  }

  goes-home : CanGoHome layout who view log
  goes-home = record {
    body = body_in frame log has.seen;
    body_is = ap (λ (l : List InHand). find (λ (b : InHand). b.log.page.0 == body.page.0) l) bodies ∙ ap (λ (b : Bool). cond b (Some (body_in frame log has.seen)) None) (same-number body.page.0 body.page.0 refl);
    extends = as-taken layout who frame log has.seen view.sights;
    fits = put-fits;
    killed = λ process ended. absurd (both_ways (has_ending layout process (drop (length log.entries) log.entries)) (ap (has_ending layout process) (none-more layout who frame log has.seen)) ended);
  }

-- what is held can be let go
pub held-ahead : (layout : Layout) (view : View) (who : Who) (page : Page) (frame : Option Frame) (body : BodyValue) → HoldsPage layout view page frame body → HoldsAhead layout who view page frame 1 (Some body)
held-ahead layout view who page None body has = record {
  body = body;
  given_is = refl;
  trans = words layout view who page None body has;
  taken = body_in None (log_of body) has.seen;
  handled = has.handled;
  poisoned = has.poisoned;
  hand_is = has.hand_is;
  home = goes-home layout view who page None body has;
  page_is = has.body_is.page_is;
  taken_is = has.body_is.page_is;
  layout_is = has.body_is.layout_is;
}
held-ahead layout view who page (Some frame) body has = record {
  body = body;
  given_is = refl;
  trans = words layout view who page (Some frame) body has;
  taken = body_in (Some frame) (log_of body) has.seen;
  handled = has.handled;
  poisoned = has.poisoned;
  hand_is = has.hand_is;
  home = goes-home layout view who page (Some frame) body has;
  page_is = has.body_is.page_is;
  taken_is = has.body_is.page_is;
  layout_is = has.body_is.layout_is;
}

pub held-unholds : (layout : Layout) (view : View) (who : Who) (page : Page) (frame : Option Frame) (body : BodyValue) → IsOnTurn view who → page.0 < length layout.pages → HoldsPage layout view page frame body → Fits layout view (begin who page frame 1 body)
held-unholds layout view who page None body on inside has = record { on_turn = on; page = inside; at = held-ahead layout view who page None body has }
held-unholds layout view who page (Some frame) body on inside has = record { on_turn = on; page = inside; at = (held-ahead layout view who page (Some frame) body has, (omega arith, has.within frame refl)) }

-- so can a page with so many references to its frame, and a body with more entries, where the body can go home
pub ahead-unholds : (layout : Layout) (view : View) (who : Who) (page : Page) (frame : Option Frame) (count : ℕ) (body : BodyValue) → IsOnTurn view who → page.0 < length layout.pages → HoldsAhead layout who view page frame count (Some body)
    → 0 < count → ((f : Frame) → frame ≡ Some f → f.0 < layout.frames) → Fits layout view (begin who page frame count body)
ahead-unholds layout view who page None count body on inside has some within = record {
  on_turn = on;
  page = inside;
  at = record {
    body = has.body;
    given_is = has.given_is;
    trans = has.trans;
    taken = has.taken;
    handled = has.handled;
    poisoned = has.poisoned;
    hand_is = has.hand_is;
    home = has.home;
    page_is = has.page_is;
    taken_is = has.taken_is;
    layout_is = has.layout_is;
  };
}
ahead-unholds layout view who page (Some frame) count body on inside has some within = record { on_turn = on; page = inside; at = (has, (some, within frame refl)) }

-- so a hold that is over can be let go
pub over-lets-go : (h : Hold) (u : Unhold) (frame : Option Frame) (body : BodyValue) → h.at ≡ at.Held frame body → u ≡ begin h.who h.page frame 1 body → LetsGo h u
over-lets-go h u frame body over is layout view fits = subst (Fits layout view) (sym is)
    (held-unholds layout view h.who h.page frame body fits.on_turn fits.page (subst (FitsAt layout view h.who h.page) over fits.at).0)

-- an unhold that is over has left nothing held
pub nothing-left : (layout : Layout) (view : View) (u : Unhold) → is_none (plan u) ≡ true → Fits layout view u → hand_of view ≡ empty
nothing-left layout view u over fits = which u.at over fits.at
  where
    which : (a : UnholdAt) → is_none (plan_at u.page a) ≡ true → UnholdFitsAt layout view u.who u.page a → hand_of view ≡ empty
    which (unhold_at.UnlockFrame frame count body) over at = absurd (false≢true over)
    which (unhold_at.Release r) over at = absurd (false≢true (sym at.under_way ∙ over))
    which (unhold_at.UnlockPage body) over at = absurd (false≢true over)
    which unhold_at.Over over at = at
