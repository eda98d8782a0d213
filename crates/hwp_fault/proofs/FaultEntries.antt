-- A body in hand that goes on with the entries of a fault can go home.
use Rattle.std.proofs.Common.{◌≡◌, ◌≢◌, ◌⊎◌, inl, inr, ℕ, zero, suc, ◌+◌, ◌<◌, ◌==◌, ◌||◌, Bool, true, false, cond, List, [], ◌∷◌, ◌++◌, Option, Some, None, length, drop, set, slice_get, refl, sym, ap, ◌∙◌, subst, arith}
use Rattle.std.proofs.lemmas.Bool.{both_ways, ne_eqb}
use Rattle.std.proofs.lemmas.List.{append_assoc, drop-append-le, length-append}
use Rattle.std.proofs.lemmas.List.Sums.{fold-append, sum_by-cons}
use Rattle.std.proofs.lemmas.Option.{none-some, same_Some}
use Rattle.std.specs.Cmp.{nat_cmp_total, unsigned_tied}
use Rattle.std.specs.FinSet as sets
use Rattle.std.specs.Int.{from_bool}
use Rattle.std.specs.List.{find}
use Rattle.hwp_page.specs.hwp_geom.declared.Frame.{Frame}
use Rattle.hwp_page.specs.hwp_geom.declared.Layout.{Layout}
use Rattle.hwp_page.specs.hwp_geom.declared.Page.{Page}
use Rattle.hwp_page.specs.hwp_geom.declared.Proc.{Proc}
use Rattle.hwp_page.specs.hwp_geom.declared.VSlot.{VSlot}
use Rattle.hwp_page.specs.hwp_geom.declared.Who.{Who}
use Rattle.hwp_page.specs.hwp_geom.Layout.{is_locked}
use Rattle.hwp_page.specs.declared.Entry.{Entry}
use Rattle.hwp_page.specs.declared.PageState.{PageState}
use Rattle.hwp_page.specs.declared.What.{What}
use Rattle.hwp_page.specs.declared.What.TheVariants as entries
use Rattle.hwp_page.specs.Endings.{is_ending, has_ending}
use Rattle.hwp_page.specs.History.{BodyValue, Leads}
use Rattle.hwp_page.specs.Step.{Allowed, after}
use Rattle.hwp_core.specs.hwp_words.declared.Pte.TheVariants as ptes
use Rattle.hwp_core.specs.hwp_words.Names.{frame_name}
use Rattle.hwp_core.specs.hwp_words.Translations.{pte_word}
use Rattle.hwp_core.specs.hwp_core_rule.declared.InHand.{InHand}
use Rattle.hwp_core.specs.hwp_core_rule.declared.Log.{Log}
use Rattle.hwp_core.specs.hwp_core_rule.declared.PageLock.{PageLock}
use Rattle.hwp_core.specs.hwp_core_rule.declared.Sight.{Sight}
use Rattle.hwp_core.specs.hwp_core_rule.declared.View.{View}
use Rattle.hwp_core.specs.hwp_core_rule.Asks.{Extends, PutFits, CanGoHome}
use Rattle.hwp_core.specs.hwp_core_rule.Lists.{EachMember}
use Rattle.hwp_core.specs.hwp_core_rule.Logs.{log_of, opening_at, state_of, fitting_word}
use Rattle.hwp_core.specs.hwp_core_rule.Views.{is_body_of, page_locks_on}
use Rattle.hwp_core.specs.hwp_core_rule.parts.Entries.{HasSeen}
use Rattle.hwp_core.specs.hwp_core_rule.parts.Fits.{FitsWords}
use Rattle.hwp_core.proofs.of_hwp_core_rule.Lists.{at_set, each-push, same-number}
use Rattle.hwp_core.specs.hwp_core_rule.Hands.{Hand, body_in}
use Rattle.hwp_core.specs.Holds.{page_lock}
use Rattle.hwp_core.specs.Unholds.{holding, HoldsAhead}
use Rattle.hwp_fault.specs.MapIns.{IsBringing, added, BringsOn, HoldsWithFrame}

-- a list of one
pub each-one : {A : Type 0} (P : A → Type 0) (a : A) → P a → EachMember P (a ∷ [])
each-one P a here zero x e = subst P (same_Some a x e) here
each-one P a here (suc i) x e = absurd (none-some x e)

-- ---- the entries of a fault

-- they rest on nothing that was seen, and end no process
bringing-seen : (sights : List Sight) (who : Who) (frame : Option Frame) (slot : VSlot) (what : What) → (what ≡ entries.FaultIn) ⊎ (what ≡ entries.Map slot) → HasSeen sights who frame what
bringing-seen sights who frame slot what (inl is) = subst (HasSeen sights who frame) (sym is) tt
bringing-seen sights who frame slot what (inr is) = subst (HasSeen sights who frame) (sym is) tt

bringing-ends : (layout : Layout) (process : Proc) (slot : VSlot) (what : What) → (what ≡ entries.FaultIn) ⊎ (what ≡ entries.Map slot) → is_ending layout process what ≡ false
bringing-ends layout process slot what (inl is) = ap (is_ending layout process) is
bringing-ends layout process slot what (inr is) = ap (is_ending layout process) is

none-ends : (layout : Layout) (process : Proc) (slot : VSlot) (list : List Entry) → EachMember (IsBringing slot) list → has_ending layout process list ≡ false
none-ends layout process slot [] only = refl
none-ends layout process slot (e ∷ es) only =
    ap (λ (b : Bool). b || has_ending layout process es) (bringing-ends layout process slot e.what (only 0 e refl)) ∙ none-ends layout process slot es (λ i x at. only (suc i) x at)

-- ---- one entry more

leads-more : (layout : Layout) (page : Page) (s : PageState) (list : List Entry) (t : PageState) (e : Entry) → Leads layout page s list t → Allowed layout page t e.what → Leads layout page s (list ++ e ∷ []) (after t e.what)
leads-more layout page s [] t e same allowed = (subst (λ (x : PageState). Allowed layout page x e.what) (sym same) allowed, ap (λ (x : PageState). after x e.what) same)
leads-more layout page s (x ∷ list) t e leads allowed = (leads.0, leads-more layout page (after s x.what) list t e leads.1 allowed)

-- the history with an entry more
abbrev pub with_entry : Log → Entry → Log
with_entry log e = record { page = log.page; entries = log.entries ++ e ∷ [] }

pub state-more : (layout : Layout) (log : Log) (e : Entry) → state_of layout (with_entry log e) ≡ after (state_of layout log) e.what
state-more layout log e = fold-append (λ (t : PageState) (x : Entry). after t x.what) (opening_at (slice_get layout.pages log.page.0) (is_locked layout log.page)) log.entries (e ∷ [])

pub added-more : (was now : Log) (e : Entry) → now.entries ≡ was.entries ++ added was now → added was (with_entry now e) ≡ added was now ++ e ∷ []
added-more was now e longer = drop-append-le (length was.entries) now.entries (e ∷ [])
    (let all : length now.entries ≡ length was.entries + length (added was now) = ap length longer ∙ length-append was.entries (added was now) in omega arith)

pub brings-more : (layout : Layout) (who : Who) (slot : VSlot) (was now : Log) (e : Entry) → BringsOn layout who slot was now → Allowed layout now.page (state_of layout now) e.what → e.who ≡ who → IsBringing slot e
    → BringsOn layout who slot was (with_entry now e)
brings-more layout who slot was now e has allowed own is = record {
  page_is = has.page_is;
  longer = ap (λ (l : List Entry). l ++ e ∷ []) has.longer ∙ append_assoc was.entries (added was now) (e ∷ []) ∙ ap (λ (l : List Entry). was.entries ++ l) (sym more);
  leads = subst (λ (l : List Entry). Leads layout now.page (state_of layout was) l (state_of layout (with_entry now e))) (sym more)
      (subst (λ (t : PageState). Leads layout now.page (state_of layout was) (added was now ++ e ∷ []) t) (sym (state-more layout now e)) (leads-more layout now.page (state_of layout was) (added was now) (state_of layout now) e has.leads allowed));
  own = subst (EachMember (λ (x : Entry). x.who ≡ who)) (sym more) (each-push (λ (x : Entry). x.who ≡ who) (added was now) e own has.own);
  only = subst (EachMember (IsBringing slot)) (sym more) (each-push (IsBringing slot) (added was now) e is has.only);
}
  where
    more : added was (with_entry now e) ≡ added was now ++ e ∷ []
    more = added-more was now e has.longer

-- the words that fitted fit with the translation in use
module _ (layout : Layout) (log : Log) (who : Who) (slot : VSlot) (frame : Frame) (trans : List ℕ) where
  abbrev entry : Entry
  entry = record { who = who; what = entries.Map slot }

  abbrev before : PageState
  before = state_of layout log

  tied : (v : ℕ) → v ≢ slot.0 → sets.contains (sets.insert before.maps slot.0) v ≡ sets.contains before.maps v
  tied v differs = sets.contains-insert nat_cmp_total before.maps slot.0 v ∙ ap (λ (b : Bool). b || sets.contains before.maps v) (unsigned_tied v slot.0 ∙ ne_eqb v slot.0 differs)

  here : sets.contains (sets.insert before.maps slot.0) slot.0 ≡ true
  here = sets.contains-insert nat_cmp_total before.maps slot.0 slot.0 ∙ ap (λ (b : Bool). b || sets.contains before.maps slot.0) (unsigned_tied slot.0 slot.0 ∙ same-number slot.0 slot.0 refl)

  -- the word that fits, where the translation is in use or not
  abbrev word : Bool → ℕ → ℕ
  word used v = cond used (frame.0 + 1) (cond (sets.contains before.bar v) (pte_word ptes.Poison) 0)

  pub words-more : FitsWords layout log (frame_name (Some frame)) trans → FitsWords layout (with_entry log entry) (frame_name (Some frame)) (set trans slot.0 (frame.0 + 1))
  words-more has = record {
    cached = has.cached ∙ ap (λ (s : PageState). s.cached) (sym (state-more layout log entry));
    used = λ v w t declared own there. changed v w (at_set trans slot.0 v (frame.0 + 1) w there) (λ stays. has.used v w t declared own stays)
        ∙ ap (λ (s : PageState). fitting_word s (frame_name (Some frame)) v) (sym (state-more layout log entry));
  }
    where
      changed : (v w : ℕ) → ((v ≡ slot.0) × (frame.0 + 1 ≡ w)) ⊎ ((v ≢ slot.0) × (slice_get trans v ≡ Some w)) → (slice_get trans v ≡ Some w → w ≡ fitting_word before (frame_name (Some frame)) v)
          → w ≡ fitting_word (after before (entries.Map slot)) (frame_name (Some frame)) v
      changed v w (inl this) was = sym this.1 ∙ sym (ap (λ (n : ℕ). fitting_word (after before (entries.Map slot)) (frame_name (Some frame)) n) this.0 ∙ ap (λ (b : Bool). word b slot.0) here)
      changed v w (inr other) was = was other.1 ∙ ap (λ (b : Bool). word b v) (sym (tied v other.0))

-- ---- it can go home

module _ {layout : Layout} {view : View} {who : Who} {page : Page} {slot : VSlot} {frame : Frame} {count : ℕ} {body : BodyValue} (has : HoldsWithFrame layout view who page slot frame count body) where
  abbrev taken : InHand
  taken = body_in has.from has.was has.seen

  abbrev lock : PageLock
  lock = page_lock page (Some frame) (Some has.trans)

  lock-at : slice_get view.pages 0 ≡ Some lock
  lock-at = ap (λ (h : Hand). slice_get h.pages 0) has.hand_is

  pub body-at : find (is_body_of body.page) view.bodies ≡ Some taken
  body-at = ap (λ (h : Hand). find (is_body_of body.page) h.bodies) has.hand_is
      ∙ ap (λ (b : Bool). cond b (Some taken) None) (same-number has.was.page.0 body.page.0 (ap (λ (p : Page). p.0) (sym has.brings.page_is)))

  extends : Extends layout who view.sights taken (log_of body)
  extends = record {
    page_is = has.brings.page_is;
    longer = has.brings.longer;
    leads = has.brings.leads;
    own = has.brings.own;
    seen = λ i e at. bringing-seen (drop has.seen view.sights) who has.from slot e.what (has.brings.only i e at);
  }

  fits : PutFits layout view taken (log_of body)
  fits = record {
    unlocked = λ none.
        let one : page_locks_on body.page.0 view.pages ≡ from_bool (page.0 == body.page.0) + page_locks_on body.page.0 [] = ap (λ (h : Hand). page_locks_on body.page.0 h.pages) has.hand_is ∙ sum_by-cons (λ (l : PageLock). from_bool (l.page.0 == body.page.0)) lock [] in
        let this : from_bool (page.0 == body.page.0) ≡ 1 = ap from_bool (same-number page.0 body.page.0 (ap (λ (p : Page). p.0) (sym has.page_is))) in
        absurd (omega (arith, none, one, this));
    locked = λ other cache words at own cache_is trans_is.
        let same : lock ≡ other = same_Some lock other (sym lock-at ∙ at) in
        subst (λ (c : ℕ). FitsWords layout (log_of body) c words) (same_Some (frame_name (Some frame)) cache (ap (λ (l : PageLock). l.cache) same ∙ cache_is))
        (subst (λ (ws : List ℕ). FitsWords layout (log_of body) (frame_name (Some frame)) ws) (same_Some has.trans words (ap (λ (l : PageLock). l.trans) same ∙ trans_is)) has.words);
  }

  pub goes-home : CanGoHome layout who view (log_of body)
  goes-home = record {
    body = taken;
    body_is = body-at;
    extends = extends;
    fits = fits;
    killed = λ process ended. absurd (both_ways (has_ending layout process (added has.was (log_of body))) (none-ends layout process slot (added has.was (log_of body)) has.brings.only) ended);
  }

  pub with-frame-ahead : HoldsAhead layout who view page (Some frame) count (Some body)
  with-frame-ahead = record {
    body = body;
    given_is = refl;
    trans = has.trans;
    taken = taken;
    handled = has.handled;
    poisoned = has.poisoned;
    hand_is = has.hand_is;
    home = goes-home;
    page_is = has.page_is;
    taken_is = sym has.brings.page_is ∙ has.page_is;
    layout_is = has.layout_is;
  }

-- a page that is held so, with entries of a fault alone since its body was taken
pub ahead-with-frame : {layout : Layout} {view : View} {who : Who} {page : Page} {slot : VSlot} {frame : Frame} {count : ℕ} {body : BodyValue} (from : Option Frame) (was : Log) (seen : ℕ)
    → HoldsAhead layout who view page (Some frame) count (Some body) → frame.0 < layout.frames → view.bodies ≡ body_in from was seen ∷ [] → EachMember (IsBringing slot) (added was (log_of body))
    → HoldsWithFrame layout view who page slot frame count body
ahead-with-frame {layout} {view} {who} {page} {slot} {frame} {count} {body} from was seen has within bodies only = record {
  from = from;
  was = was;
  seen = seen;
  trans = has.trans;
  handled = has.handled;
  poisoned = has.poisoned;
  hand_is = has.hand_is ∙ ap (λ (b : InHand). holding page (Some frame) count has.trans b has.handled has.poisoned) in-hand;
  brings = record {
    page_is = home.extends.page_is ∙ ap (λ (b : InHand). b.log.page) mine;
    longer = subst (λ (b : InHand). body.log ≡ b.log.entries ++ drop (length b.log.entries) body.log) mine home.extends.longer;
    leads = subst (λ (b : InHand). Leads layout body.page (state_of layout b.log) (drop (length b.log.entries) body.log) (state_of layout (log_of body))) mine home.extends.leads;
    own = subst (λ (b : InHand). EachMember (λ (e : Entry). e.who ≡ who) (drop (length b.log.entries) body.log)) mine home.extends.own;
    only = only;
  };
  words = home.fits.locked (page_lock page (Some frame) (Some has.trans)) (frame_name (Some frame)) has.trans (ap (λ (h : Hand). slice_get h.pages 0) has.hand_is) (sym page-is) refl refl;
  page_is = page-is;
  layout_is = ap (λ (b : BodyValue). b.layout) this ∙ has.layout_is;
  within = within;
}
  where
    this : body ≡ has.body
    this = same_Some body has.body has.given_is

    page-is : body.page ≡ page
    page-is = ap (λ (b : BodyValue). b.page) this ∙ has.page_is

    home : CanGoHome layout who view (log_of body)
    home = subst (λ (b : BodyValue). CanGoHome layout who view (log_of b)) (sym this) has.home

    in-hand : has.taken ≡ body_in from was seen
    in-hand = same_Some has.taken (body_in from was seen) (ap (λ (l : List InHand). slice_get l 0) (sym (ap (λ (h : Hand). h.bodies) has.hand_is) ∙ bodies))

    -- the body in hand, which the page has, is that one
    mine : home.body ≡ body_in from was seen
    mine = same_Some home.body (body_in from was seen) (sym home.body_is ∙ ap (find (is_body_of body.page)) bodies
        ∙ ap (λ (b : Bool). cond b (Some (body_in from was seen)) None) (same-number was.page.0 body.page.0 (ap (λ (p : Page). p.0) (sym (ap (λ (b : InHand). b.log.page) in-hand) ∙ has.taken_is ∙ sym page-is))))
