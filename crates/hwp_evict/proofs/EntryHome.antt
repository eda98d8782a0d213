-- A body that has its command's entry: it can go home, and with it the command has made what it answers.
use Rattle.std.proofs.Common.{◌≡◌, ℕ, zero, suc, ◌+◌, ◌==◌, Bool, true, false, not, cond, List, [], ◌∷◌, ◌++◌, Option, Some, None, length, drop, slice_get, refl, sym, ap, ◌∙◌, subst, arith}
use Rattle.std.proofs.Math.Seq.{drop-append_seam}
use Rattle.std.proofs.lemmas.Bool.{both_ways, ne_eqb}
use Rattle.std.proofs.lemmas.List.Sums.{fold-append}
use Rattle.std.proofs.lemmas.Option.{none-some, same_Some}
use Rattle.std.specs.FinSet as set
use Rattle.std.specs.List.{find}
use Rattle.std.specs.Ordering.{nat_cmp}
use Rattle.hwp_core.specs.hwp_geom.declared.Frame.{Frame}
use Rattle.hwp_core.specs.hwp_geom.declared.Layout.{Layout}
use Rattle.hwp_core.specs.hwp_geom.declared.Page.{Page}
use Rattle.hwp_core.specs.hwp_geom.declared.Proc.{Proc}
use Rattle.hwp_core.specs.hwp_geom.declared.TransDecl.{TransDecl}
use Rattle.hwp_core.specs.hwp_geom.declared.Who.{Who}
use Rattle.hwp_core.specs.hwp_geom.Layout.{is_locked}
use Rattle.hwp_core.specs.hwp_page.declared.At.{At}
use Rattle.hwp_core.specs.hwp_page.declared.Entry.{Entry}
use Rattle.hwp_core.specs.hwp_page.declared.PageState.{PageState}
use Rattle.hwp_core.specs.hwp_page.Endings.{has_ending}
use Rattle.hwp_core.specs.hwp_page.History.{BodyValue, Leads}
use Rattle.hwp_core.specs.hwp_page.Step.{Allowed, after}
use Rattle.hwp_core.specs.hwp_words.Names.{frame_name}
use Rattle.hwp_core.specs.hwp_words.Translations.{pte_word}
use Rattle.hwp_core.specs.hwp_words.declared.Pte.TheVariants as ptes
use Rattle.hwp_core.specs.hwp_core_rule.declared.InHand.{InHand}
use Rattle.hwp_core.specs.hwp_core_rule.declared.Log.{Log}
use Rattle.hwp_core.specs.hwp_core_rule.declared.Sight.{Sight}
use Rattle.hwp_core.specs.hwp_core_rule.declared.View.{View}
use Rattle.hwp_core.specs.hwp_core_rule.Asks.{CanGoHome, Extends}
use Rattle.hwp_core.specs.hwp_core_rule.Lists.{EachMember, SomeMember}
use Rattle.hwp_core.specs.hwp_core_rule.Logs.{log_of, opening_at, state_of, fitting, fitting_word}
use Rattle.hwp_core.specs.hwp_core_rule.Views.{is_body_of, more_of}
use Rattle.hwp_core.specs.hwp_core_rule.parts.Entries.{HasSeen}
use Rattle.hwp_core.specs.hwp_core_rule.parts.Fits.{FitsWords}
use Rattle.hwp_core.proofs.of_hwp_core_rule.PageWords.{fitting-at}
use Rattle.hwp_core.proofs.of_hwp_core_rule.Lists.{same-number}
use Rattle.hwp_core.specs.hwp_core_rule.Hands.{body_in}
use Rattle.hwp_core.specs.Holds.{page_lock}
use Rattle.hwp_core.proofs.VacateLaws.{put-fits-of}
use Rattle.hwp_evict.specs.declared.evict.Eviction.{Eviction}
use Rattle.hwp_evict.specs.declared.evict.Eviction.TheVariants as evictions
use Rattle.hwp_evict.specs.Evictions.{entry_of}
use Rattle.hwp_evict.specs.Evicts.{HasEntry}

-- the one member of a list
only-member : {A : Type 0} (P : A → Type 0) (l : List A) (a : A) → l ≡ a ∷ [] → P a → EachMember P l
only-member P l a one here i x e = which i (sym (ap (λ m. slice_get m i) one) ∙ e)
  where
    which : (j : ℕ) → slice_get (a ∷ []) j ≡ Some x → P x
    which zero at = subst P (same_Some a x at) here
    which (suc j) at = absurd (none-some x at)

-- the entries of these commands end no process
ends-none : (layout : Layout) (process : Proc) (who : Who) (w : Eviction) → has_ending layout process (record { who = who; what = entry_of w } ∷ []) ≡ false
ends-none layout process who (evictions.Free slot) = refl
ends-none layout process who evictions.Sync = refl
ends-none layout process who evictions.Drop = refl
ends-none layout process who evictions.Out = refl

module _ {layout : Layout} {who : Who} {page : Page} {what : Eviction} {log : Log} {done : At} {body : BodyValue} (has : HasEntry layout who page what log done body) (frame : Frame) (seen : ℕ) where
  abbrev taken : InHand
  taken = body_in (Some frame) log seen

  abbrev entry : Entry
  entry = record { who = who; what = entry_of what }

  abbrev longer : Log
  longer = record { page = log.page; entries = log.entries ++ entry ∷ [] }

  abbrev state : PageState
  state = state_of layout log

  longer-more : more_of taken longer ≡ entry ∷ []
  longer-more = drop-append_seam log.entries (entry ∷ [])

  pub one-more : more_of taken (log_of body) ≡ entry ∷ []
  one-more = ap (more_of taken) has.log_is ∙ longer-more

  longer-state : after state (entry_of what) ≡ state_of layout longer
  longer-state = sym (fold-append (λ (t : PageState) (e : Entry). after t e.what) (opening_at (slice_get layout.pages log.page.0) (is_locked layout log.page)) log.entries (entry ∷ []))

  -- the state after the entry
  pub state-after : state_of layout (log_of body) ≡ after state (entry_of what)
  state-after = ap (state_of layout) has.log_is ∙ sym longer-state

  pub body-page : body.page ≡ page
  body-page = ap (λ (l : Log). l.page) has.log_is ∙ has.page_is

  of-entry : (P : Entry → Type 0) → P entry → EachMember P (more_of taken longer)
  of-entry P is = only-member P (more_of taken longer) entry longer-more is

  pub extends : (sights : List Sight) → HasSeen (drop seen sights) who (Some frame) (entry_of what) → Extends layout who sights taken (log_of body)
  extends sights saw = subst (Extends layout who sights taken) (sym has.log_is) (record {
    page_is = refl;
    longer = ap (λ (list : List Entry). log.entries ++ list) (sym longer-more);
    leads = subst (λ (list : List Entry). Leads layout log.page state list (state_of layout longer)) (sym longer-more)
        (subst (λ (p : Page). Allowed layout p state (entry_of what)) (sym has.page_is) has.allowed, longer-state);
    own = of-entry (λ (e : Entry). e.who ≡ who) refl;
    seen = of-entry (λ (e : Entry). HasSeen (drop seen sights) who (Some frame) e.what) saw;
  })

  pub kills-none : (process : Proc) → has_ending layout process (drop taken.since body.log) ≡ true → SomeMember (λ (p : Proc). p ≡ process) taken.killed
  kills-none process ended = absurd (both_ways true (sym ended ∙ ap (λ (l : Log). has_ending layout process (drop (length log.entries) l.entries)) has.log_is ∙ ap (has_ending layout process) longer-more ∙ ends-none layout process who what) refl)

  -- with the page's lock, whose words fit it
  pub goes-home : (view : View) (cached : Option Frame) (trans : List ℕ) → view.pages ≡ page_lock page cached (Some trans) ∷ [] → view.bodies ≡ taken ∷ [] → FitsWords layout (log_of body) (frame_name cached) trans
      → HasSeen (drop seen view.sights) who (Some frame) (entry_of what) → CanGoHome layout who view (log_of body)
  goes-home view cached trans pages bodies fits saw = record {
    body = taken;
    body_is = ap (find (is_body_of body.page)) bodies ∙ ap (λ (b : Bool). cond b (Some taken) None) (same-number log.page.0 body.page.0 (sym (ap (λ (l : Log). l.page.0) has.log_is)));
    extends = extends view.sights saw;
    fits = put-fits-of cached trans taken (log_of body) body-page pages fits;
    killed = kills-none;
  }

  -- the words of the page, as they are before a translation is written
  abbrev pub words : List ℕ
  words = fitting layout log.page state (frame.0 + 1)

  pub word-is : (slot w : ℕ) (t : TransDecl) → slice_get layout.trans slot ≡ Some t → t.page ≡ body.page → slice_get words slot ≡ Some w → w ≡ fitting_word state (frame.0 + 1) slot
  word-is slot w t declared own there = same_Some w (fitting_word state (frame.0 + 1) slot)
      (sym there ∙ fitting-at log.page state (frame.0 + 1) 0 layout.trans slot t declared (own ∙ ap (λ (l : Log). l.page) has.log_is)
      ∙ ap (λ (n : ℕ). Some (fitting_word state (frame.0 + 1) n)) (let first : 0 + slot ≡ slot = omega arith in first))

  in-frame : not (frame.0 + 1 == 0) ≡ true
  in-frame = ap not (ne_eqb (frame.0 + 1) 0 (λ e. omega (arith, e)))

  -- they fit a state with the same residence and the same translations
  pub same-words : (after state (entry_of what)).cached ≡ true → (after state (entry_of what)).maps ≡ state.maps → (after state (entry_of what)).bar ≡ state.bar → FitsWords layout (log_of body) (frame.0 + 1) words
  same-words cached maps bar = record {
    cached = in-frame ∙ sym (ap (λ (s : PageState). s.cached) state-after ∙ cached);
    used = λ slot w t declared own there. word-is slot w t declared own there
        ∙ ap (λ m. cond (set.contains m slot) (frame.0 + 1) (cond (set.contains state.bar slot) (pte_word ptes.Poison) 0)) (sym (ap (λ (s : PageState). s.maps) state-after ∙ maps))
        ∙ ap (λ m. cond (set.contains (state_of layout (log_of body)).maps slot) (frame.0 + 1) (cond (set.contains m slot) (pte_word ptes.Poison) 0)) (sym (ap (λ (s : PageState). s.bar) state-after ∙ bar));
  }

  -- and one in which the page is in no frame, where no translation was in use
  pub shelf-words : (after state (entry_of what)).cached ≡ false → state.maps ≡ set.empty → (after state (entry_of what)).maps ≡ set.empty → (after state (entry_of what)).bar ≡ state.bar → FitsWords layout (log_of body) 0 words
  shelf-words cached none maps bar = record {
    cached = sym (ap (λ (s : PageState). s.cached) state-after ∙ cached);
    used = λ slot w t declared own there. word-is slot w t declared own there
        ∙ ap (λ (b : Bool). cond b (frame.0 + 1) (cond (set.contains state.bar slot) (pte_word ptes.Poison) 0)) (ap (λ m. set.contains m slot) none ∙ set.contains-empty nat_cmp slot)
        ∙ sym (ap (λ (b : Bool). cond b 0 (cond (set.contains state.bar slot) (pte_word ptes.Poison) 0)) (ap (λ m. set.contains m slot) (ap (λ (s : PageState). s.maps) state-after ∙ maps) ∙ set.contains-empty nat_cmp slot))
        ∙ ap (λ m. cond (set.contains (state_of layout (log_of body)).maps slot) 0 (cond (set.contains m slot) (pte_word ptes.Poison) 0)) (sym (ap (λ (s : PageState). s.bar) state-after ∙ bar));
  }
