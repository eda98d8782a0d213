-- The entry of a failure: what the body is with it, and what the words of its page become.
use Rattle.std.proofs.Common.{◌≡◌, ℕ, ◌≤◌, ◌||◌, Bool, true, false, cond, List, [], ◌∷◌, ◌++◌, Option, Some, None, length, drop, slice_get, refl, sym, ap, ◌∙◌, subst, zero, suc}
use Rattle.std.proofs.Math.Seq.{drop-append_seam}
use Rattle.std.proofs.lemmas.List.Sums.{fold-append}
use Rattle.std.proofs.lemmas.Option.{none-some, same_Some}
use Rattle.std.specs.Prelude.{option_and_then}
use Rattle.std.specs.FinSet as set
use Rattle.std.specs.Ordering.{nat_cmp}
use Rattle.std.specs.Cmp.{nat_cmp_total}
use Rattle.hwp_core.specs.hwp_geom.declared.Frame.{Frame}
use Rattle.hwp_core.specs.hwp_geom.declared.Layout.{Layout}
use Rattle.hwp_core.specs.hwp_geom.declared.Page.{Page}
use Rattle.hwp_core.specs.hwp_geom.declared.PageKind.{PageKind}
use Rattle.hwp_core.specs.hwp_geom.declared.PageKind.TheVariants.{Anon, File}
use Rattle.hwp_core.specs.hwp_geom.declared.Thread.{Thread}
use Rattle.hwp_core.specs.hwp_geom.declared.Who.{Who}
use Rattle.hwp_core.specs.hwp_geom.Layout.{is_locked}
use Rattle.hwp_core.specs.hwp_kill.declared.Seen.{Seen}
use Rattle.hwp_core.specs.hwp_kill.declared.Signal.{Signal}
use Rattle.hwp_core.specs.hwp_kill.Limits.{signal_limit}
use Rattle.hwp_core.specs.hwp_page.declared.Entry.{Entry}
use Rattle.hwp_core.specs.hwp_page.declared.PageState.{PageState}
use Rattle.hwp_core.specs.hwp_page.Actions.{acted, situation_by, situation_of}
use Rattle.hwp_core.specs.hwp_page.History.{BodyValue, IsReplay, Leads}
use Rattle.hwp_core.specs.hwp_page.Losses.{file_behind}
use Rattle.hwp_core.specs.hwp_page.Step.{IsFailure, after}
use Rattle.hwp_core.specs.hwp_words.Translations.{pte_word}
use Rattle.hwp_core.specs.hwp_words.declared.Pte.TheVariants as ptes
use Rattle.hwp_core.specs.hwp_core_rule.declared.InHand.{InHand}
use Rattle.hwp_core.specs.hwp_core_rule.declared.Log.{Log}
use Rattle.hwp_core.specs.hwp_core_rule.declared.Sight.{Sight}
use Rattle.hwp_core.specs.hwp_core_rule.Asks.{Extends}
use Rattle.hwp_core.specs.hwp_core_rule.Lists.{EachMember}
use Rattle.hwp_core.specs.hwp_core_rule.Logs.{file_of, fitting_word, log_of, opening_at, state_of}
use Rattle.hwp_core.specs.hwp_core_rule.Views.{more_of}
use Rattle.hwp_core.specs.hwp_core_rule.parts.Entries.{HasSeen}
use Rattle.hwp_core.proofs.of_hwp_core_rule.OwedLosses.{state-kind}
use Rattle.hwp_core.specs.hwp_core_rule.Hands.{body_in}
use Rattle.hwp_core.specs.Holds.{IsBodyOf}
use Rattle.hwp_core.specs.Clears.{word_now}
use Rattle.hwp_core.proofs.PageStates.{replay-apart, state-is}
use Rattle.hwp_claim_act.specs.declared.abandon.Failed.{Failed}
use Rattle.hwp_claim_act.specs.declared.abandon.Losses.{Losses}
use Rattle.hwp_claim_act.specs.declared.failing.Entered.{Entered}
use Rattle.hwp_claim_act.specs.Abandons.{endings_of, signals_now}
use Rattle.hwp_claim_act.specs.Abandoned.{Failure, HasFailure, IsLostFile, IsOfPage, entry_of, what_of}
use Rattle.hwp_claim_act.specs.Failing.{CanEnter, HasMadeEntry, bars_of, failure_of, lost_at}

-- the one member of a list
only-member : {A : Type 0} (P : A → Type 0) (l : List A) (a : A) → l ≡ a ∷ [] → P a → EachMember P l
only-member P l a one here i x e = which i (sym (ap (λ m. slice_get m i) one) ∙ e)
  where
    which : (j : ℕ) → slice_get (a ∷ []) j ≡ Some x → P x
    which zero at = subst P (same_Some a x at) here
    which (suc j) at = absurd (none-some x at)

-- the file that a failure costs content is the one behind the page
lost-right : (layout : Layout) (page : Page) (kind : PageKind) (locked dirty : Bool) (back : Option (List ℕ)) (required : Option Thread) (seen : List Seen) (signals : List Signal)
    → file_of layout page ≡ file_behind kind → IsLostFile layout page (record { situation = situation_by kind locked dirty back; required = required; seen = seen; signals = signals }) (lost_at kind dirty)
lost-right layout page (File file fill) true true back required seen signals behind = (behind, refl)
lost-right layout page (File file fill) true false back required seen signals behind = refl
lost-right layout page (File file fill) false true back required seen signals behind = (behind, refl)
lost-right layout page (File file fill) false false back required seen signals behind = refl
lost-right layout page Anon true dirty back required seen signals behind = refl
lost-right layout page Anon false dirty None required seen signals behind = refl
lost-right layout page Anon false true (Some words) required seen signals behind = refl
lost-right layout page Anon false false (Some words) required seen signals behind = refl

-- what a failure makes of residence and translations
pub record Acts (s t : PageState) (barred : Bool) : Type 0 where
  pub cached : t.cached ≡ false
  pub maps : t.maps ≡ set.empty
  pub bar : t.bar ≡ cond barred (set.union s.bar s.maps) s.bar

acts-by : (s : PageState) (kind : PageKind) (locked dirty : Bool) (back : Option (List ℕ)) → Acts s (acted s (situation_by kind locked dirty back)) (bars_of (situation_by kind locked dirty back))
acts-by s (File file fill) true true back = record { cached = refl; maps = refl; bar = refl }
acts-by s (File file fill) true false back = record { cached = refl; maps = refl; bar = refl }
acts-by s (File file fill) false true back = record { cached = refl; maps = refl; bar = refl }
acts-by s (File file fill) false false back = record { cached = refl; maps = refl; bar = refl }
acts-by s Anon true dirty back = record { cached = refl; maps = refl; bar = refl }
acts-by s Anon false dirty None = record { cached = refl; maps = refl; bar = refl }
acts-by s Anon false true (Some words) = record { cached = refl; maps = refl; bar = refl }
acts-by s Anon false false (Some words) = record { cached = refl; maps = refl; bar = refl }

of-page-by : (kind : PageKind) (locked dirty : Bool) (back : Option (List ℕ)) → IsOfPage (situation_by kind locked dirty back)
of-page-by (File file fill) true true back = tt
of-page-by (File file fill) true false back = tt
of-page-by (File file fill) false true back = tt
of-page-by (File file fill) false false back = tt
of-page-by Anon true dirty back = tt
of-page-by Anon false dirty None = tt
of-page-by Anon false true (Some words) = tt
of-page-by Anon false false (Some words) = tt

-- what a failure finds of a page is of a page
pub of-page : (s : PageState) (situation : _) → situation ≡ situation_of s → IsOfPage situation
of-page s situation is = subst IsOfPage (sym is) (of-page-by s.kind s.locked s.dirty s.back)

pub acts : (s : PageState) (situation : _) → situation ≡ situation_of s → Acts s (acted s situation) (bars_of situation)
acts s situation is = subst (λ x. Acts s (acted s x) (bars_of x)) (sym is) (acts-by s s.kind s.locked s.dirty s.back)

module _ {layout : Layout} {who : Who} {page : Page} {log : Log} {f : Failure} {losses : Losses} {failed : Failed} {body : BodyValue} (has : HasFailure layout who page log f losses failed body) where
  abbrev longer : Log
  longer = record { page = log.page; entries = log.entries ++ entry_of who f ∷ [] }

  -- the state after the entry
  pub state-after : state_of layout (log_of body) ≡ acted (state_of layout log) f.situation
  state-after = ap (state_of layout) has.log_is ∙ fold-append (λ (t : PageState) (e : Entry). after t e.what) (opening_at (slice_get layout.pages log.page.0) (is_locked layout log.page)) log.entries (entry_of who f ∷ [])

  pub acts-after : Acts (state_of layout log) (state_of layout (log_of body)) (bars_of f.situation)
  acts-after = subst (λ (t : PageState). Acts (state_of layout log) t (bars_of f.situation)) (sym state-after) (acts (state_of layout log) f.situation has.allowed.actual)

  module _ (frame : Frame) (seen : ℕ) where
    abbrev taken : InHand
    taken = body_in (Some frame) log seen

    longer-more : more_of taken longer ≡ entry_of who f ∷ []
    longer-more = drop-append_seam log.entries (entry_of who f ∷ [])

    pub one-more : more_of taken (log_of body) ≡ entry_of who f ∷ []
    one-more = ap (more_of taken) has.log_is ∙ longer-more

    pub extends : (sights : List Sight) → HasSeen (drop seen sights) who (Some frame) (what_of f) → Extends layout who sights taken (log_of body)
    extends sights saw = subst (Extends layout who sights taken) (sym has.log_is) (record {
      page_is = refl;
      longer = ap (λ (list : List Entry). log.entries ++ list) (sym longer-more);
      leads = subst (λ (list : List Entry). Leads layout log.page (state_of layout log) list (state_of layout longer)) (sym longer-more)
          (has.allowed, sym (fold-append (λ (t : PageState) (e : Entry). after t e.what) (opening_at (slice_get layout.pages log.page.0) (is_locked layout log.page)) log.entries (entry_of who f ∷ [])));
      own = only-member (λ (e : Entry). e.who ≡ who) (more_of taken longer) (entry_of who f) longer-more refl;
      seen = only-member (λ (e : Entry). HasSeen (drop seen sights) who (Some frame) e.what) (more_of taken longer) (entry_of who f) longer-more saw;
    })

  -- a translation that was written fits the page on its shelf
  pub written-fits : IsReplay layout page log.entries (state_of layout log) → (frame : Frame) (slot : ℕ) → word_now (state_of layout log) (bars_of f.situation) frame None slot ≡ fitting_word (state_of layout (log_of body)) 0 slot
  written-fits replay frame slot = by (bars_of f.situation) (set.contains s.maps slot) refl ∙ sym target
    where
      s : PageState
      s = state_of layout log

      target : fitting_word (state_of layout (log_of body)) 0 slot ≡ cond (set.contains (cond (bars_of f.situation) (set.union s.bar s.maps) s.bar) slot) (pte_word ptes.Poison) 0
      target = ap (λ m. cond (set.contains m slot) 0 (cond (set.contains (state_of layout (log_of body)).bar slot) (pte_word ptes.Poison) 0)) acts-after.maps
          ∙ ap (λ (b : Bool). cond b 0 (cond (set.contains (state_of layout (log_of body)).bar slot) (pte_word ptes.Poison) 0)) (set.contains-empty nat_cmp slot)
          ∙ ap (λ m. cond (set.contains m slot) (pte_word ptes.Poison) 0) acts-after.bar

      by : (b m : Bool) → set.contains s.maps slot ≡ m → word_now s b frame None slot ≡ cond (set.contains (cond b (set.union s.bar s.maps) s.bar) slot) (pte_word ptes.Poison) 0
      by false true some = ap (λ (m : Bool). cond m 0 (cond (set.contains s.bar slot) (pte_word ptes.Poison) 0)) some
          ∙ sym (ap (λ (m : Bool). cond m (pte_word ptes.Poison) 0) (replay-apart replay slot some))
      by false false none = ap (λ (m : Bool). cond m 0 (cond (set.contains s.bar slot) (pte_word ptes.Poison) 0)) none
      by true true some = ap (λ (m : Bool). cond m (pte_word ptes.Poison) (cond (set.contains s.bar slot) (pte_word ptes.Poison) 0)) some
          ∙ sym (ap (λ (m : Bool). cond m (pte_word ptes.Poison) 0) (set.contains-union nat_cmp_total s.bar s.maps slot ∙ ap (λ (m : Bool). set.contains s.bar slot || m) some ∙ or-true (set.contains s.bar slot)))
        where
          or-true : (b : Bool) → (b || true) ≡ true
          or-true true = refl
          or-true false = refl
      by true false none = ap (λ (m : Bool). cond m (pte_word ptes.Poison) (cond (set.contains s.bar slot) (pte_word ptes.Poison) 0)) none
          ∙ sym (ap (λ (m : Bool). cond m (pte_word ptes.Poison) 0) (set.contains-union nat_cmp_total s.bar s.maps slot ∙ ap (λ (m : Bool). set.contains s.bar slot || m) none ∙ or-false (set.contains s.bar slot)))
        where
          or-false : (b : Bool) → (b || false) ≡ b
          or-false true = refl
          or-false false = refl

-- ---- a held body gets the entry

module _ {layout : Layout} {page : Page} {frame : Frame} {body : BodyValue} (is : IsBodyOf layout page (Some frame) body) where
  -- the kind of the page is the declared one
  kind-is : file_of layout page ≡ file_behind body.state.kind
  kind-is =
      let replay = is.replay in
      ap (λ (o : Option PageKind). option_and_then file_behind o) replay.declared
      ∙ ap file_behind (sym (ap (λ (s : PageState). s.kind) (sym (state-is is)) ∙ state-kind (opening_at (slice_get layout.pages body.page.0) (is_locked layout body.page)) body.log
      ∙ ap (λ (p : Page). (opening_at (slice_get layout.pages p.0) (is_locked layout p)).kind) is.page_is ∙ ap (λ (o : Option PageKind). (opening_at o (is_locked layout page)).kind) replay.declared))

  pub has-failure : {who : Who} {required : Option Thread} {seen : List Seen} {entered : Entered} → CanEnter required body seen → (made : HasMadeEntry who required body seen entered)
      → HasFailure layout who page (log_of body) (failure_of body.state required seen made.signals) entered.losses entered.failed entered.body
  has-failure {who} {required} {seen} {entered} can made = record {
    page_is = is.page_is;
    log_is = ap (λ (e : Entered). log_of e.body) made.is;
    layout_is = ap (λ (e : Entered). e.body.layout) made.is ∙ is.layout_is;
    allowed = subst (λ (s : PageState). IsFailure layout s (situation_of body.state) required seen made.signals) (sym (state-is is))
        (subst (λ (l : Layout). IsFailure l body.state (situation_of body.state) required seen made.signals) is.layout_is (record { cached = can.cached; actual = refl; policies = can.policies; killed = made.killed }));
    endings_are = ap (λ (e : Entered). e.losses.endings) made.is ∙ ap (λ (l : Layout). endings_of l made.signals) is.layout_is;
    few = subst (λ (l : List Signal). length l ≤ signal_limit) (sym (ap (λ (e : Entered). e.losses.endings) made.is)) made.few;
    file_is = subst (IsLostFile layout page (failure_of body.state required seen made.signals)) (sym (ap (λ (e : Entered). e.losses.file) made.is)) (lost-right layout page body.state.kind body.state.locked body.state.dirty body.state.back required seen made.signals kind-is);
    failed_is = ap (λ (e : Entered). e.failed) made.is
        ∙ ap (λ (p : Page). record { situation = situation_of body.state; required = required; at = record { page = p; entry = length body.log }; signalled = signals_now made.signals }) is.page_is;
  }
