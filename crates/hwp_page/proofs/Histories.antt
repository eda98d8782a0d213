-- How a history begins at a page's opening, and grows by an entry.
use Rattle.std.proofs.Common.{◌≡◌, ℕ, ◌<◌, length, List, [], ◌∷◌, ◌++◌, Some, slice_get, slice_index_or, refl, sym, ap, ◌∙◌, subst}
use Rattle.std.proofs.lemmas.Option.{slice_get-get_or, same_Some}
use Rattle.hwp_kill.specs.hwp_geom.declared.Layout.{Layout}
use Rattle.hwp_kill.specs.hwp_geom.declared.Page.{Page}
use Rattle.hwp_kill.specs.hwp_geom.declared.PageKind.{PageKind}
use Rattle.hwp_kill.specs.hwp_geom.Layout.{IsSound, is_locked}
use Rattle.hwp_page.specs.declared.state.PageState.{PageState}
use Rattle.hwp_page.specs.declared.entry.Entry.{Entry}
use Rattle.hwp_page.specs.Step.{Allowed, after, opening_of}
use Rattle.hwp_page.specs.History.{Leads, IsReplay, IsKept, state_after}

Leads-more : (layout : Layout) (page : Page) (s : PageState) (es : List Entry) (t : PageState) (e : Entry)
    → Leads layout page s es t → Allowed layout page t e.what → Leads layout page s (es ++ e ∷ []) (after t e.what)
Leads-more layout page s [] t e same allowed =
    subst (λ u. Allowed layout page u e.what × (after u e.what ≡ after t e.what)) (sym same) (allowed, refl)
Leads-more layout page s (x ∷ es) t e leads allowed =
    (leads.0, Leads-more layout page (after s x.what) es t e leads.1 allowed)

-- one entry more
pub IsReplay-more : {layout : Layout} {page : Page} {log : List Entry} {state : PageState} (e : Entry)
    → IsReplay layout page log state → Allowed layout page state e.what → IsReplay layout page (log ++ e ∷ []) (after state e.what)
IsReplay-more {layout = layout} {page = page} {log = log} {state = state} e replay allowed = record {
  kind = replay.kind;
  declared = replay.declared;
  leads = Leads-more layout page (opening_of replay.kind (is_locked layout page)) log state e replay.leads allowed;
}

pub IsKept-more : {layout : Layout} {page : Page} {log : List Entry} {state : PageState} (e : Entry)
    → IsKept layout page log state → Allowed layout page state e.what → IsKept layout page (log ++ e ∷ []) (after state e.what)
IsKept-more e kept allowed = record { sound = kept.sound; replay = IsReplay-more e kept.replay allowed }

-- what a history leads to is the state after it
pub Leads-state : (layout : Layout) (page : Page) (s t : PageState) (es : List Entry) → Leads layout page s es t → state_after s es ≡ t
Leads-state layout page s t [] leads = leads
Leads-state layout page s t (e ∷ es) leads = Leads-state layout page (after s e.what) t es leads.1

-- the kind that a page's declaration gives, read by its number
declared_at : (layout : Layout) (page : Page) (pages : List PageKind) (at : ℕ) (d : PageKind)
    → page.0 < length layout.pages → pages ≡ layout.pages → at ≡ page.0 → slice_get layout.pages page.0 ≡ Some (slice_index_or pages at d)
declared_at layout page pages at d inside same number =
    slice_get-get_or layout.pages page.0 d inside ∙ (cc)

pub IsKept-opened : {layout : Layout} {page : Page} {log : List Entry} {state : PageState} (pages : List PageKind) (at : ℕ) (d : PageKind)
    → IsSound layout → page.0 < length layout.pages → pages ≡ layout.pages → at ≡ page.0
    → log ≡ [] → state ≡ opening_of (slice_index_or pages at d) (is_locked layout page) → IsKept layout page log state
IsKept-opened {layout = layout} {page = page} {log = log} {state = state} pages at d sound inside same number none opening =
    rw none (record {
      sound = sound;
      replay = record {
        kind = slice_index_or pages at d;
        declared = declared_at layout page pages at d inside same number;
        leads = sym opening;
      };
    })

pub opening_is : (layout : Layout) (page : Page) {state : PageState} (pages : List PageKind) (at : ℕ) (d : PageKind)
    → page.0 < length layout.pages → pages ≡ layout.pages → at ≡ page.0 → state ≡ opening_of (slice_index_or pages at d) (is_locked layout page)
    → (kind : PageKind) → slice_get layout.pages page.0 ≡ Some kind → state ≡ opening_of kind (is_locked layout page)
opening_is layout page pages at d inside same number opening kind declared =
    opening ∙ ap (λ k. opening_of k (is_locked layout page)) (same_Some _ _ (sym (declared_at layout page pages at d inside same number) ∙ declared))
