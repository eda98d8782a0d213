-- Histories of a page, and what clauses see of a body.
use Rattle.std.specs.Prelude.{◌≡◌, ℕ, List, [], ◌∷◌, Some, fold, slice_get}
use Rattle.hwp_kill.specs.hwp_geom.declared.Layout.{Layout}
use Rattle.hwp_kill.specs.hwp_geom.declared.Page.{Page}
use Rattle.hwp_kill.specs.hwp_geom.declared.PageKind.{PageKind}
use Rattle.hwp_kill.specs.hwp_geom.Layout.{IsSound, is_locked}
use Rattle.hwp_page.specs.declared.state.PageState.{PageState}
use Rattle.hwp_page.specs.declared.entry.Entry.{Entry}
use Rattle.hwp_page.specs.Step.{Allowed, after, opening_of}

-- the state after entries
abbrev pub state_after : PageState → List Entry → PageState
state_after s entries = fold (λ (t : PageState) (e : Entry). after t e.what) s entries

-- from the first state the entries lead, step by step, to the last
abbrev pub Leads : Layout → Page → PageState → List Entry → PageState → Type 0
Leads layout page s [] t = s ≡ t
Leads layout page s (e ∷ es) t = Allowed layout page s e.what × Leads layout page (after s e.what) es t

-- the state is the replay of the history from the page's opening
pub record IsReplay (layout : Layout) (page : Page) (log : List Entry) (state : PageState) : Type 0 where
  pub kind : PageKind
  pub declared : slice_get layout.pages page.0 ≡ Some kind
  pub leads : Leads layout page (opening_of kind (is_locked layout page)) log state

-- what every body keeps: a sound layout, and a state that is the replay of its history
pub record IsKept (layout : Layout) (page : Page) (log : List Entry) (state : PageState) : Type 0 where
  pub sound : IsSound layout
  pub replay : IsReplay layout page log state

-- what clauses see of a body: `spare` is the number of entries that it can take without memory
pub record BodyValue : Type 0 where
  pub page : Page
  pub layout : Layout
  pub state : PageState
  pub log : List Entry
  pub spare : ℕ

-- a body at opening: no entry, and the opening state of what is declared behind its page
pub record IsFresh (layout : Layout) (page : Page) (body : BodyValue) : Type 0 where
  pub page_is : body.page ≡ page
  pub layout_is : body.layout ≡ layout
  pub no_entry : body.log ≡ []
  pub opening : (kind : PageKind) → slice_get layout.pages page.0 ≡ Some kind → body.state ≡ opening_of kind (is_locked layout page)
