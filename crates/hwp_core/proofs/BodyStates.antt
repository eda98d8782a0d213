-- A body's state is that of its history; and a page that is in no frame has no translation in use.
use Rattle.std.proofs.Common.{◌≡◌, true, false, List, [], ◌∷◌, Option, refl, ap, ◌∙◌, subst}
use Rattle.std.proofs.lemmas.Bool.{both_ways}
use Rattle.std.specs.FinSet as set
use Rattle.std.specs.Ordering.{nat_cmp}
use Rattle.hwp_core_rule.specs.hwp_geom.declared.Layout.{Layout}
use Rattle.hwp_core_rule.specs.hwp_geom.declared.Page.{Page}
use Rattle.hwp_core_rule.specs.hwp_geom.declared.PageKind.{PageKind}
use Rattle.hwp_core_rule.specs.hwp_geom.Layout.{is_locked}
use Rattle.hwp_core_rule.specs.hwp_page.declared.Entry.{Entry}
use Rattle.hwp_core_rule.specs.hwp_page.declared.Met.TheVariants.{Word, Sigbus}
use Rattle.hwp_core_rule.specs.hwp_page.declared.PageState.{PageState}
use Rattle.hwp_core_rule.specs.hwp_page.declared.Situation.{Situation}
use Rattle.hwp_core_rule.specs.hwp_page.declared.Situation.TheVariants as situations
use Rattle.hwp_core_rule.specs.hwp_page.declared.What.{What}
use Rattle.hwp_core_rule.specs.hwp_page.declared.What.TheVariants as entries
use Rattle.hwp_core_rule.specs.hwp_page.Actions.{acted}
use Rattle.hwp_core_rule.specs.hwp_page.History.{IsReplay, Leads, state_after}
use Rattle.hwp_core_rule.specs.hwp_page.Step.{Allowed, after, opening_of}
use Rattle.hwp_core_rule.proofs.of_hwp_page.Histories.{Leads-state}
use Rattle.hwp_core_rule.specs.Logs.{opening_at, state_of}

-- where the page is in no frame, no translation is in use
abbrev IsUnused : PageState → Type 0
IsUnused s = s.cached ≡ false → s.maps ≡ set.empty

unused-acted : (s : PageState) (situation : Situation) → IsUnused s → IsUnused (acted s situation)
unused-acted s situations.Free was = was
unused-acted s situations.Kernel was = was
unused-acted s situations.FileClean was = λ none. refl
unused-acted s situations.FileDirty was = λ none. refl
unused-acted s situations.AnonOnly was = λ none. refl
unused-acted s situations.SwapClean was = λ none. refl
unused-acted s situations.SwapDirty was = λ none. refl
unused-acted s situations.LockedClean was = λ none. refl
unused-acted s situations.LockedFile was = λ none. refl
unused-acted s situations.LockedAnon was = λ none. refl

unused-after : (layout : Layout) (page : Page) (s : PageState) (what : What) → IsUnused s → Allowed layout page s what → IsUnused (after s what)
unused-after layout page s (entries.Load slot line met) was allowed = was
unused-after layout page s (entries.Store slot line (Word mask word)) was allowed = was
unused-after layout page s (entries.Store slot line (Sigbus thread)) was allowed = was
unused-after layout page s entries.FaultIn was allowed = λ none. absurd (both_ways true none refl)
unused-after layout page s (entries.Map slot) was allowed = λ none. absurd (both_ways s.cached none allowed.0)
unused-after layout page s (entries.Free slot) was allowed = λ none. absurd (both_ways (set.contains s.maps slot.0) (ap (λ m. set.contains m slot.0) (was none) ∙ set.contains-empty nat_cmp slot.0) allowed)
unused-after layout page s entries.Drop was allowed = λ none. allowed.unused
unused-after layout page s entries.Sync was allowed = was
unused-after layout page s entries.Out was allowed = λ none. refl
unused-after layout page s (entries.Mce slot line mask) was allowed = was
unused-after layout page s (entries.Fail situation required seen signals) was allowed = unused-acted s situation was
unused-after layout page s entries.Soft was allowed = was

unused-led : (layout : Layout) (page : Page) (s t : PageState) (list : List Entry) → Leads layout page s list t → IsUnused s → IsUnused t
unused-led layout page s t [] leads was = subst IsUnused leads was
unused-led layout page s t (e ∷ es) leads was = unused-led layout page (after s e.what) t es leads.1 (unused-after layout page s e.what was leads.0)

module _ {layout : Layout} {page : Page} {list : List Entry} {state : PageState} (replay : IsReplay layout page list state) where
  -- a body's state is that of its history
  pub replay-state : state_of layout (record { page = page; entries = list }) ≡ state
  replay-state = ap (λ (k : Option PageKind). state_after (opening_at k (is_locked layout page)) list) replay.declared ∙ Leads-state layout page (opening_of replay.kind (is_locked layout page)) state list replay.leads

  -- a page that is in no frame has no translation in use
  pub replay-unused : state.cached ≡ false → state.maps ≡ set.empty
  replay-unused = unused-led layout page (opening_of replay.kind (is_locked layout page)) state list replay.leads (λ none. refl)
