-- In a report whose histories are legal each entry that brings a translation into use names one that can be declared.
use Rattle.std.proofs.Common.{◌≡◌, ◌<◌, ◌≤◌, List, [], ◌∷◌, Option, Some, None, All, IsSomeAnd, length, slice_get, refl, sym, arith}
use Rattle.std.proofs.lemmas.List.Elements.{All-cons, All-nil}
use Rattle.std.proofs.lemmas.Option.{slice_get_within}
use Rattle.hwp_check_evidence.specs.hwp_geom.Layout.{is_locked, IsSound}
use Rattle.hwp_check_evidence.specs.hwp_geom.declared.Layout.{Layout}
use Rattle.hwp_check_evidence.specs.hwp_geom.declared.Page.{Page}
use Rattle.hwp_check_evidence.specs.hwp_geom.declared.TransDecl.{TransDecl}
use Rattle.hwp_check_evidence.specs.hwp_geom.Limits.{translation_limit}
use Rattle.hwp_check_evidence.specs.hwp_page.History.{Leads}
use Rattle.hwp_check_evidence.specs.hwp_page.Step.{Allowed, MapsWithin, after, opening_of}
use Rattle.hwp_check_evidence.specs.hwp_page.declared.Entry.{Entry}
use Rattle.hwp_check_evidence.specs.hwp_page.declared.PageState.{PageState}
use Rattle.hwp_check_evidence.specs.hwp_page.declared.What.{What}
use Rattle.hwp_check_evidence.specs.hwp_page.declared.What.TheVariants as entries
use Rattle.hwp_check_rules.specs.hwp_check_event_line.Scripts.{IsDeclared}
use Rattle.hwp_check_evidence.specs.hwp_script_words.declared.Script.{Script}
use Rattle.hwp_check_evidence.specs.hwp_report_text.declared.Report.{Report}
use Rattle.hwp_check_evidence.specs.Glances.{AreLegalSteps}
use Rattle.hwp_check_rules.specs.Rules.{ShapeFits, AreLegal}

declared : (o : Option TransDecl) (P : TransDecl → Type 0) → IsSomeAnd o P → (t : TransDecl) × (o ≡ Some t)
declared None P some = absurd some
declared (Some t) P some = (t, refl)

slot-within : (layout : Layout) (page : Page) (state : PageState) (what : What) → IsSound layout → Allowed layout page state what → MapsWithin what
slot-within layout page state (entries.Map slot) sound allowed =
    let found = declared (slice_get layout.trans slot.0) (λ (t : TransDecl). t.page ≡ page) allowed.1 in
    let within : slot.0 < length layout.trans = slice_get_within layout.trans slot.0 found.0 found.1 in
    let few : length layout.trans ≤ translation_limit = sound.trans in
    omega (arith, within, few)
slot-within layout page state what sound allowed = record {}

all-within : (layout : Layout) (page : Page) (state last : PageState) (list : List Entry) → IsSound layout → Leads layout page state list last → All (λ (e : Entry). MapsWithin e.what) list
all-within layout page state last [] sound leads = All-nil (λ (e : Entry). MapsWithin e.what)
all-within layout page state last (e ∷ rest) sound leads =
    All-cons (λ (x : Entry). MapsWithin x.what) e rest (slot-within layout page state e.what sound leads.0) (all-within layout page (after state e.what) last rest sound leads.1)

module _ (script : Script) (report : Report) where
  pub legal_steps : AreLegal script report → IsDeclared script → AreLegalSteps report.pages
  legal_steps histories valid page list there =
      let h = histories (record { 0 = page }) list there in
      all-within script.layout (record { 0 = page }) (opening_of h.1.kind (is_locked script.layout (record { 0 = page }))) h.0 list valid.sound h.1.leads

  pub pages_fit : ShapeFits script report → length script.layout.pages ≡ length report.pages
  pages_fit shape = sym shape.pages
