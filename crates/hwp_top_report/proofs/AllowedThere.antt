-- Each entry of a legal history was allowed in the state of its page at the entry's place.
use Rattle.std.proofs.Common.{◌≡◌, ℕ, zero, suc, ◌<◌, List, [], ◌∷◌, Some, length, take, slice_get, subst, arith}
use Rattle.std.proofs.lemmas.Option.{none-some, same_Some, slice_get_within}
use Rattle.hwp_law_served.specs.hwp_geom.declared.Layout.{Layout}
use Rattle.hwp_law_served.specs.hwp_geom.declared.Page.{Page}
use Rattle.hwp_law_served.specs.hwp_page.declared.At.{At}
use Rattle.hwp_law_served.specs.hwp_page.declared.Entry.{Entry}
use Rattle.hwp_law_served.specs.hwp_page.declared.PageState.{PageState}
use Rattle.hwp_law_served.specs.hwp_page.declared.What.{What}
use Rattle.hwp_law_served.specs.hwp_page.History.{Leads, state_after}
use Rattle.hwp_law_served.specs.hwp_page.Step.{Allowed, after}
use Rattle.hwp_law_served.specs.hwp_report_text.declared.Report.{Report}
use Rattle.hwp_law_served.specs.hwp_law.Places.{entry_at}
use Rattle.hwp_law_served.specs.hwp_law.PageHistory.{IsHistory}
use Rattle.hwp_law_served.specs.hwp_law.States.{HadState}
use Rattle.hwp_law_served.proofs.Reported.{stands-in}

-- an entry is allowed after those before it
allowed-after : (layout : Layout) (page : Page) (s t : PageState) (list : List Entry) (i : ℕ) (e : Entry) → Leads layout page s list t → slice_get list i ≡ Some e → Allowed layout page (state_after s (take i list)) e.what
allowed-after layout page s t [] i e leads there = absurd (none-some e there)
allowed-after layout page s t (x ∷ xs) zero e leads there = subst (λ (y : Entry). Allowed layout page s y.what) (same_Some x e there) leads.0
allowed-after layout page s t (x ∷ xs) (suc i) e leads there = allowed-after layout page (after s x.what) t xs i e leads.1 there

-- the page of an entry had a state that allows it
pub allowed-there : (layout : Layout) (report : Report) → ((page : Page) (list : List Entry) → slice_get report.pages page.0 ≡ Some list → IsHistory layout report.frames page list) → (at : At) (e : Entry) (what : What) → entry_at report.pages at ≡ Some e
    → e.what ≡ what → HadState layout report.pages at (λ (s : PageState). Allowed layout at.page s what)
allowed-there layout report legal at e what is what_is =
    let a = stands-in report.pages at e is in
    let history = legal at.page a.entries a.history in
    let inside : at.entry < length a.entries = slice_get_within a.entries at.entry e a.there in
    record {
      kind = history.replay.kind;
      entries = a.entries;
      declared = history.replay.declared;
      there = a.history;
      within = omega (arith, inside);
      had = subst (Allowed layout at.page (state_after _ (take at.entry a.entries))) what_is (allowed-after layout at.page _ history.state a.entries at.entry e history.replay.leads a.there);
    }

-- and so one from which something else follows
pub had-so : {layout : Layout} {pages : List (List Entry)} {at : At} (P Q : PageState → Type 0) → ((s : PageState) → P s → Q s) → HadState layout pages at P → HadState layout pages at Q
had-so P Q so was = record { kind = was.kind; entries = was.entries; declared = was.declared; there = was.there; within = was.within; had = so _ was.had }
