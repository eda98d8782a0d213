-- Where the histories of a report are wrong first.
use Rattle.std.proofs.Common.{◌≡◌, ℕ, zero, suc, ◌+◌, ◌^◌, ◌<◌, ◌≤◌, ◌⊎◌, inl, inr, List, [], ◌∷◌, Option, Some, None, length, take, sum_by, slice_get, unwrap_or, option_and_then, refl, sym, ap, ◌∙◌, subst, arith}
use Rattle.std.proofs.lemmas.Bool.{cases_lt}
use Rattle.std.proofs.lemmas.List.{take-take, take_all}
use Rattle.std.proofs.lemmas.List.Sums.{sum_by_more, sum_by-take-le}
use Rattle.std.proofs.lemmas.Option.{get_or_from_slice_get, none-some, same_Some, slice_get_within}
use Rattle.hwp_check_rules.specs.hwp_geom.Layout.{is_locked}
use Rattle.hwp_check_rules.specs.hwp_geom.declared.Layout.{Layout}
use Rattle.hwp_check_rules.specs.hwp_geom.declared.Page.{Page}
use Rattle.hwp_check_rules.specs.hwp_geom.declared.PageKind.{PageKind}
use Rattle.hwp_check_rules.specs.hwp_page.Step.{Allowed, after, opening_of}
use Rattle.hwp_check_rules.specs.hwp_page.History.{IsReplay, Leads, state_after}
use Rattle.hwp_check_rules.specs.hwp_page.declared.At.{At}
use Rattle.hwp_check_rules.specs.hwp_page.declared.Entry.{Entry}
use Rattle.hwp_check_rules.specs.hwp_page.declared.PageState.{PageState}
use Rattle.hwp_check_rules.proofs.of_hwp_page.Histories.{Leads-state}
use Rattle.hwp_check_rules.specs.hwp_script_words.declared.Script.{Script}
use Rattle.hwp_check_rules.specs.hwp_report_text.declared.Report.{Report}
use Rattle.hwp_check_rules.specs.hwp_law.Entries.{IsMadeBy}
use Rattle.hwp_check_rules.specs.hwp_law.Places.{entry_at}
use Rattle.hwp_check_rules.specs.Faults.{IsBarred, IsBehind, IsHistoryFault}
use Rattle.hwp_check_state.specs.Histories.{FirstFit, IsFirstWrong, IsWrongAt, PageFits}
use Rattle.hwp_check_rules.specs.Rules.{HistoriesFit}
use Rattle.hwp_check_rules.specs.Standing.{entry_height, entry_line, last_line, page_height, page_line}
use Rattle.hwp_check_rules.specs.Firsts.{IsFirstFault}
use Rattle.hwp_check_rules.specs.hwp_geom.declared.VSlot.{VSlot}
use Rattle.hwp_check_rules.specs.hwp_geom.declared.Who.{Who}

-- an entry of a history, by its place
pub record StandsAs (pages : List (List Entry)) (at : At) (e : Entry) : Type 0 where
  pub entries : List Entry
  pub page : slice_get pages at.page.0 ≡ Some entries
  pub there : slice_get entries at.entry ≡ Some e

stands-as : (pages : List (List Entry)) (at : At) (e : Entry) → entry_at pages at ≡ Some e → StandsAs pages at e
stands-as pages at e is = by (slice_get pages at.page.0) refl is
  where
    by : (o : Option (List Entry)) → slice_get pages at.page.0 ≡ o → option_and_then (λ (entries : List Entry). slice_get entries at.entry) o ≡ Some e → StandsAs pages at e
    by None page there = absurd (none-some e there)
    by (Some entries) page there = record { entries = entries; page = page; there = there }

stands : (pages : List (List Entry)) (page n : ℕ) (entries : List Entry) (e : Entry) → slice_get pages page ≡ Some entries → slice_get entries n ≡ Some e
    → entry_at pages (record { page = record { 0 = page }; entry = n }) ≡ Some e
stands pages page n entries e is there = ap (option_and_then (λ (es : List Entry). slice_get es n)) is ∙ there

-- each entry of a legal history is allowed
leads-allowed : (layout : Layout) (page : Page) (s t : PageState) (es : List Entry) (n : ℕ) (e : Entry) → Leads layout page s es t → slice_get es n ≡ Some e
    → Allowed layout page (state_after s (take n es)) e.what
leads-allowed layout page s t [] n e leads there = absurd (none-some e there)
leads-allowed layout page s t (x ∷ es) zero e leads there = subst (λ (y : Entry). Allowed layout page s y.what) (same_Some _ _ there) leads.0
leads-allowed layout page s t (x ∷ es) (suc n) e leads there = leads-allowed layout page (after s x.what) t es n e leads.1 there

slice_get-take : {A : Type 0} (xs : List A) (n i : ℕ) → i < n → slice_get (take n xs) i ≡ slice_get xs i
slice_get-take [] zero i low = refl
slice_get-take [] (suc n) i low = refl
slice_get-take (x ∷ xs) zero i low = absurd (omega (arith, low))
slice_get-take (x ∷ xs) (suc n) zero low = refl
slice_get-take (x ∷ xs) (suc n) (suc i) low = slice_get-take xs n i (omega (arith, low))

allowed-in : (layout : Layout) (page : Page) (entries : List Entry) (n : ℕ) (state : PageState) → IsReplay layout page (take n entries) state
    → (i : ℕ) (e : Entry) → i < n → slice_get entries i ≡ Some e → (kind : PageKind) → slice_get layout.pages page.0 ≡ Some kind
    → Allowed layout page (state_after (opening_of kind (is_locked layout page)) (take i entries)) e.what
allowed-in layout page entries n state replay i e low there kind declared =
    let same : replay.kind ≡ kind = same_Some _ _ (sym replay.declared ∙ declared) in
    let got : Allowed layout page (state_after (opening_of replay.kind (is_locked layout page)) (take i (take n entries))) e.what =
    leads-allowed layout page (opening_of replay.kind (is_locked layout page)) state (take n entries) i e replay.leads (slice_get-take entries n i low ∙ there) in
    let short : take i (take n entries) ≡ take i entries = take-take i n entries (omega arith) in
    subst (λ (k : PageKind). Allowed layout page (state_after (opening_of k (is_locked layout page)) (take i entries)) e.what) same
    (subst (λ (es : List Entry). Allowed layout page (state_after (opening_of replay.kind (is_locked layout page)) es) e.what) short got)

-- what is wrong with an entry
abbrev IsFaultAt : Script → (Who → Option VSlot) → Report → At → Entry → Type 0
IsFaultAt script copies report at e = IsBarred script report at e ⊎ (IsMadeBy script copies at.page e → ⊥) ⊎ IsBehind report at e

-- nothing is among entries that fit
no-fault : {copies : Who → Option VSlot} (script : Script) (report : Report) (at : At) (e : Entry) (entries : List Entry) (n : ℕ) (state : PageState)
    → slice_get report.pages at.page.0 ≡ Some entries → FirstFit script copies at.page entries n state → at.entry < n → slice_get entries at.entry ≡ Some e
    → IsFaultAt script copies report at e → ⊥
no-fault script report at e entries n state page fits low there fault = elim fault [
  | inl barred ↦
      let same : entries ≡ barred.entries = same_Some _ _ (sym page ∙ barred.there) in
      barred.barred
      (subst (λ (es : List Entry). Allowed script.layout at.page (state_after (opening_of barred.kind (is_locked script.layout at.page)) (take at.entry es)) e.what) same
      (allowed-in script.layout at.page entries n state fits.replay at.entry e low there barred.kind barred.declared))
  | inr rest ↦ elim rest [
    | inl unmade ↦ unmade (fits.made at.entry e low there)
    | inr behind ↦
        let other = stands-as report.pages behind.earlier behind.other behind.there in
        let same : other.entries ≡ entries = same_Some _ _ (sym other.page ∙ ap (λ (p : Page). slice_get report.pages p.0) behind.same_page ∙ page) in
        let one : slice_get entries behind.earlier.entry ≡ Some behind.other = subst (λ (es : List Entry). slice_get es behind.earlier.entry ≡ Some behind.other) same other.there in
        let rises : behind.other.who.seq ≤ e.who.seq = fits.ordered behind.earlier.entry at.entry behind.other e behind.before low one there behind.same_cpu in
        let falls : e.who.seq < behind.other.who.seq = behind.falls in
        omega arith
  ]
]

-- the pages below this number fit
abbrev pub FitBelow : Script → (Who → Option VSlot) → Report → ℕ → Type 0
FitBelow script copies report n = (page : ℕ) (entries : List Entry) → page < n → slice_get report.pages page ≡ Some entries → PageFits script copies (record { 0 = page }) entries

whole-replay : (layout : Layout) (page : Page) (entries : List Entry) (state : PageState) → IsReplay layout page (take (length entries) entries) state → IsReplay layout page entries state
whole-replay layout page entries state replay = subst (λ (es : List Entry). IsReplay layout page es state) (take_all (length entries) entries (omega arith)) replay

same-page : (pages : List (List Entry)) (one other : Page) (entries others : List Entry) → one ≡ other
    → slice_get pages one.0 ≡ Some entries → slice_get pages other.0 ≡ Some others → others ≡ entries
same-page pages one other entries others same is are = same_Some _ _ (sym are ∙ ap (λ (p : Page). slice_get pages p.0) (sym same) ∙ is)

-- where all pages fit, the rule holds
pub all-fit : {copies : Who → Option VSlot} (script : Script) (report : Report) (n : ℕ) → FitBelow script copies report n → length report.pages ≤ n → HistoriesFit script copies report
all-fit script report n below all = record {
  legal = λ page entries there.
      let within : page.0 < length report.pages = slice_get_within report.pages page.0 entries there in
      let fits = below page.0 entries (omega (arith, all)) there in
      (fits.0, whole-replay script.layout page entries fits.0 fits.1.replay);
  made = λ at e is.
      let s = stands-as report.pages at e is in
      let within : at.page.0 < length report.pages = slice_get_within report.pages at.page.0 s.entries s.page in
      let fits = below at.page.0 s.entries (omega (arith, all)) s.page in
      fits.1.made at.entry e (slice_get_within s.entries at.entry e s.there) s.there;
  ordered = λ at later e f one other same before same_cpu.
      let s = stands-as report.pages at e one in
      let t = stands-as report.pages later f other in
      let within : at.page.0 < length report.pages = slice_get_within report.pages at.page.0 s.entries s.page in
      let fits = below at.page.0 s.entries (omega (arith, all)) s.page in
      let are : t.entries ≡ s.entries = same-page report.pages at.page later.page s.entries t.entries same s.page t.page in
      let there : slice_get s.entries later.entry ≡ Some f = subst (λ (es : List Entry). slice_get es later.entry ≡ Some f) are t.there in
      fits.1.ordered at.entry later.entry e f before (slice_get_within s.entries later.entry f there) s.there there same_cpu;
}

-- an entry that is wrong refutes the rule
refutes : {copies : Who → Option VSlot} (script : Script) (report : Report) (p : ℕ) (entries : List Entry) (n : ℕ) → slice_get report.pages p ≡ Some entries
    → IsFirstWrong script copies (record { 0 = p }) entries n → HistoriesFit script copies report → ⊥
refutes script report p entries n page wrong fit = elim wrong.wrong [
  | inl barred ↦
      let legal = fit.legal (record { 0 = p }) entries page in
      let replay : IsReplay script.layout (record { 0 = p }) (take (length entries) entries) legal.0 =
      subst (λ (es : List Entry). IsReplay script.layout (record { 0 = p }) es legal.0) (sym (take_all (length entries) entries (omega arith))) legal.1 in
      let allowed = allowed-in script.layout (record { 0 = p }) entries (length entries) legal.0 replay n wrong.entry (slice_get_within entries n wrong.entry wrong.there) wrong.there
      wrong.before.replay.kind wrong.before.replay.declared in
      let state_is = Leads-state script.layout (record { 0 = p }) (opening_of wrong.before.replay.kind (is_locked script.layout (record { 0 = p }))) wrong.state (take n entries) wrong.before.replay.leads in
      barred (subst (λ (s : PageState). Allowed script.layout (record { 0 = p }) s wrong.entry.what) state_is allowed)
  | inr rest ↦ elim rest [
    | inl unmade ↦ unmade (fit.made (record { page = record { 0 = p }; entry = n }) wrong.entry (stands report.pages p n entries wrong.entry page wrong.there))
    | inr behind ↦
        let rises : behind.other.who.seq ≤ wrong.entry.who.seq =
        fit.ordered (record { page = record { 0 = p }; entry = behind.earlier }) (record { page = record { 0 = p }; entry = n }) behind.other wrong.entry
        (stands report.pages p behind.earlier entries behind.other page behind.there) (stands report.pages p n entries wrong.entry page wrong.there) refl behind.before behind.same_cpu in
        let falls : wrong.entry.who.seq < behind.other.who.seq = behind.falls in
        omega arith
  ]
]

as-fault : {copies : Who → Option VSlot} (script : Script) (report : Report) (p : ℕ) (entries : List Entry) (n : ℕ) → slice_get report.pages p ≡ Some entries
    → (wrong : IsFirstWrong script copies (record { 0 = p }) entries n) → IsFaultAt script copies report (record { page = record { 0 = p }; entry = n }) wrong.entry
as-fault script report p entries n page wrong = elim wrong.wrong [
  | inl barred ↦
      let state_is = Leads-state script.layout (record { 0 = p }) (opening_of wrong.before.replay.kind (is_locked script.layout (record { 0 = p }))) wrong.state (take n entries) wrong.before.replay.leads in
      inl (record {
        kind = wrong.before.replay.kind;
        entries = entries;
        declared = wrong.before.replay.declared;
        there = page;
        barred = λ allowed. barred (subst (λ (s : PageState). Allowed script.layout (record { 0 = p }) s wrong.entry.what) state_is allowed);
      })
  | inr rest ↦ elim rest [
    | inl unmade ↦ inr (inl unmade)
    | inr behind ↦ inr (inr (record {
      earlier = record { page = record { 0 = p }; entry = behind.earlier };
      other = behind.other;
      there = stands report.pages p behind.earlier entries behind.other page behind.there;
      same_page = refl;
      before = behind.before;
      same_cpu = behind.same_cpu;
      falls = behind.falls;
    }))
  ]
]

-- lines further down are higher
sum-rises : {A : Type 0} (f : A → ℕ) (xs : List A) (a b : ℕ) → a ≤ b → sum_by f (take a xs) ≤ sum_by f (take b xs)
sum-rises f xs a b low = subst (λ t. sum_by f t ≤ sum_by f (take b xs)) (take-take a b xs low) (sum_by-take-le f (take b xs) a)

page-next : (report : Report) (p : ℕ) (entries : List Entry) → slice_get report.pages p ≡ Some entries
    → page_line report (p + 1) ≡ page_line report p + 1 + sum_by entry_height entries
page-next report p entries page =
    let more : sum_by page_height (take (p + 1) report.pages) ≡ sum_by page_height (take p report.pages) + page_height entries =
    sum_by_more page_height report.pages p entries (slice_get_within report.pages p entries page)
    ∙ ap (λ (es : List Entry). sum_by page_height (take p report.pages) + page_height es) (get_or_from_slice_get report.pages p entries entries page) in
    omega arith

page-rises : (report : Report) (p q : ℕ) → p ≤ q → page_line report p ≤ page_line report q
page-rises report p q low = let s = sum-rises page_height report.pages p q low in omega (arith, s)

entry-line : (report : Report) (at : At) (entries : List Entry) → slice_get report.pages at.page.0 ≡ Some entries
    → entry_line report at ≡ page_line report at.page.0 + 1 + sum_by entry_height (take at.entry entries)
entry-line report at entries page = ap (λ (o : Option (List Entry)). page_line report at.page.0 + 1 + sum_by entry_height (take at.entry (unwrap_or o []))) page

-- no fault stands above the first entry that is wrong
first-fault : {copies : Who → Option VSlot} (script : Script) (report : Report) (p : ℕ) (entries : List Entry) (line : ℕ) → slice_get report.pages p ≡ Some entries → FitBelow script copies report p
    → IsWrongAt script copies (record { 0 = p }) entries (page_line report p) line → (other : ℕ) → IsHistoryFault script copies report other → line ≤ other
first-fault {copies = copies} script report p entries line page below wrong other fault =
    let s = stands-as report.pages fault.at fault.entry fault.there in
    let inside : fault.at.entry < length s.entries = slice_get_within s.entries fault.at.entry fault.entry s.there in
    let line_is : line ≡ page_line report p + 1 + sum_by entry_height (take wrong.0 entries) = wrong.2 in
    let other_is : other ≡ page_line report fault.at.page.0 + 1 + sum_by entry_height (take fault.at.entry s.entries) = fault.line_is ∙ entry-line report fault.at s.entries s.page in
    elim (cases_lt fault.at.page.0 p) [
      | inl low ↦
          let fits = below fault.at.page.0 s.entries low s.page in
          absurd (no-fault script report fault.at fault.entry s.entries (length s.entries) fits.0 s.page fits.1 inside s.there fault.wrong)
      | inr high ↦ elim (cases_lt p fault.at.page.0) [
        | inl past ↦
            let rises : page_line report (p + 1) ≤ page_line report fault.at.page.0 = page-rises report (p + 1) fault.at.page.0 (omega (arith, past)) in
            let next : page_line report (p + 1) ≡ page_line report p + 1 + sum_by entry_height entries = page-next report p entries page in
            let part : sum_by entry_height (take wrong.0 entries) ≤ sum_by entry_height entries = sum_by-take-le entry_height entries wrong.0 in
            up-to line other (page_line report p) (page_line report (p + 1)) (page_line report fault.at.page.0) (sum_by entry_height (take wrong.0 entries)) (sum_by entry_height entries)
            (sum_by entry_height (take fault.at.entry s.entries)) line_is other_is rises next part
        | inr not_past ↦
            let same : p ≡ fault.at.page.0 = omega (arith, high, not_past) in
            let are : s.entries ≡ entries = same_Some _ _ (sym s.page ∙ ap (λ (q : ℕ). slice_get report.pages q) (sym same) ∙ page) in
            elim (cases_lt fault.at.entry wrong.0) [
              | inl before ↦
                  let fits : FirstFit script copies fault.at.page entries wrong.0 wrong.1.state = subst (λ (q : ℕ). FirstFit script copies (record { 0 = q }) entries wrong.0 wrong.1.state) same wrong.1.before in
                  absurd (no-fault script report fault.at fault.entry entries wrong.0 wrong.1.state (s.page ∙ ap Some are) fits before
                  (subst (λ (es : List Entry). slice_get es fault.at.entry ≡ Some fault.entry) are s.there) fault.wrong)
              | inr after ↦
                  let part : sum_by entry_height (take wrong.0 entries) ≤ sum_by entry_height (take fault.at.entry entries) = sum-rises entry_height entries wrong.0 fault.at.entry after in
                  let there : sum_by entry_height (take fault.at.entry s.entries) ≡ sum_by entry_height (take fault.at.entry entries) = ap (λ (es : List Entry). sum_by entry_height (take fault.at.entry es)) are in
                  let page_is : page_line report p ≡ page_line report fault.at.page.0 = ap (page_line report) same in
                  beside line other (page_line report p) (page_line report fault.at.page.0) (sum_by entry_height (take wrong.0 entries)) (sum_by entry_height (take fault.at.entry entries))
                  (sum_by entry_height (take fault.at.entry s.entries)) line_is other_is page_is part there
            ]
      ]
    ]
  where
    up-to : (line other p next q a b c : ℕ) → line ≡ p + 1 + a → other ≡ q + 1 + c → next ≤ q → next ≡ p + 1 + b → a ≤ b → line ≤ other
    up-to line other p next q a b c l o r n e = omega arith

    beside : (line other p q a b c : ℕ) → line ≡ p + 1 + a → other ≡ q + 1 + c → p ≡ q → a ≤ b → c ≡ b → line ≤ other
    beside line other p q a b c l o s e t = omega arith

-- the rule is broken where the first page that doesn't fit says it
broken-at : {copies : Who → Option VSlot} (script : Script) (report : Report) (p : ℕ) (entries : List Entry) (line : ℕ) → slice_get report.pages p ≡ Some entries → FitBelow script copies report p
    → IsWrongAt script copies (record { 0 = p }) entries (page_line report p) line → IsFirstFault (HistoriesFit script copies report) (IsHistoryFault script copies report) line
broken-at script report p entries line page below wrong = record {
  broken = refutes script report p entries wrong.0 page wrong.1;
  at = record {
    at = record { page = record { 0 = p }; entry = wrong.0 };
    entry = wrong.1.entry;
    there = stands report.pages p wrong.0 entries wrong.1.entry page wrong.1.there;
    line_is = wrong.2 ∙ sym (entry-line report (record { page = record { 0 = p }; entry = wrong.0 }) entries page);
    wrong = as-fault script report p entries wrong.0 page wrong.1;
  };
  first = first-fault script report p entries line page below wrong;
}

-- the pages below the next number fit
fit-next : {copies : Who → Option VSlot} (script : Script) (report : Report) (p : ℕ) (entries : List Entry) → slice_get report.pages p ≡ Some entries → FitBelow script copies report p
    → PageFits script copies (record { 0 = p }) entries → FitBelow script copies report (p + 1)
fit-next {copies = copies} script report p entries page below fits q others low there = elim (cases_lt q p) [
  | inl under ↦ below q others under there
  | inr not_under ↦
      let same : p ≡ q = omega (arith, low, not_under) in
      let are : entries ≡ others = same_Some _ _ (sym page ∙ ap (λ (k : ℕ). slice_get report.pages k) same ∙ there) in
      subst (λ (k : ℕ). PageFits script copies (record { 0 = k }) others) same (subst (λ (es : List Entry). PageFits script copies (record { 0 = p }) es) are fits)
]

-- where the walk over the pages has come to
pub record Come (script : Script) (copies : Who → Option VSlot) (report : Report) (n line : ℕ) : Type 0 where
  pub below : FitBelow script copies report n
  pub line_is : line ≡ page_line report n

-- the page's lines are within the report's
pub come-room : {copies : Who → Option VSlot} {script : Script} {report : Report} {n line : ℕ} (entries : List Entry) → Come script copies report n line → slice_get report.pages n ≡ Some entries → last_line report < 2 ^ 64
    → line + 1 + sum_by entry_height entries < 2 ^ 64
come-room {report = report} {n = n} {line = line} entries come page room =
    let is : line ≡ page_line report n = come.line_is in
    let next : page_line report (n + 1) ≡ page_line report n + 1 + sum_by entry_height entries = page-next report n entries page in
    let less : sum_by page_height (take (n + 1) report.pages) ≤ sum_by page_height report.pages = sum_by-take-le page_height report.pages (n + 1) in
    omega (arith, is, next, less, room)

pub come-next : {copies : Who → Option VSlot} {script : Script} {report : Report} {n line : ℕ} (entries : List Entry) (next : ℕ) → Come script copies report n line → slice_get report.pages n ≡ Some entries
    → PageFits script copies (record { 0 = n }) entries → next ≡ line + 1 + sum_by entry_height entries → Come script copies report (n + 1) next
come-next {script = script} {report = report} {n = n} {line = line} entries next come page fits is = record {
  below = fit-next script report n entries page come.below fits;
  line_is = is ∙ ap (λ (k : ℕ). k + 1 + sum_by entry_height entries) come.line_is ∙ sym (page-next report n entries page);
}

pub come-wrong : {copies : Who → Option VSlot} {script : Script} {report : Report} {n line : ℕ} (entries : List Entry) (at : ℕ) → Come script copies report n line → slice_get report.pages n ≡ Some entries
    → IsWrongAt script copies (record { 0 = n }) entries line at → IsFirstFault (HistoriesFit script copies report) (IsHistoryFault script copies report) at
come-wrong {copies = copies} {script = script} {report = report} {n = n} {line = line} entries at come page wrong =
    broken-at script report n entries at page come.below (subst (λ (k : ℕ). IsWrongAt script copies (record { 0 = n }) entries k at) come.line_is wrong)
