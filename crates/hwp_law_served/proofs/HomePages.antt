-- What is summed over the bodies at home is summed over the histories of the report: each page has one body, at home.
use Rattle.std.proofs.Common.{◌≡◌, ◌≢◌, ℕ, ◌<◌, ◌==◌, eq-eqb, ne_eqb, Bool, cond, List, [], Option, Some, None, length, slice_get, unwrap_or, inl, inr, refl, sym, ap, ◌∙◌, subst}
use Rattle.std.specs.List.{sum_by}
use Rattle.hwp_law.specs.hwp_geom.declared.Layout.{Layout}
use Rattle.hwp_law.specs.hwp_page.declared.Entry.{Entry}
use Rattle.hwp_plain.specs.hwp_core_rule.declared.Log.{Log}
use Rattle.hwp_plain.specs.hwp_core_rule.declared.State.{State}
use Rattle.hwp_plain.specs.hwp_core_rule.Lists.{of_home}
use Rattle.hwp_plain.specs.hwp_core_rule.Words.{sum_below}
use Rattle.hwp_plain.proofs.of_hwp_core_rule.CountsBelow.{below-swap, below-zero}
use Rattle.hwp_plain.proofs.of_hwp_core_rule.Lists.{same-or}
use Rattle.hwp_law.specs.hwp_report_text.declared.Report.{Report}
use Rattle.hwp_law_served.proofs.Histories.{one-body}
use Rattle.hwp_law_served.proofs.Homes.{home-within, there-is}
use Rattle.hwp_law_served.proofs.Reported.{IsLast, home-of}
use Rattle.hwp_law_served.proofs.Sums.{below-one, below-same, list-below, sum-one, sum-same}

-- what g says of a body of this page, and 0 of others
abbrev of_page : (Log → ℕ) → ℕ → Log → ℕ
of_page g q log = cond (log.page.0 == q) (g log) 0

module _ (layout : Layout) (last : State) (report : Report) (l : IsLast layout last report) (g : Log → ℕ) where
  -- what g says of a slot, by pages
  by-page : (slot : ℕ) (content : Option (Option Log)) → slice_get last.homes slot ≡ Some content → of_home g content ≡ sum_below (λ q. of_home (of_page g q) content) (length layout.pages)
  by-page slot None there = sym (below-zero (λ q. 0) (length layout.pages) (λ q before. refl))
  by-page slot (Some None) there = sym (below-zero (λ q. 0) (length layout.pages) (λ q before. refl))
  by-page slot (Some (Some log)) there = sym (below-one log.page.0 (g log) (length layout.pages) (home-within layout last l.holds log slot there))

  -- one slot has the page's body
  one-page : (q : ℕ) (entries : List Entry) → slice_get report.pages q ≡ Some entries → sum_by (of_home (of_page g q)) last.homes ≡ g (record { page = record { 0 = q }; entries = entries })
  one-page q entries there =
      let log : Log = record { page = record { 0 = q }; entries = entries } in
      let home = home-of layout last report l (record { 0 = q }) entries there in
      sum-one (of_home (of_page g q)) last.homes home.0 (Some (Some log)) home.1 (others home.0 home.1)
      ∙ ap (λ (b : Bool). cond b (g log) 0) (eq-eqb q q refl)
    where
      others : (slot : ℕ) → slice_get last.homes slot ≡ Some (Some (Some (record { page = record { 0 = q }; entries = entries })))
          → (j : ℕ) (content : Option (Option Log)) → j ≢ slot → slice_get last.homes j ≡ Some content → of_home (of_page g q) content ≡ 0
      others slot home j None differs at = refl
      others slot home j (Some None) differs at = refl
      others slot home j (Some (Some log)) differs at = elim (same-or log.page.0 q) [
        | inl same ↦ absurd (differs (one-body layout last l.holds l.empty j slot log (record { page = record { 0 = q }; entries = entries }) (home-within layout last l.holds log j at) at home (ap (λ (n : ℕ). record { 0 = n }) same)))
        | inr other ↦ ap (λ (b : Bool). cond b (g log) 0) (ne_eqb log.page.0 q other)
      ]

  -- the sum over the bodies at home, where h says of each page what g says of its history
  pub home-sum : (h : ℕ → ℕ) → ((q : ℕ) (entries : List Entry) → slice_get report.pages q ≡ Some entries → g (record { page = record { 0 = q }; entries = entries }) ≡ h q)
      → sum_by (of_home g) last.homes ≡ sum_below h (length report.pages)
  home-sum h each =
      sum-same (of_home g) (λ (content : Option (Option Log)). sum_below (λ q. of_home (of_page g q) content) (length layout.pages)) last.homes by-page
      ∙ sym (below-swap (λ (q : ℕ) (content : Option (Option Log)). of_home (of_page g q) content) last.homes (length layout.pages))
      ∙ below-same (λ q. sum_by (of_home (of_page g q)) last.homes) h (length layout.pages) (λ q before.
      let told = there-is report.pages q (subst (λ (n : ℕ). q < n) (sym l.pages_fit) before) in
      one-page q told.0 told.1 ∙ each q told.0 told.1)
      ∙ ap (sum_below h) (sym l.pages_fit)

  -- where it says the same of each history
  pub home-pages : (f : List Entry → ℕ) → ((q : ℕ) (entries : List Entry) → slice_get report.pages q ≡ Some entries → g (record { page = record { 0 = q }; entries = entries }) ≡ f entries) → sum_by (of_home g) last.homes ≡ sum_by f report.pages
  home-pages f each =
      home-sum (λ q. f (unwrap_or (slice_get report.pages q) [])) (λ q entries there. each q entries there ∙ ap (λ (o : Option (List Entry)). f (unwrap_or o [])) (sym there))
      ∙ sym (list-below f (λ q. f (unwrap_or (slice_get report.pages q) [])) report.pages (λ q entries there. ap (λ (o : Option (List Entry)). f (unwrap_or o [])) (sym there)))
