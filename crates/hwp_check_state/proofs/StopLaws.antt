-- When the stop of a report fits, by what is found of all its processors.
use Rattle.std.proofs.Common.{◌≡◌, ℕ, zero, suc, Bool, true, false, ◌&&◌, ◌||◌, List, [], ◌∷◌, Option, Some, None, IfSome, IsSome, slice_get, true≢false, refl, sym, ap, ◌∙◌, subst, arith}
use Rattle.std.proofs.lemmas.Option.{same_Some, none-some}
use Rattle.hwp_check_rules.specs.hwp_script_words.declared.Script.{Script}
use Rattle.hwp_check_rules.specs.hwp_report_text.declared.Answer.TheVariants as answers
use Rattle.hwp_check_rules.specs.hwp_report_text.declared.CpuLine.{CpuLine}
use Rattle.hwp_check_rules.specs.hwp_report_text.declared.CpuLine.TheVariants as lines
use Rattle.hwp_check_rules.specs.hwp_report_text.declared.Report.{Report}
use Rattle.hwp_check_rules.specs.hwp_report_text.declared.Stop.{Stop as StopRecord}
use Rattle.hwp_check_rules.specs.hwp_law.Halts.{IsStopOf}
use Rattle.hwp_check_rules.specs.hwp_law.Stops.{StaysStopped}
use Rattle.hwp_check_rules.specs.Rules.{StopFits}
use Rattle.hwp_check_state.specs.Stopping.{IsCausedStop, all_stay, has_stopped, some_stopped, stays}
use Rattle.hwp_check_state.proofs.StopScans.{has-is, is-has, stays-is}
use Rattle.hwp_check_rules.specs.Firsts.{IsFirstFault}
use Rattle.hwp_check_rules.specs.Faults.{IsStopFault}

both : (a b : Bool) → (a && b) ≡ true → (a ≡ true) × (b ≡ true)
both true b e = (refl, e)
both false b e = absurd (true≢false (sym e))

stay-at : (cpus : List (List CpuLine)) → all_stay cpus ≡ true → (i : ℕ) (rows : List CpuLine) → slice_get cpus i ≡ Some rows → StaysStopped rows
stay-at [] h i rows is = absurd (none-some _ is)
stay-at (r ∷ rs) h zero rows is = subst StaysStopped (same_Some _ _ is) ((stays-is r).0 (both (stays false r) (all_stay rs) h).0)
stay-at (r ∷ rs) h (suc i) rows is = stay-at rs (both (stays false r) (all_stay rs) h).1 i rows is

at-stay : (cpus : List (List CpuLine)) → ((i : ℕ) (rows : List CpuLine) → slice_get cpus i ≡ Some rows → StaysStopped rows) → all_stay cpus ≡ true
at-stay [] each = refl
at-stay (r ∷ rs) each = ap (λ (b : Bool). b && all_stay rs) ((stays-is r).1 (each 0 r refl)) ∙ at-stay rs (λ i rows is. each (suc i) rows is)

stopped-at : (cpus : List (List CpuLine)) (i : ℕ) (rows : List CpuLine) (row seq : ℕ) → slice_get cpus i ≡ Some rows → slice_get rows row ≡ Some (lines.Answer seq answers.Stopped) → some_stopped cpus ≡ true
stopped-at [] i rows row seq is there = absurd (none-some _ is)
stopped-at (r ∷ rs) zero rows row seq is there = ap (λ (b : Bool). b || some_stopped rs) (is-has r row seq (subst (λ (x : List CpuLine). slice_get x row ≡ Some (lines.Answer seq answers.Stopped)) (sym (same_Some _ _ is)) there))
stopped-at (r ∷ rs) (suc i) rows row seq is there = or-right (has_stopped r) (some_stopped rs) (stopped-at rs i rows row seq is there)
  where
    or-right : (a b : Bool) → b ≡ true → (a || b) ≡ true
    or-right true b e = refl
    or-right false b e = e

some-at : (cpus : List (List CpuLine)) → some_stopped cpus ≡ true → (i : ℕ) × (rows : List CpuLine) × (row : ℕ) × (seq : ℕ) × (slice_get cpus i ≡ Some rows) × (slice_get rows row ≡ Some (lines.Answer seq answers.Stopped))
some-at [] h = absurd (true≢false (sym h))
some-at (r ∷ rs) h = at (has_stopped r) refl h (some-at rs)
  where
    at : (b : Bool) → has_stopped r ≡ b → (b || some_stopped rs) ≡ true → (some_stopped rs ≡ true → (i : ℕ) × (rows : List CpuLine) × (row : ℕ) × (seq : ℕ) × (slice_get rs i ≡ Some rows) × (slice_get rows row ≡ Some (lines.Answer seq answers.Stopped))) → (i : ℕ) × (rows : List CpuLine) × (row : ℕ) × (seq : ℕ) × (slice_get (r ∷ rs) i ≡ Some rows) × (slice_get rows row ≡ Some (lines.Answer seq answers.Stopped))
    at true here e more = let o = has-is r here in (0, r, o.0, o.1, refl, o.2)
    at false here e more = let o = more e in (suc o.0, o.1, o.2, o.3, o.4, o.5)

module _ (script : Script) (report : Report) where
  -- the rule holds where all that is found is as it should be
  pub stop_fits : (some_stopped report.cpus ≡ true → IsSome report.stop) → IsCausedStop script report → all_stay report.cpus ≡ true → StopFits script report
  stop_fits told caused stay = record {
    told = λ cpu rows row seq is there. told (stopped-at report.cpus cpu.0 rows row seq is there);
    caused = λ stop is. subst (λ (o : Option StopRecord). IfSome o (IsStopOf script report)) is caused;
    stays = λ cpu rows is. stay-at report.cpus stay cpu.0 rows is;
  }

  -- and what is found is as it should be where the rule holds
  pub fits_told : StopFits script report → some_stopped report.cpus ≡ true → IsSome report.stop
  fits_told fits h = let o = some-at report.cpus h in fits.told (record { 0 = o.0 }) o.1 o.2 o.3 o.4 o.5

  pub fits_caused : StopFits script report → IsCausedStop script report
  fits_caused fits = at report.stop fits.caused
    where
      at : (o : Option StopRecord) → ((stop : StopRecord) → o ≡ Some stop → IsStopOf script report stop) → IfSome o (IsStopOf script report)
      at None all = tt
      at (Some stop) all = all stop refl

  pub fits_stay : StopFits script report → all_stay report.cpus ≡ true
  fits_stay fits = at-stay report.cpus (λ i rows is. fits.stays (record { 0 = i }) rows is)

  pub stop_broken : (StopFits script report → ⊥) → IsFirstFault (StopFits script report) (IsStopFault script report) 2
  stop_broken wrong = record { broken = wrong; at = (wrong, refl); first = λ other fault. let is : other ≡ 2 = fault.1 in omega (arith, is) }
