-- The lines of a scrub gone through one after another.
use Rattle.std.proofs.Common.{◌≡◌, ◌↔◌, ℕ, suc, ◌+◌, ◌<◌, ◌++◌, Bool, false, List, [], ◌∷◌, fold, get_or, length, slice_get, take, Option, None, sym, ap, ◌∙◌, subst, arith}
use Rattle.std.proofs.lemmas.List.{get_or-map, length-map, take_more}
use Rattle.std.proofs.lemmas.List.Sums.{fold-append}
use Rattle.hwp_banks.specs.hwp_geom.declared.Who.{Who}
use Rattle.hwp_banks.specs.declared.Event.{Event}
use Rattle.hwp_law.specs.hwp_script_words.declared.Script.{Script}
use Rattle.hwp_law.specs.hwp_report_text.declared.Report.{Report}
use Rattle.hwp_law.specs.hwp_severity.declared.Arrival.{Arrival}
use Rattle.hwp_law.specs.hwp_report_text.declared.EventLine.{EventLine}
use Rattle.hwp_check_event_line.specs.Scrubbing.{IsRightIn, reach_at}
use Rattle.hwp_check_event_line.specs.Scrubs.{Course, IsScrubbedLine, after, comes_instead, turn}
use Rattle.hwp_check_event_line.specs.Firsts.{IsScanned, shown_lines}
use Rattle.hwp_check_event_line.specs.declared.reach.Reach.{Reach}
use Rattle.hwp_check_event_line.specs.declared.reach.Turn.{Turn}
use Rattle.hwp_check_event_line.specs.declared.shown.Shown.{Shown}

module _ (report : Report) (course : Course) (start : Reach) (lines : List Shown) where
  abbrev step : Reach → EventLine → Reach
  step r l = after course r l (turn report course r l)

  pub told-more : (n : ℕ) (d : Shown) → n < length lines → take (n + 1) (shown_lines lines) ≡ take n (shown_lines lines) ++ (get_or lines n d).line ∷ []
  told-more n d within =
      take_more (shown_lines lines) n d.line (subst (λ (m : ℕ). n < m) (sym (length-map lines (λ (s : Shown). s.line))) within) ∙ ap (λ (l : EventLine). take n (shown_lines lines) ++ l ∷ []) (get_or-map (λ (s : Shown). s.line) lines n d d.line within)

  pub reach-next : (n : ℕ) (d : Shown) (reach next : Reach) (turned : Turn) → n < length lines → reach ≡ reach_at report course start (shown_lines lines) n → turned ≡ turn report course reach (get_or lines n d).line
      → next ≡ after course reach (get_or lines n d).line turned → next ≡ reach_at report course start (shown_lines lines) (n + 1)
  reach-next n d reach next turned within is turn_is next_is =
      next_is ∙ ap (after course reach (get_or lines n d).line) turn_is ∙ ap (λ (r : Reach). step r (get_or lines n d).line) is
      ∙ sym (ap (fold step start) (told-more n d within) ∙ fold-append step start (take n (shown_lines lines)) ((get_or lines n d).line ∷ []))

module _ (script : Script) (report : Report) (who : Who) (how : Arrival) (course : Course) (start : Reach) (lines : List EventLine) where
  pub right-at : (n : ℕ) (line : EventLine) (reach next : Reach) (turned : Turn) (instead : Bool) (So Right : Type 0) → reach ≡ reach_at report course start lines n → turned ≡ turn report course reach line
      → (So ↔ IsScrubbedLine script report who how reach line turned) → next ≡ reach_at report course start lines (n + 1) → instead ≡ comes_instead report course next (slice_get lines (n + 1)) → (Right ↔ (So × (instead ≡ false)))
      → Right ↔ IsRightIn script report who how course start lines n line
  right-at n line reach next turned instead So Right is turn_is both next_is instead_is whole = (
    λ right. let parts = whole.0 right in (one.0 parts.0, sym other ∙ parts.1),
    λ right. whole.1 (one.1 right.0, other ∙ right.1),
  )
    where
      one : So ↔ IsScrubbedLine script report who how (reach_at report course start lines n) line (turn report course (reach_at report course start lines n) line)
      one = subst (λ (r : Reach). So ↔ IsScrubbedLine script report who how r line (turn report course r line)) is (subst (λ (t : Turn). So ↔ IsScrubbedLine script report who how reach line t) turn_is both)

      more : n + 1 ≡ suc n
      more = omega arith

      other : instead ≡ comes_instead report course (reach_at report course start lines (suc n)) (slice_get lines (suc n))
      other = instead_is ∙ ap (λ (r : Reach). comes_instead report course r (slice_get lines (n + 1))) next_is ∙ ap (λ (m : ℕ). comes_instead report course (reach_at report course start lines m) (slice_get lines m)) more

module _ (script : Script) (report : Report) (who : Who) (how : Arrival) (low : ℕ → ℕ) (last : ℕ) (lines : List EventLine) (found : Option ℕ) where
  -- what was found in a scrub with this bound, from this place on, where bank 1 holds this
  abbrev Found : ℕ → ℕ → Option Event → Type 0
  Found bound next raw = IsScanned (IsRightIn script report who how (record { low = low; last = last; bound = bound }) (record { next = next; raw = raw; begun = None; passed = 0; strays = 0 }) lines) lines found

  pub scanned-same : (bound bound2 next next2 : ℕ) (raw raw2 : Option Event) → bound ≡ bound2 → next ≡ next2 → raw ≡ raw2 → Found bound next raw → Found bound2 next2 raw2
  scanned-same bound bound2 next next2 raw raw2 bound_is next_is raw_is is =
      subst (λ (b : ℕ). Found b next2 raw2) bound_is (subst (λ (n : ℕ). Found bound n raw2) next_is (subst (λ (o : Option Event). Found bound next o) raw_is is))
