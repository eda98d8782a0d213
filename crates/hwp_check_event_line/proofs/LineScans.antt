-- Lines gone through one after another up to the first that isn't right.
use Rattle.std.proofs.Common.{◌≡◌, ◌↔◌, inl, inr, ℕ, ◌+◌, ◌<◌, ◌≤◌, Bool, true, false, List, [], ◌∷◌, Option, Some, None, IsTrue, get_or, length, option_map, slice_get, true≢false, refl, sym, ap, ◌∙◌, subst, arith}
use Rattle.std.proofs.lemmas.Bool.{cases_lt}
use Rattle.std.proofs.lemmas.List.{length-map}
use Rattle.std.proofs.lemmas.Option.{same_Some, slice_get-get_or, slice_get-map, slice_get_within}
use Rattle.hwp_law.specs.hwp_report_text.declared.EventLine.{EventLine}
use Rattle.hwp_check_event_line.specs.Firsts.{AreRight, AreRightTo, IsFirstWrong, IsScanned, IsScannedTo, first_of, shown_lines}
use Rattle.hwp_check_event_line.specs.declared.shown.Shown.{Shown}

-- the line with a number
pub told-at : (lines : List Shown) (n : ℕ) (d : Shown) → n < length lines → slice_get (shown_lines lines) n ≡ Some (get_or lines n d).line
told-at lines n d within = slice_get-map (λ (s : Shown). s.line) lines n ∙ ap (option_map (λ (s : Shown). s.line)) (slice_get-get_or lines n d within)

module _ (Right : ℕ → EventLine → Type 0) (lines : List Shown) where
  pub none-right : AreRightTo Right (shown_lines lines) 0
  none-right = λ number line less there. absurd (omega (arith, less))

  pub right-next : (n : ℕ) (d : Shown) → n < length lines → Right n (get_or lines n d).line → AreRightTo Right (shown_lines lines) n → AreRightTo Right (shown_lines lines) (n + 1)
  right-next n d within right before = λ number line less there. elim (cases_lt number n) [
    | inl low ↦ before number line low there
    | inr high ↦
        let same : n ≡ number = omega (arith, less, high) in
        let line_is : (get_or lines n d).line ≡ line = same_Some _ _ (sym (told-at lines n d within) ∙ ap (slice_get (shown_lines lines)) same ∙ there) in
        subst (λ (m : ℕ). Right m line) same (subst (Right n) line_is right)
  ]

  pub right-all : (n : ℕ) → length lines ≤ n → AreRightTo Right (shown_lines lines) n → AreRight Right (shown_lines lines)
  right-all n all before = λ number line there.
      let within : number < length (shown_lines lines) = slice_get_within (shown_lines lines) number line there in
      let size : length (shown_lines lines) ≡ length lines = length-map lines (λ (s : Shown). s.line) in
      before number line (omega (arith, within, size, all)) there

  pub first-wrong : (n : ℕ) (d : Shown) → n < length lines → (Right n (get_or lines n d).line → ⊥) → AreRightTo Right (shown_lines lines) n → IsFirstWrong Right (shown_lines lines) n
  first-wrong n d within wrong before = record { line = (get_or lines n d).line; there = told-at lines n d within; before = before; wrong = wrong }

-- the same where what is right depends on something that was read
pub right-next-by : {X : Type 0} (R : X → ℕ → EventLine → Type 0) (x y : X) (lines : List Shown) (n : ℕ) (d : Shown) → n < length lines → x ≡ y → R x n (get_or lines n d).line → AreRightTo (R y) (shown_lines lines) n → AreRightTo (R y) (shown_lines lines) (n + 1)
right-next-by R x y lines n d within same right before = right-next (R y) lines n d within (subst (λ z. R z n (get_or lines n d).line) same right) before

module _ (Right : ℕ → EventLine → Type 0) (lines : List Shown) where
  -- one line more, right or wrong, where the first that is wrong was found or not
  pub scanned-next : (n : ℕ) (d : Shown) (found : Option ℕ) (right : Bool) → n < length lines → IsTrue right ↔ Right n (get_or lines n d).line → IsScannedTo Right (shown_lines lines) n found → IsScannedTo Right (shown_lines lines) (n + 1) (first_of found right n)
  scanned-next n d (Some first) right within decides first_is = first_is
  scanned-next n d None true within decides before = right-next Right lines n d within (decides.0 refl) before
  scanned-next n d None false within decides before = first-wrong Right lines n d within (λ is. true≢false (sym (decides.1 is))) before

  pub scanned-all : (n : ℕ) (found : Option ℕ) → length lines ≤ n → IsScannedTo Right (shown_lines lines) n found → IsScanned Right (shown_lines lines) found
  scanned-all n (Some first) all first_is = first_is
  scanned-all n None all before = right-all Right lines n all before

-- where no line is asked the first is wrong
pub some-wrong : (lines : List Shown) → 0 < length lines → IsFirstWrong (λ (number : ℕ) (line : EventLine). ⊥) (shown_lines lines) 0
some-wrong [] some = absurd (omega (arith, some))
some-wrong (x ∷ xs) some = record { line = x.line; there = refl; before = none-right (λ (number : ℕ) (line : EventLine). ⊥) (x ∷ xs); wrong = λ none. none }
