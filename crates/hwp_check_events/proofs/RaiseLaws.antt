-- The machine check of a raise: what the law says of it, line by line.
use Rattle.std.proofs.Common.{◌≡◌, ℕ, zero, suc, ◌<◌, ◌||◌, Bool, false, List, [], ◌∷◌, Option, Some, None, get_or, is_some, length, slice_get, refl, sym, ap, subst, arith}
use Rattle.std.specs.Int.{from_bool}
use Rattle.std.proofs.lemmas.Option.{none-some, same_Some}
use Rattle.hwp_banks.specs.hwp_geom.declared.Who.{Who}
use Rattle.hwp_banks.specs.declared.Event.{Event}
use Rattle.hwp_law.specs.hwp_script_words.declared.Script.{Script}
use Rattle.hwp_law.specs.hwp_report_text.declared.Report.{Report}
use Rattle.hwp_law.specs.Checks.{IsCheck}
use Rattle.hwp_law.specs.hwp_severity.declared.Arrival.{Arrival}
use Rattle.hwp_law.specs.hwp_report_text.declared.EventLine.{EventLine}
use Rattle.hwp_check_event_line.specs.Accesses.{IsRaisedLine}
use Rattle.hwp_check_event_line.specs.Found.{IsRawLine, may_stop, resting, stops}
use Rattle.hwp_check_event_line.specs.Firsts.{AreRight, AreRightTo, IsFirstWrong, shown_lines}
use Rattle.hwp_check_event_line.specs.declared.Shown.{Shown}
use Rattle.hwp_check_event_line.proofs.FoundLaws.{one-line, or-none}

module _ (script : Script) (report : Report) (who : Who) (how : Arrival) where
  abbrev Right : Option Event → ℕ → EventLine → Type 0
  Right raw number line = IsRaisedLine script report who how raw number line

  pub check-forth : (raw : Option Event) (lines : List EventLine) → IsCheck script report who how (resting raw) lines → (length lines ≡ from_bool (is_some raw)) × AreRight (Right raw) lines
  check-forth None [] is = (refl, λ n l there. absurd (none-some l there))
  check-forth None (l ∷ ls) is = absurd is
  check-forth (Some event) lines is =
      let one = one-line script report who how (stops how event || false) 1 event lines is in
      (ap length one.1, subst (AreRight (Right (Some event))) (sym one.1) (λ n l there. at-number one.0 one.2 n l there))
    where
      at-number : (x : EventLine) → IsRawLine script report who how (stops how event || false) (Some event) x → (n : ℕ) (l : EventLine) → slice_get (x ∷ []) n ≡ Some l → Right (Some event) n l
      at-number x own zero l there = (refl, subst (IsRawLine script report who how (may_stop how (Some event)) (Some event)) (same_Some _ _ there) (subst (λ (b : Bool). IsRawLine script report who how b (Some event) x) (or-none (stops how event)) own))
      at-number x own (suc n) l there = absurd (none-some l there)

  pub check-back : (raw : Option Event) (lines : List EventLine) → length lines ≡ from_bool (is_some raw) → AreRight (Right raw) lines → IsCheck script report who how (resting raw) lines
  check-back None [] size right = record {}
  check-back None (l ∷ ls) size right = absurd (omega (arith, size))
  check-back (Some event) [] size right = absurd (omega (arith, size))
  check-back (Some event) (l ∷ []) size right = (subst (λ (b : Bool). IsRawLine script report who how b (Some event) l) (sym (or-none (stops how event))) (right 0 l refl).1, record {})
  check-back (Some event) (l ∷ m ∷ ms) size right = absurd (omega (arith, size))

  -- a second line is wrong
  pub second-wrong : (raw : Option Event) (lines : List Shown) (d : Shown) (held : Bool) → 1 < length lines → held ≡ may_stop how raw → IsRawLine script report who how held raw (get_or lines 0 d).line → IsFirstWrong (Right raw) (shown_lines lines) 1
  second-wrong raw [] d held more is first = absurd (omega (arith, more))
  second-wrong raw (x ∷ []) d held more is first = absurd (omega (arith, more))
  second-wrong raw (x ∷ y ∷ ys) d held more is first = record { line = y.line; there = refl; before = before; wrong = λ wrong. absurd (let one : 1 ≡ 0 = wrong.0 in omega (arith, one)) }
    where
      before : AreRightTo (Right raw) (shown_lines (x ∷ y ∷ ys)) 1
      before zero l less there = (refl, subst (IsRawLine script report who how (may_stop how raw) raw) (same_Some _ _ there) (subst (λ (h : Bool). IsRawLine script report who how h raw x.line) is first))
      before (suc n) l less there = absurd (omega (arith, less))
