-- Laws of the lines of machine checks: what they tell as there are more of them.
use Rattle.std.proofs.Common.{◌≡◌, ℕ, ◌+◌, ◌||◌, Bool, true, false, List, [], ◌∷◌, ◌++◌, Option, Some, None, is_some, length, append-nil, refl, sym, ap, ◌∙◌, subst, arith}
use Rattle.std.proofs.lemmas.Bool.{both_ways}
use Rattle.std.proofs.lemmas.Grind.{flat_map-append}
use Rattle.std.proofs.lemmas.List.{length-append}
use Rattle.std.proofs.lemmas.List.Folds.{list_any-append}
use Rattle.std.proofs.lemmas.Option.{none-some}
use Rattle.std.specs.List.{list_any}
use Rattle.std.specs.Option.{option_or}
use Rattle.hwp_fault.specs.hwp_geom.declared.Layout.{Layout}
use Rattle.hwp_fault.specs.hwp_geom.declared.Mode.{Mode}
use Rattle.hwp_fault.specs.hwp_geom.declared.Thread.{Thread}
use Rattle.hwp_fault.specs.hwp_geom.declared.Who.{Who}
use Rattle.hwp_claim.specs.hwp_banks.declared.Event.{Event}
use Rattle.hwp_claim.specs.hwp_banks.declared.Origin.{Origin}
use Rattle.hwp_claim.specs.hwp_banks.Events.{bank_count}
use Rattle.hwp_fault.specs.hwp_page.declared.At.{At}
use Rattle.hwp_fault.specs.hwp_core_rule.declared.View.{View}
use Rattle.hwp_claim.specs.hwp_report_text.Acts.{is_panic, is_stopping}
use Rattle.hwp_claim.specs.hwp_banks.Banks.{Banks, empty_banks}
use Rattle.hwp_claim.specs.declared.EventOutcome.{EventOutcome}
use Rattle.hwp_claim.specs.Told.{first_signal, halts, signal_of}
use Rattle.hwp_claim.specs.Checks.{AreChecks, Check, IsCheck, left_by, lines_of}
use Rattle.hwp_cpu_access.specs.Fits.{LetsGoOn}

-- ---- what lines tell

pub halts-more : (told more : List EventOutcome) → halts told ≡ false → halts (told ++ more) ≡ halts more
halts-more told more none = list_any-append (λ (t : EventOutcome). is_stopping t.acted || is_panic t.acted) told more ∙ ap (λ (b : Bool). b || halts more) none

pub signal-more : (told more : List EventOutcome) → first_signal told ≡ None → first_signal (told ++ more) ≡ first_signal more
signal-more [] more none = refl
signal-more (t ∷ ts) more none = which (signal_of t.found) none (signal-more ts more)
  where
    which : (o : Option At) → option_or o (first_signal ts) ≡ None → (first_signal ts ≡ None → first_signal (ts ++ more) ≡ first_signal more) → option_or o (first_signal (ts ++ more)) ≡ first_signal more
    which None none rest = rest none
    which (Some place) some rest = absurd (none-some place (sym some))

pub lets-more : (told more : List EventOutcome) → LetsGoOn told → halts more ≡ false → first_signal more ≡ None → LetsGoOn (told ++ more)
lets-more told more lets halted signalled = record { halts_none = halts-more told more lets.halts_none ∙ halted; signals_none = signal-more told more lets.signals_none ∙ signalled }

-- ---- machine checks, one after another

left-empty : (checks : List Check) → left_by empty_banks checks ≡ empty_banks
left-empty [] = refl
left-empty (c ∷ cs) = refl

-- they leave what the later ones leave in what the earlier ones left
pub left-behind : (banks : Banks) (earlier checks : List Check) → left_by banks (earlier ++ checks) ≡ left_by (left_by banks earlier) checks
left-behind banks [] checks = refl
left-behind banks (c ∷ cs) checks = sym (left-empty checks)

pub left-more : (banks : Banks) (checks : List Check) (c : Check) → left_by banks (checks ++ c ∷ []) ≡ empty_banks
left-more banks [] c = refl
left-more banks (d ∷ ds) c = refl

pub lines-more : (checks : List Check) (c : Check) → lines_of (checks ++ c ∷ []) ≡ lines_of checks ++ c.lines
lines-more checks c = flat_map-append (λ (d : Check). d.lines) checks (c ∷ []) ∙ ap (λ (l : List EventOutcome). lines_of checks ++ l) (append-nil c.lines)

module _ {layout : Layout} {view : View} {who : Who} {thread : Thread} {line : ℕ} {origin : Origin} {mode : Mode} where
  pub checks-more : (banks : Banks) (checks : List Check) (c : Check) → AreChecks layout view who thread line origin mode banks checks → IsCheck layout view who thread line origin mode (left_by banks checks) c → AreChecks layout view who thread line origin mode banks (checks ++ c ∷ [])
  checks-more banks [] c are is = (is, tt)
  checks-more banks (d ∷ ds) c are is = (are.0, checks-more empty_banks ds c are.1 (subst (λ (b : Banks). IsCheck layout view who thread line origin mode b c) (sym (left-empty ds)) is))

pub count-more : (checks : List Check) (c : Check) → length (checks ++ c ∷ []) ≡ length checks + 1
count-more checks c = length-append checks (c ∷ [])

-- ---- the events that banks hold

-- three banks that hold nothing are empty
pub hold-nothing : (banks : Banks) → length banks ≡ bank_count → list_any (λ (b : Option Event). is_some b) banks ≡ false → banks ≡ empty_banks
hold-nothing (None ∷ None ∷ None ∷ []) three none = refl
hold-nothing (Some event ∷ rest) three some = absurd (both_ways true some refl)
hold-nothing (None ∷ Some event ∷ rest) three some = absurd (both_ways true some refl)
hold-nothing (None ∷ None ∷ Some event ∷ rest) three some = absurd (both_ways true some refl)
hold-nothing [] three none = absurd (omega (arith, three))
hold-nothing (None ∷ []) three none = absurd (omega (arith, three))
hold-nothing (None ∷ None ∷ []) three none = absurd (omega (arith, three))
hold-nothing (None ∷ None ∷ None ∷ b ∷ rest) three none = absurd (omega (arith, three))
