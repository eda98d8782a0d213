-- How many lines a machine check that was raised tells.
use Rattle.std.proofs.Common.{◌≡◌, inl, inr, ◌≤◌, Bool, true, false, Some, None, length, sym, ap, ◌∙◌, arith}
use Rattle.std.proofs.lemmas.List.{length-map}
use Rattle.std.proofs.lemmas.Option.{none-some}
use Rattle.hwp_cpu_control.specs.hwp_geom.declared.Layout.{Layout}
use Rattle.hwp_cpu_control.specs.hwp_core_rule.declared.View.{View}
use Rattle.hwp_claim.specs.hwp_banks.Events.{bank_count}
use Rattle.hwp_claim.specs.declared.EventOutcome.{EventOutcome}
use Rattle.hwp_claim.specs.Events.{held_in}
use Rattle.hwp_claim.proofs.BankGrades.{found-in}
use Rattle.hwp_scrub.specs.RaiseFits.{Fits, FitsAt, IsChecked, IsEnd, IsUnchecked}
use Rattle.hwp_scrub.specs.Raises.{answer, answer_at, how_of}
use Rattle.hwp_scrub.specs.declared.raise.Raise.{Raise}
use Rattle.hwp_scrub.specs.declared.raise.RaiseAnswer.{RaiseAnswer}
use Rattle.hwp_scrub.specs.declared.raise.RaiseAnswer.TheVariants as answers
use Rattle.hwp_scrub.specs.declared.raise.RaiseAt.{RaiseAt}
use Rattle.hwp_scrub.specs.declared.raise.RaiseAt.TheVariants as at

-- no more than there are banks
pub raise-few : {layout : Layout} {view : View} (r : Raise) (a : RaiseAnswer) → Fits layout view r → answer r ≡ Some a → length r.lines.told ≤ bank_count
raise-few {layout} {view} r a fits is = which r.at fits.at is
  where
    unchecked : IsUnchecked view r → length r.lines.told ≤ bank_count
    unchecked has = let none : length r.lines.told ≡ 0 = ap length has.told_none in omega (arith, none)

    checked : (stopped : Bool) → IsChecked layout view r stopped → length r.lines.told ≤ bank_count
    checked stopped has =
        let same : length r.lines.told ≡ length (held_in (how_of r) r.before.value) = sym (length-map r.lines.told (λ (t : EventOutcome). t.held)) ∙ ap length has.acted_on.events in
        let few : length (held_in (how_of r) r.before.value) ≤ bank_count = (found-in (how_of r) r.before.value fits.three).few in
        omega (arith, same, few)

    ends : (b : RaiseAnswer) → IsEnd layout view r b → length r.lines.told ≤ bank_count
    ends answers.Raised has = checked false has
    ends answers.Stopped (inl has) = unchecked has.0
    ends answers.Stopped (inr has) = checked true has
    ends (answers.Gone page) has = unchecked has.0

    which : (x : RaiseAt) → FitsAt layout view r x → answer_at x ≡ Some a → length r.lines.told ≤ bank_count
    which (at.Over (Some b)) has some = ends b has.1
    which (at.Over None) has none = absurd (none-some a none)
    which _ has none = absurd (none-some a none)
