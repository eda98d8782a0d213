use Rattle.std.proofs.Common.{◌≡◌, Some, None, ap, sym, ◌∙◌, slice_get, ltb-true, ltb-false}
use Rattle.std.proofs.lemmas.Bool.{false≢true, eqb-true, eq-eqb}
use Rattle.std.proofs.lemmas.Option.{slice_get-get_or, slice_get_past}
use Rattle.hwp_kill.specs.hwp_geom.declared.Proc.{Proc}
use Rattle.hwp_page.proofs.belonging.is_thread_of.Goals as goal

pub returns-in-Some-Some : goal.returns-in-Some-Some
returns-in-Some-Some c =
    let thread : slice_get c.args.layout.now.threads c.args.thread.0 ≡ Some c.in-Some-Some.declared.now =
    rw (← c.as_slice-threads.ensures, ← c.from.ensures)
    (slice_get-get_or c.as_slice-threads.result.now c.from.result c.in-Some-Some.declared.now (ltb-true _ _ (sym c.in-Some-Some.ensures.lookup.0)) ∙ ap Some (sym c.in-Some-Some.ensures.lookup.1)) in
    let slot : slice_get c.args.layout.now.trans c.args.slot.0 ≡ Some c.in-Some-Some.translation.now =
    rw (← c.as_slice-translations.ensures, ← c.from-2.ensures)
    (slice_get-get_or c.as_slice-translations.result.now c.from-2.result c.in-Some-Some.translation.now (ltb-true _ _ (sym c.in-Some-Some.ensures'.lookup.0)) ∙ ap Some (sym c.in-Some-Some.ensures'.lookup.1)) in
    rw (thread, slot) (
      λ yes. ap (λ n. record { 0 = n }) (eqb-true _ _ (sym c.eq.ensures ∙ yes)),
      λ same. c.eq.ensures ∙ eq-eqb _ _ (ap (λ (p : Proc). p.0) same),
    )

pub returns-in_default : goal.returns-in_default
returns-in_default c =
    let thread : slice_get c.args.layout.now.threads c.args.thread.0 ≡ Some c.in_default.field-0-0.now =
    rw (← c.as_slice-threads.ensures, ← c.from.ensures)
    (slice_get-get_or c.as_slice-threads.result.now c.from.result c.in_default.field-0-0.now (ltb-true _ _ (sym c.in_default.ensures.lookup.0)) ∙ ap Some (sym c.in_default.ensures.lookup.1)) in
    let nothing : slice_get c.args.layout.now.trans c.args.slot.0 ≡ None =
    rw (← c.as_slice-translations.ensures, ← c.from-2.ensures)
    (slice_get_past c.as_slice-translations.result.now c.from-2.result (ltb-false _ _ (sym c.in_default.ensures'.lookup.0))) in
    rw (thread, nothing) (λ yes. absurd (false≢true yes), λ own. absurd own)

pub returns-in_default-2 : goal.returns-in_default-2
returns-in_default-2 c =
    let nothing : slice_get c.args.layout.now.threads c.args.thread.0 ≡ None =
    rw (← c.as_slice-threads.ensures, ← c.from.ensures) (slice_get_past c.as_slice-threads.result.now c.from.result (ltb-false _ _ (sym c.in_default.ensures.lookup.0))) in
    rw nothing (λ yes. absurd (false≢true yes), λ own. absurd own)
