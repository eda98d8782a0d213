use Rattle.std.proofs.Common.{◌≡◌, Some, None, ap, sym, ◌∙◌, slice_get, ltb-true, ltb-false}
use Rattle.std.proofs.lemmas.Bool.{false≢true, eqb-true, eq-eqb}
use Rattle.std.proofs.lemmas.Option.{slice_get-get_or, slice_get_past}
use Rattle.hwp_kill.specs.hwp_geom.declared.Page.{Page}
use Rattle.hwp_page.proofs.belonging.is_of.Goals as goal

pub returns-in-Some : goal.returns-in-Some
returns-in-Some c =
    let there : slice_get c.args.layout.now.trans c.args.slot.0 ≡ Some c.in-Some.translation.now =
    rw (← c.as_slice.ensures, ← c.from.ensures)
    (slice_get-get_or c.as_slice.result.now c.from.result c.in-Some.translation.now (ltb-true _ _ (sym c.in-Some.ensures.lookup.0)) ∙ ap Some (sym c.in-Some.ensures.lookup.1)) in
    rw there (
      λ yes. ap (λ n. record { 0 = n }) (eqb-true _ _ (sym c.eq.ensures ∙ yes)),
      λ same. c.eq.ensures ∙ eq-eqb _ _ (ap (λ (p : Page). p.0) same),
    )

pub returns-in-None : goal.returns-in-None
returns-in-None c =
    let nothing : slice_get c.args.layout.now.trans c.args.slot.0 ≡ None =
    rw (← c.as_slice.ensures, ← c.from.ensures) (slice_get_past c.as_slice.result.now c.from.result (ltb-false _ _ (sym c.in-None.ensures.lookup.0))) in
    rw nothing (λ yes. absurd (false≢true yes), λ own. absurd own)
