use Rattle.std.proofs.Common.{ap, sym, ◌∙◌}
use Rattle.std.proofs.lemmas.Bool.{false≢true, eqb-true, eq-eqb}
use Rattle.hwp_law.specs.hwp_geom.declared.Page.{Page}
use Rattle.hwp_check_event_line.proofs.Lookups.{found-there, none-there}
use Rattle.hwp_check_rules.proofs.making.leads_to.Goals as goal

pub returns-in-Some : goal.returns-in-Some
returns-in-Some c =
    rw (found-there c.as_slice.result.now c.args.layout.now.trans c.from.result c.args.slot.0 c.in-Some.translation.now c.as_slice.ensures c.from.ensures c.in-Some.ensures.lookup.0 c.in-Some.ensures.lookup.1) (
      λ yes. ap (λ n. record { 0 = n }) (eqb-true _ _ (sym c.eq.ensures ∙ yes)),
      λ same. c.eq.ensures ∙ eq-eqb _ _ (ap (λ (p : Page). p.0) same),
    )

pub returns-in-None : goal.returns-in-None
returns-in-None c =
    rw (none-there c.as_slice.result.now c.args.layout.now.trans c.from.result c.args.slot.0 c.as_slice.ensures c.from.ensures c.in-None.ensures.lookup.0) (λ yes. absurd (false≢true yes), λ some. absurd some)
