use Rattle.std.proofs.Common.{List, Option, [], slice_get, unwrap_or, sym, ap, ◌∙◌}
use Rattle.std.specs.Option.{option_map_or}
use Rattle.hwp_law.specs.hwp_geom.declared.TransDecl.{TransDecl}
use Rattle.hwp_check_event_line.proofs.Lookups.{found-there, none-there}
use Rattle.hwp_check_event_line.proofs.reading.entries_through.Goals as goal

pub returns-in-Some : goal.returns-in-Some
returns-in-Some c =
    c.entries_on.ensures
    ∙ sym (ap (λ (o : Option TransDecl). option_map_or (λ (v : TransDecl). unwrap_or (slice_get c.args.report.now.pages v.page.0) []) o [])
    (found-there c.as_slice.result.now _ c.from.result _ c.in-Some.translation.now c.as_slice.ensures c.from.ensures c.in-Some.ensures.lookup.0 c.in-Some.ensures.lookup.1))

pub returns-in-None : goal.returns-in-None
returns-in-None c =
    sym (ap (λ (o : Option TransDecl). option_map_or (λ (v : TransDecl). unwrap_or (slice_get c.args.report.now.pages v.page.0) []) o [])
    (none-there c.as_slice.result.now _ c.from.result _ c.as_slice.ensures c.from.ensures c.in-None.ensures.lookup.0))
