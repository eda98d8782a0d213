use Rattle.std.proofs.Common.{◌==◌, Option, false, sym, ap, ◌∙◌}
use Rattle.std.specs.Option.{option_map_or}
use Rattle.hwp_law.specs.hwp_geom.declared.ThreadDecl.{ThreadDecl}
use Rattle.hwp_check_event_line.proofs.Lookups.{found-there, none-there}
use Rattle.hwp_check_rules.proofs.policies.is_thread_of.Goals as goal

pub returns-in-Some : goal.returns-in-Some
returns-in-Some c =
    sym (ap (λ (o : Option ThreadDecl). option_map_or (λ (t : ThreadDecl). t.process.0 == c.args.process.0) o false)
    (found-there c.as_slice.result.now _ c.from.result _ c.in-Some.declared.now c.as_slice.ensures c.from.ensures c.in-Some.ensures.lookup.0 c.in-Some.ensures.lookup.1))

pub returns-in-None : goal.returns-in-None
returns-in-None c =
    sym (ap (λ (o : Option ThreadDecl). option_map_or (λ (t : ThreadDecl). t.process.0 == c.args.process.0) o false)
    (none-there c.as_slice.result.now _ c.from.result _ c.as_slice.ensures c.from.ensures c.in-None.ensures.lookup.0))
