use Rattle.std.proofs.Common.{Option, false, sym, ap, ◌∙◌}
use Rattle.std.specs.Option.{option_map_or}
use Rattle.hwp_law.specs.hwp_geom.declared.ThreadDecl.{ThreadDecl}
use Rattle.hwp_law.specs.hwp_script_words.Forks.{freezes}
use Rattle.hwp_check_event_line.proofs.Lookups.{found-there, none-there}
use Rattle.hwp_check_rules.proofs.cows.froze_by.Goals as goal

pub returns-in-Some : goal.returns-in-Some
returns-in-Some c =
    c.freezes.ensures
    ∙ sym (ap (λ (o : Option ThreadDecl). option_map_or (λ (t : ThreadDecl). freezes c.args.layout.now t.process.0 c.args.page.0) o false)
    (found-there c.as_slice.result.now c.args.layout.now.threads c.from.result c.args.thread.0 c.in-Some.declared.now c.as_slice.ensures c.from.ensures c.in-Some.ensures.lookup.0 c.in-Some.ensures.lookup.1))

pub returns-in-None : goal.returns-in-None
returns-in-None c =
    sym (ap (λ (o : Option ThreadDecl). option_map_or (λ (t : ThreadDecl). freezes c.args.layout.now t.process.0 c.args.page.0) o false)
    (none-there c.as_slice.result.now c.args.layout.now.threads c.from.result c.args.thread.0 c.as_slice.ensures c.from.ensures c.in-None.ensures.lookup.0))
