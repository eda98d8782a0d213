use Rattle.std.proofs.Common.{List, Option, [], unwrap_or, sym, ap, ◌∙◌}
use Rattle.hwp_law.specs.hwp_script_words.declared.Command.{Command}
use Rattle.hwp_check_event_line.proofs.Lookups.{found-there, none-there}
use Rattle.hwp_check_rules.proofs.rows.commands_of.Goals as goal

pub returns-in-Some : goal.returns-in-Some
returns-in-Some c =
    c.as_slice-in-Some.ensures
    ∙ sym (ap (λ (o : Option (List Command)). unwrap_or o []) (found-there c.as_slice.result.now _ c.from.result _ c.in-Some.list.now c.as_slice.ensures c.from.ensures c.in-Some.ensures.lookup.0 c.in-Some.ensures.lookup.1))

pub returns-in-None : goal.returns-in-None
returns-in-None c = sym (ap (λ (o : Option (List Command)). unwrap_or o []) (none-there c.as_slice.result.now _ c.from.result _ c.as_slice.ensures c.from.ensures c.in-None.ensures.lookup.0))
