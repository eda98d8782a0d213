use Rattle.std.proofs.Common.{Option, false, sym, ap, ◌∙◌}
use Rattle.std.specs.Option.{option_map_or}
use Rattle.hwp_law.specs.hwp_geom.declared.TransDecl.{TransDecl}
use Rattle.hwp_law.specs.hwp_script_words.Forks.{froze}
use Rattle.hwp_law.specs.hwp_script_words.declared.Command.TheVariants as commands
use Rattle.hwp_check_event_line.proofs.Lookups.{found-there, none-there}
use Rattle.hwp_check_rules.proofs.cows.froze_slot.Goals as goal

pub returns-in-Some : goal.returns-in-Some
returns-in-Some c =
    c.froze_by.ensures
    ∙ sym (ap (λ (o : Option TransDecl). option_map_or (λ (t : TransDecl). froze c.args.layout.now t.page.0 (commands.Fork c.args.thread c.args.process)) o false)
    (found-there c.as_slice.result.now c.args.layout.now.trans c.from.result c.args.slot.0 c.in-Some.translation.now c.as_slice.ensures c.from.ensures c.in-Some.ensures.lookup.0 c.in-Some.ensures.lookup.1))

pub returns-in-None : goal.returns-in-None
returns-in-None c =
    sym (ap (λ (o : Option TransDecl). option_map_or (λ (t : TransDecl). froze c.args.layout.now t.page.0 (commands.Fork c.args.thread c.args.process)) o false)
    (none-there c.as_slice.result.now c.args.layout.now.trans c.from.result c.args.slot.0 c.as_slice.ensures c.from.ensures c.in-None.ensures.lookup.0))
