use Rattle.std.proofs.Common.{◌+◌, List, Some, sym, ap, ◌∙◌, subst}
use Rattle.std.proofs.lemmas.Option.{slice_get-get_or}
use Rattle.hwp_law.specs.Cows.{acting}
use Rattle.hwp_law.specs.hwp_report_text.declared.Answer.{Answer}
use Rattle.hwp_law.specs.hwp_script_words.declared.Command.{Command}
use Rattle.hwp_check_rules.specs.ActedOn.{AreActed}
use Rattle.hwp_check_rules.proofs.ActedLists.{next-acted}
use Rattle.hwp_check_rules.proofs.acted.acting_list.Goals as goal

pub loop-number-preserved : goal.loop-number-preserved
loop-number-preserved c =
    subst (AreActed c.args.layout.now c.args.pairs.now c.args.commands.now (c.loop-number.number + 1)) (sym c.in_ok-push.ensures.items)
    (next-acted c.args.layout.now c.args.pairs.now c.args.commands.now c.loop-number.number c.loop-number.list.items c.index-commands-number.result c.acting.result c.loop-number.invariant
    (slice_get-get_or c.args.commands.now c.loop-number.number _ c.loop-number-test.true ∙ ap Some (sym c.index-commands-number.is))
    (c.acting.ensures ∙ ap (λ (p : List (Command × Answer)). acting c.args.layout.now p c.index-commands-number.result) c.before-in-loop-number.ensures))
