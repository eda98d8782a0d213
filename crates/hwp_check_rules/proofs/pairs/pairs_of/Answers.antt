use Rattle.std.proofs.Common.{◌≡◌, ◌≤◌, ◌+◌, List, ap, ◌∙◌, arith}
use Rattle.std.specs.List.{zip}
use Rattle.hwp_law.specs.hwp_report_text.declared.Answer.{Answer}
use Rattle.hwp_law.specs.hwp_script_words.declared.Command.{Command}
use Rattle.hwp_check_rules.proofs.PairLaws.{all-pairs, next-pair}
use Rattle.hwp_check_rules.proofs.pairs.pairs_of.Goals as goal

pub loop-number-preserved : goal.loop-number-preserved
loop-number-preserved c =
    c.in_ok-push.ensures.items
    ∙ next-pair c.args.commands.now c.in_ok-answers.answers.items c.loop-number.number c.index-commands-number.result _ c.index.result.now _ c.loop-number.pairs.items (omega arith) (omega (arith, c.in_ok-answers.ensures.many)) c.loop-number.invariant
    c.index-commands-number.is c.index.ensures

pub returns : goal.returns
returns c =
    c.loop-number.invariant ∙ all-pairs c.args.commands.now c.in_ok-answers.answers.items c.loop-number.number (omega arith)
    ∙ ap (λ (a : List Answer). zip c.args.commands.now a) c.in_ok-answers.ensures.first
