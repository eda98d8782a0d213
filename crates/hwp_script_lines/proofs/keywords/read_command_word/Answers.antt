use Rattle.std.proofs.Common.{◌≡◌, ◌∙◌, sym, ap, arith, rules}
use Rattle.hwp_script_lines.specs.declared.keywords.CommandWord.TheVariants as items
use Rattle.hwp_script_lines.specs.Grammar.{command_text}
use Rattle.hwp_script_lines.proofs.Searches.{none-more, none-at}
use Rattle.hwp_script_lines.proofs.Listed.{word_listed, all_words}
use Rattle.hwp_script_lines.proofs.keywords.read_command_word.Goals as goal

pub loop-first-preserved : goal.loop-first-preserved
loop-first-preserved c =
    none-more (λ k. c.args.word.now ≡ command_text k) all_words c.loop-first.first-index items.Load (omega arith) c.loop-first.invariant (search rules)

pub returns-clause-none : goal.returns-clause-none
returns-clause-none c = λ k e.
    let listed = word_listed k in
    none-at (λ k. c.args.word.now ≡ command_text k) all_words c.loop-first.first-index listed.0 items.Load (omega arith) c.loop-first.invariant (omega arith)
    (e ∙ ap command_text (sym listed.2))
