use Rattle.std.proofs.Common.{◌≡◌, arith, rules}
use Rattle.hwp_script_lines.specs.declared.keywords.Keyword.TheVariants as items
use Rattle.hwp_script_lines.specs.Grammar.{keyword_text}
use Rattle.hwp_script_lines.proofs.Searches.{none-more}
use Rattle.hwp_script_lines.proofs.Listed.{no_head, all_heads}
use Rattle.hwp_script_lines.proofs.keywords.read_keyword.Goals as goal

pub loop-head-preserved : goal.loop-head-preserved
loop-head-preserved c =
    none-more (λ k. c.args.word.now ≡ keyword_text k) all_heads c.loop-head.head-index items.Hwp (omega arith) c.loop-head.invariant (search rules)

pub returns-in_default-clause-none : goal.returns-in_default-clause-none
returns-in_default-clause-none c =
    no_head c.args.word.now c.loop-head.head-index (omega arith) c.loop-head.invariant c.in_default.ensures.none
