use Rattle.std.proofs.Common.{arith, rules, subst}
use Rattle.std.specs.Prelude.{All}
use Rattle.std.proofs.lemmas.List.{take_all}
use Rattle.std.proofs.lemmas.List.Elements.{All-more}
use Rattle.hwp_script_lines.specs.Grammar.{IsPrintable}
use Rattle.hwp_script_lines.proofs.words.is_printable.Goals as goal

pub loop-byte-preserved : goal.loop-byte-preserved
loop-byte-preserved c =
    All-more IsPrintable c.args.word.now c.loop-byte.byte-index 0 (omega arith) c.loop-byte.invariant (omega arith, omega arith)

pub returns : goal.returns
returns c =
    (λ _. subst (All IsPrintable) (take_all c.loop-byte.byte-index c.args.word.now (omega arith)) c.loop-byte.invariant, λ _. search rules)
