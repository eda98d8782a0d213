use Rattle.std.proofs.Common.{take, map}
use Rattle.std.specs.Prelude.{All}
use Rattle.hwp_script_lines.specs.Grammar.{IsPrintable}
use Rattle.hwp_script_lines.proofs.words.are_printable.Given as goal

abbrev pub invariant-loop-word : goal.invariant-loop-word
invariant-loop-word l = All (All IsPrintable) (take l.word-index (map (λ w. w.now) l.fn.words))
