use Rattle.std.proofs.Common.{take}
use Rattle.std.specs.Prelude.{All}
use Rattle.hwp_script_lines.specs.Grammar.{IsPrintable}
use Rattle.hwp_script_lines.proofs.words.is_printable.Given as goal

abbrev pub invariant-loop-byte : goal.invariant-loop-byte
invariant-loop-byte l = All IsPrintable (take l.byte-index l.fn.word)
