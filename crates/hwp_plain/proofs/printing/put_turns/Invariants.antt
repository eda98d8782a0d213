use Rattle.std.proofs.Common.{◌≡◌, ◌++◌, string_bytes, take}
use Rattle.std.specs.List.{enumerate_from, flat_map}
use Rattle.hwp_plain.specs.TraceText.{turn_line}
use Rattle.hwp_plain.proofs.printing.put_turns.Given as goal

abbrev pub invariant-loop-number : goal.invariant-loop-number
invariant-loop-number l = string_bytes l.out ≡ string_bytes l.fn.out ++ flat_map turn_line (enumerate_from 0 (take l.number l.lines))
