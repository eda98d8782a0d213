use Rattle.std.proofs.Common.{◌≡◌, None, drop, replicate}
use Rattle.hwp_check_state.specs.Told.{walk}
use Rattle.hwp_check_state.proofs.told.told_fault.Given as goal

abbrev pub invariant-loop-row : goal.invariant-loop-row
invariant-loop-row l =
    walk l.fn.script l.fn.report l.fn.cpu l.fn.commands l.numbers.items l.found (drop l.row-index l.fn.rows) ≡ walk l.fn.script l.fn.report l.fn.cpu l.fn.commands (replicate l.fn.script.layout.files 0) None l.fn.rows
