use Rattle.std.proofs.Common.{ℕ, ◌<◌}
use Rattle.std.specs.Int.{IsBitSet}
use Rattle.hwp_law.specs.Lines.{bad_lines_of}
use Rattle.hwp_check_events.proofs.accesses.first_bad.Given as goal

abbrev pub invariant-loop-frame : goal.invariant-loop-frame
invariant-loop-frame l = (frame : ℕ) → frame < l.frame → IsBitSet (bad_lines_of l.fn.report frame) l.fn.at → ⊥
