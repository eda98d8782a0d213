use Rattle.std.proofs.Common.{take}
use Rattle.hwp_check_marks.specs.Tallies.{CountMarks}
use Rattle.hwp_check_marks.specs.Unpaired.{NoneExtra}
use Rattle.hwp_check_marks.proofs.unpaired.first_extra.Given as goal

abbrev pub invariant-loop-place : goal.invariant-loop-place
invariant-loop-place l = CountMarks l.fn.above (take l.place l.fn.marks) l.had × NoneExtra l.fn.report l.fn.above l.fn.marks l.place
