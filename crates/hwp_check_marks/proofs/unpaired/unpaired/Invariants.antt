use Rattle.std.proofs.Common.{[], take}
use Rattle.hwp_check_marks.specs.Tallies.{CountMarks}
use Rattle.hwp_check_marks.proofs.UnpairedLaws.{FewBelow}
use Rattle.hwp_check_marks.proofs.unpaired.unpaired.Given as goal

abbrev pub invariant-loop-number : goal.invariant-loop-number
invariant-loop-number l = CountMarks (take l.number l.fn.report.frames) [] l.had × FewBelow l.fn.report l.number l.heading
