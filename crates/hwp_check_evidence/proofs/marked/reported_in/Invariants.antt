use Rattle.std.proofs.Common.{◌≡◌, drop, fold}
use Rattle.hwp_check_evidence.specs.Marked.{reported_by, reported_in}
use Rattle.hwp_check_evidence.proofs.marked.reported_in.Given as goal

abbrev pub invariant-loop-mark : goal.invariant-loop-mark
invariant-loop-mark l = fold (reported_by l.fn.cpu) l.first (drop l.mark-index l.fn.line.marks) ≡ reported_in l.fn.cpu l.fn.before l.fn.line
