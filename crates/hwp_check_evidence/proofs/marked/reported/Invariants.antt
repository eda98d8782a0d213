use Rattle.std.proofs.Common.{◌≡◌, drop, fold}
use Rattle.hwp_check_evidence.specs.Marked.{reported, reported_in}
use Rattle.hwp_check_evidence.proofs.marked.reported.Given as goal

abbrev pub invariant-loop-line : goal.invariant-loop-line
invariant-loop-line l = fold (reported_in l.fn.cpu) l.first (drop l.line-index l.fn.frames) ≡ reported l.fn.cpu l.fn.frames
