use Rattle.std.proofs.Common.{◌≡◌, drop, fold, replicate}
use Rattle.hwp_check_evidence.specs.Counts.{AreFew, counted}
use Rattle.hwp_check_evidence.proofs.counts.event_counts.Given as goal

abbrev pub invariant-loop-row : goal.invariant-loop-row
invariant-loop-row l = (fold counted l.counts.items (drop l.row-index l.fn.rows) ≡ fold counted (replicate l.fn.commands 0) l.fn.rows) × AreFew l.row-index l.counts.items
