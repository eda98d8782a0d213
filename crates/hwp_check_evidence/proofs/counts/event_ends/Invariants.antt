use Rattle.std.proofs.Common.{◌≡◌, drop, false, fold, replicate}
use Rattle.hwp_check_evidence.specs.Counts.{flagged_by}
use Rattle.hwp_check_evidence.proofs.counts.event_ends.Given as goal

abbrev pub invariant-loop-row : goal.invariant-loop-row
invariant-loop-row l = fold flagged_by l.flags.items (drop l.row-index l.fn.rows) ≡ fold flagged_by (replicate l.fn.commands false) l.fn.rows
