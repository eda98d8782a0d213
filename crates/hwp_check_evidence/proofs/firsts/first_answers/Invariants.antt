use Rattle.std.proofs.Common.{◌≡◌, None, drop, fold, replicate}
use Rattle.hwp_check_evidence.specs.Firsts.{answered_by}
use Rattle.hwp_check_evidence.proofs.firsts.first_answers.Given as goal

abbrev pub invariant-loop-row : goal.invariant-loop-row
invariant-loop-row l = fold answered_by l.list.items (drop l.row-index l.fn.rows) ≡ fold answered_by (replicate l.fn.commands None) l.fn.rows
