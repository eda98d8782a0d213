use Rattle.std.proofs.Common.{◌≡◌, drop}
use Rattle.hwp_law.specs.Lines.{answer_among}
use Rattle.hwp_check_rules.proofs.rows.answer_among.Given as goal

abbrev pub invariant-loop-row : goal.invariant-loop-row
invariant-loop-row l = answer_among (drop l.row-index l.fn.rows) l.fn.seq ≡ answer_among l.fn.rows l.fn.seq
