use Rattle.std.proofs.Common.{◌≡◌, drop}
use Rattle.hwp_check_rules.specs.hwp_law.Private.{freeze_from}
use Rattle.hwp_check_processes.proofs.words.frozen_at.Given as goal

abbrev pub invariant-loop-number : goal.invariant-loop-number
invariant-loop-number l = freeze_from l.fn.layout l.fn.slot l.number (drop l.number l.fn.pairs) ≡ freeze_from l.fn.layout l.fn.slot 0 l.fn.pairs
