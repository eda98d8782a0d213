use Rattle.std.proofs.Common.{◌≡◌, take}
use Rattle.hwp_check_evidence.specs.Glances.{used_behind}
use Rattle.hwp_check_evidence.proofs.glances.used_behind.Given as goal

abbrev pub invariant-loop-entry : goal.invariant-loop-entry
invariant-loop-entry l = l.used ≡ used_behind l.fn.slot l.fn.first (take l.entry-index l.fn.entries)
