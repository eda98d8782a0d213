use Rattle.std.proofs.Common.{◌≡◌, take}
use Rattle.std.specs.List.{sum_by}
use Rattle.hwp_check_rules.specs.Standing.{entry_height}
use Rattle.hwp_check_rules.proofs.standing.entries_height.Given as goal

abbrev pub invariant-loop-entry : goal.invariant-loop-entry
invariant-loop-entry l = l.lines ≡ sum_by entry_height (take l.entry-index l.fn.entries)
