use Rattle.std.proofs.Common.{◌≡◌, ◌+◌, ◌++◌, drop, take}
use Rattle.std.specs.List.{sum_by}
use Rattle.hwp_check_state.specs.Sights.{page_sights}
use Rattle.hwp_check_rules.specs.Standing.{entry_height}
use Rattle.hwp_check_state.proofs.sights.add_page.Given as goal

abbrev pub invariant-loop-entry : goal.invariant-loop-entry
invariant-loop-entry l =
    (l.line ≡ l.fn.first + sum_by entry_height (take l.entry-index l.fn.entries))
    × (l.out.items ++ page_sights l.line (drop l.entry-index l.fn.entries) ≡ l.fn.out.items ++ page_sights l.fn.first l.fn.entries)
