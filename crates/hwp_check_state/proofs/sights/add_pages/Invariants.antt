use Rattle.std.proofs.Common.{◌≡◌, ◌+◌, ◌++◌, drop, take}
use Rattle.std.specs.List.{sum_by}
use Rattle.hwp_check_state.specs.Sights.{pages_sights}
use Rattle.hwp_check_rules.specs.Standing.{page_height}
use Rattle.hwp_check_state.proofs.sights.add_pages.Given as goal

abbrev pub invariant-loop-entries : goal.invariant-loop-entries
invariant-loop-entries l =
    (l.line ≡ l.fn.first + sum_by page_height (take l.entries-index l.fn.pages))
    × (l.out.items ++ pages_sights l.line (drop l.entries-index l.fn.pages) ≡ l.fn.out.items ++ pages_sights l.fn.first l.fn.pages)
