use Rattle.std.proofs.Common.{◌≡◌, ◌+◌, drop, take, sum_by}
use Rattle.hwp_check_rules.specs.Standing.{entry_height}
use Rattle.hwp_check_marks.specs.Needed.{is_misrequired}
use Rattle.hwp_check_marks.specs.Walks.{walk_entries}
use Rattle.hwp_check_marks.proofs.misrequired.walk_entries.Given as goal

abbrev pub invariant-loop-entry : goal.invariant-loop-entry
invariant-loop-entry l =
    (walk_entries (is_misrequired l.fn.needed l.fn.urgent) (λ e line. line) l.line l.lowest (drop l.entry-index l.fn.entries) ≡ walk_entries (is_misrequired l.fn.needed l.fn.urgent) (λ e line. line) l.fn.first l.fn.found l.fn.entries)
    × (l.line ≡ l.fn.first + sum_by entry_height (take l.entry-index l.fn.entries))
