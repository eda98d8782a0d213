use Rattle.std.proofs.Common.{◌≡◌, ◌+◌, None, drop, take, sum_by}
use Rattle.hwp_check_rules.specs.Standing.{page_height}
use Rattle.hwp_check_marks.specs.Needed.{is_misrequired}
use Rattle.hwp_check_marks.specs.Walks.{walk_pages}
use Rattle.hwp_check_marks.proofs.misrequired.walk_pages.Given as goal

abbrev pub invariant-loop-list : goal.invariant-loop-list
invariant-loop-list l =
    (walk_pages (is_misrequired l.fn.needed l.fn.urgent) (λ e line. line) l.line l.lowest (drop l.list-index l.fn.pages) ≡ walk_pages (is_misrequired l.fn.needed l.fn.urgent) (λ e line. line) l.fn.first None l.fn.pages)
    × (l.line ≡ l.fn.first + sum_by page_height (take l.list-index l.fn.pages))
