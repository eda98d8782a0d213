use Rattle.std.proofs.Common.{◌≡◌, take}
use Rattle.std.specs.List.{sum_by}
use Rattle.hwp_check_rules.specs.Standing.{page_height}
use Rattle.hwp_check_rules.proofs.standing.pages_height.Given as goal

abbrev pub invariant-loop-page : goal.invariant-loop-page
invariant-loop-page l = l.lines ≡ sum_by page_height (take l.page-index l.fn.pages)
