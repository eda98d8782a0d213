use Rattle.std.proofs.Common.{◌≡◌, ◌++◌, drop}
use Rattle.hwp_check_events.specs.Indexed.{all_checkers}
use Rattle.hwp_check_events.proofs.checks.add_pages.Given as goal

abbrev pub invariant-loop-entries : goal.invariant-loop-entries
invariant-loop-entries l = l.out.items ++ all_checkers (drop l.entries-index l.fn.pages) ≡ l.fn.out.items ++ all_checkers l.fn.pages
