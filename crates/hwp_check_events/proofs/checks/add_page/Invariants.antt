use Rattle.std.proofs.Common.{◌≡◌, ◌++◌, drop}
use Rattle.hwp_check_events.specs.Indexed.{page_checkers}
use Rattle.hwp_check_events.proofs.checks.add_page.Given as goal

abbrev pub invariant-loop-entry : goal.invariant-loop-entry
invariant-loop-entry l = l.out.items ++ page_checkers (drop l.entry-index l.fn.entries) ≡ l.fn.out.items ++ page_checkers l.fn.entries
