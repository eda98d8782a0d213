use Rattle.std.proofs.Common.{◌≡◌, ◌≤◌, ◌++◌, drop, map}
use Rattle.hwp_law.specs.Copies.{checks_by}
use Rattle.hwp_check_events.specs.Copied.{own_whats, pair_of, test_of}
use Rattle.hwp_check_events.proofs.copied.gather.Given as goal

abbrev pub invariant-loop-entry : goal.invariant-loop-entry
invariant-loop-entry l =
    (l.before ≤ l.entry-index)
    × (map pair_of l.checks.items ++ checks_by (test_of l.fn.counted) l.before (own_whats l.fn.who (drop l.entry-index l.fn.entries)) ≡ checks_by (test_of l.fn.counted) 0 (own_whats l.fn.who l.fn.entries))
