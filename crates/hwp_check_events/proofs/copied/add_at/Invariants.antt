use Rattle.std.proofs.Common.{◌≡◌, ◌++◌, drop, map}
use Rattle.hwp_law.specs.Copies.{lines_at}
use Rattle.hwp_check_events.specs.Copied.{pair_of}
use Rattle.hwp_check_events.proofs.copied.add_at.Given as goal

abbrev pub invariant-loop-check : goal.invariant-loop-check
invariant-loop-check l = l.out.items ++ lines_at l.fn.n (map pair_of (drop l.check-index l.fn.checks)) ≡ l.fn.out.items ++ lines_at l.fn.n (map pair_of l.fn.checks)
