use Rattle.std.proofs.Common.{◌≡◌, ◌≤◌, length, take}
use Rattle.hwp_law.specs.Settings.{settings}
use Rattle.hwp_check_rules.specs.Pasts.{AreCounts, by_flags}
use Rattle.hwp_check_rules.proofs.pasts.counts_of.Given as goal

abbrev pub invariant-loop-number : goal.invariant-loop-number
invariant-loop-number l =
    (l.count ≤ l.number) × AreCounts l.fn.layout l.fn.thread l.fn.commands l.fn.done l.number l.list
    × (l.count ≡ length (settings l.fn.layout l.fn.thread (take l.number (by_flags l.fn.commands l.fn.done))))
