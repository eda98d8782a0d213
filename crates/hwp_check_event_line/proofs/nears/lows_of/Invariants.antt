use Rattle.std.proofs.Common.{◌≡◌, drop, length}
use Rattle.hwp_check_event_line.specs.Nears.{lowest, lows}
use Rattle.hwp_check_event_line.proofs.nears.lows_of.Given as goal

abbrev pub invariant-loop-place : goal.invariant-loop-place
invariant-loop-place l =
    (length l.list.items ≡ length l.fn.marks) × (l.low ≡ lowest l.fn.cpu (drop l.place l.fn.marks)) × (drop l.place l.list.items ≡ lows l.fn.cpu (drop l.place l.fn.marks))
