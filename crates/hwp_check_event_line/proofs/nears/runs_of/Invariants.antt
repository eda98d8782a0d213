use Rattle.std.proofs.Common.{◌≡◌, ◌+◌, ◌≤◌, drop, length, not}
use Rattle.hwp_check_event_line.specs.Nears.{run, runs}
use Rattle.hwp_check_event_line.proofs.nears.runs_of.Given as goal

abbrev pub invariant-loop-place : goal.invariant-loop-place
invariant-loop-place l =
    (length l.list.items ≡ length l.fn.marks)
    × (l.run ≡ run l.last (drop l.place l.fn.marks))
    × (run (not l.last) (drop l.place l.fn.marks) ≡ 0)
    × (l.run + l.place ≤ length l.fn.marks)
    × (drop l.place l.list.items ≡ runs (drop l.place l.fn.marks))
