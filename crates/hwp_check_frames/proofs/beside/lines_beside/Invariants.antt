use Rattle.std.proofs.Common.{◌≡◌, ◌+◌, ◌≤◌, ℕ, drop, sum_by, take}
use Rattle.hwp_check_rules.specs.Standing.{cpu_height}
use Rattle.hwp_check_frames.specs.Beside.{cpus_beside}
use Rattle.hwp_check_frames.specs.Counts.{at_key}
use Rattle.hwp_check_frames.proofs.beside.lines_beside.Given as goal

abbrev pub invariant-loop-cpu : goal.invariant-loop-cpu
invariant-loop-cpu l =
    ((q : (ℕ × ℕ) × ℕ) → at_key l.lines q + cpus_beside l.cpu q (drop l.cpu l.fn.report.cpus) ≡ cpus_beside 0 q l.fn.report.cpus)
    × ((q : (ℕ × ℕ) × ℕ) → at_key l.lines q ≤ sum_by cpu_height (take l.cpu l.fn.report.cpus))
