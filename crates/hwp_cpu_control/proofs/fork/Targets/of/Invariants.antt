use Rattle.std.proofs.Common.{◌≡◌, ◌≤◌, length, take}
use Rattle.hwp_core_rule.specs.hwp_geom.Limits.{thread_limit}
use Rattle.hwp_cpu_control.specs.Forks.{threads_of}
use Rattle.hwp_cpu_control.proofs.fork.Targets.of.Given as goal

abbrev pub invariant-loop-number : goal.invariant-loop-number
invariant-loop-number l =
    (l.targets.count ≤ l.number) × (length l.targets.threads ≡ thread_limit) × (take l.targets.count l.targets.threads ≡ threads_of l.process 0 (take l.number l.layout.threads))
