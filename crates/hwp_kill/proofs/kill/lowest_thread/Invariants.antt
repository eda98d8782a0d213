use Rattle.std.proofs.Common.{◌<◌, ◌≤◌}
use Rattle.hwp_geom.specs.declared.Thread.{Thread}
use Rattle.hwp_kill.specs.Kill.{IsIn}
use Rattle.hwp_kill.proofs.kill.lowest_thread.Given as goal

abbrev pub invariant-loop-number : goal.invariant-loop-number
invariant-loop-number l = (thread : Thread) → l.fn.from ≤ thread.0 → thread.0 < l.number → IsIn l.layout thread l.process → ⊥
