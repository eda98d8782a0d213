use Rattle.std.proofs.Common.{◌≡◌, map, take, length}
use Rattle.hwp_script_words.specs.hwp_geom.Limits.{cpu_limit}
use Rattle.hwp_plain.proofs.scheduler.levels_of.Given as goal

abbrev pub invariant-loop-i : goal.invariant-loop-i
invariant-loop-i g l = (length l.levels ≡ cpu_limit) × (take l.i l.levels ≡ map g.T.Task.task.class (take l.i l.tasks))
