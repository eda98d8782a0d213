use Rattle.std.proofs.Common.{◌≡◌, replicate, []}
use Rattle.hwp_script_read.proofs.adding.empty_lists.Given as goal

abbrev pub invariant-loop-cpu : goal.invariant-loop-cpu
invariant-loop-cpu l = l.lists.items ≡ replicate l._cpu []
