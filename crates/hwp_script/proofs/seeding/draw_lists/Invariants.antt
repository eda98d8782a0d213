use Rattle.std.proofs.Common.{◌≡◌}
use Rattle.hwp_script.specs.Generated.{lists}
use Rattle.hwp_script.proofs.seeding.draw_lists.Given as goal

abbrev pub invariant-loop-cpu : goal.invariant-loop-cpu
invariant-loop-cpu l = (l.lists, l.rng) ≡ lists l.cpu l.fn.rng
