use Rattle.std.proofs.Common.{take}
use Rattle.std.specs.List.{All}
use Rattle.hwp_check_state.specs.Lost.{IsSmall}
use Rattle.hwp_check_state.proofs.lost.all_small.Given as goal

abbrev pub invariant-loop-loss : goal.invariant-loop-loss
invariant-loop-loss l = All IsSmall (take l.loss-index l.fn.list)
