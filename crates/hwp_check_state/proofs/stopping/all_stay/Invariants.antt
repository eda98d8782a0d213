use Rattle.std.proofs.Common.{◌≡◌, drop}
use Rattle.hwp_check_state.specs.Stopping.{all_stay}
use Rattle.hwp_check_state.proofs.stopping.all_stay.Given as goal

abbrev pub invariant-loop-rows : goal.invariant-loop-rows
invariant-loop-rows l = all_stay (drop l.rows-index l.fn.cpus) ≡ all_stay l.fn.cpus
