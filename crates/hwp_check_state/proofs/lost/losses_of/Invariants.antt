use Rattle.std.proofs.Common.{◌≡◌, take}
use Rattle.std.specs.List.{zip}
use Rattle.hwp_check_state.specs.Lost.{page_losses}
use Rattle.hwp_check_state.proofs.lost.losses_of.Given as goal

abbrev pub invariant-loop-page : goal.invariant-loop-page
invariant-loop-page l = l.out.items ≡ page_losses (zip (take l.page l.fn.kinds) (take l.page l.fn.pages))
