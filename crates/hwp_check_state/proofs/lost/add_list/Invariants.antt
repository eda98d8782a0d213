use Rattle.std.proofs.Common.{◌≡◌, ◌++◌, drop}
use Rattle.hwp_check_state.specs.Lost.{list_losses}
use Rattle.hwp_check_state.proofs.lost.add_list.Given as goal

abbrev pub invariant-loop-entry : goal.invariant-loop-entry
invariant-loop-entry l = l.out.items ++ list_losses l.fn.file (drop l.entry-index l.fn.entries) ≡ l.fn.out.items ++ list_losses l.fn.file l.fn.entries
