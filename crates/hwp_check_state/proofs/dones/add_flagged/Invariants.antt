use Rattle.std.proofs.Common.{◌≡◌, ◌++◌, drop}
use Rattle.hwp_check_state.specs.Frames.{flagged}
use Rattle.hwp_check_state.proofs.dones.add_flagged.Given as goal

abbrev pub invariant-loop-number : goal.invariant-loop-number
invariant-loop-number l = l.out.items ++ flagged (drop l.number l.fn.commands) (drop l.number l.fn.flags) ≡ l.fn.out.items ++ flagged l.fn.commands l.fn.flags
