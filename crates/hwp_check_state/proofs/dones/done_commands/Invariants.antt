use Rattle.hwp_check_state.specs.Frames.{AreDoneBelow}
use Rattle.hwp_check_state.proofs.dones.done_commands.Given as goal

abbrev pub invariant-loop-number : goal.invariant-loop-number
invariant-loop-number l = AreDoneBelow l.number l.fn.script l.fn.report l.out.items
