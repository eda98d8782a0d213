use Rattle.std.proofs.Common.{◌≡◌, fold, replicate, take}
use Rattle.hwp_check_state.specs.Frames.{with_bad, with_weak}
use Rattle.hwp_check_state.proofs.frames.marked_by.Given as goal

abbrev pub invariant-loop-command : goal.invariant-loop-command
invariant-loop-command l =
    (l.bad.items ≡ fold with_bad (replicate l.fn.frames 0) (take l.command-index l.fn.done)) × (l.weak.items ≡ fold with_weak (replicate l.fn.frames 0) (take l.command-index l.fn.done))
