use Rattle.std.proofs.Common.{◌≡◌, false, map, take}
use Rattle.hwp_check_state.specs.Frames.{cached_after}
use Rattle.hwp_check_state.proofs.frames.ends_of.Given as goal

abbrev pub invariant-loop-entries : goal.invariant-loop-entries
invariant-loop-entries l = l.ends.items ≡ map (cached_after false) (take l.entries-index l.fn.pages)
