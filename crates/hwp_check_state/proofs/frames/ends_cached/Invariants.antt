use Rattle.std.proofs.Common.{◌≡◌, false, drop}
use Rattle.hwp_check_state.specs.Frames.{cached_after}
use Rattle.hwp_check_state.proofs.frames.ends_cached.Given as goal

abbrev pub invariant-loop-entry : goal.invariant-loop-entry
invariant-loop-entry l = cached_after l.cached (drop l.entry-index l.fn.entries) ≡ cached_after false l.fn.entries
