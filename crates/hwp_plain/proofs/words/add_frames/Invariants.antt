use Rattle.std.proofs.Common.{◌≡◌, ◌++◌, map, take}
use Rattle.hwp_core_rule.specs.Opening.{opening_frame}
use Rattle.hwp_plain.proofs.words.add_frames.Given as goal

abbrev pub invariant-loop-is_kernel : goal.invariant-loop-is_kernel
invariant-loop-is_kernel l = l.words.items ≡ l.fn.words.items ++ map opening_frame (take l.is_kernel-index l.fn.kernel)
