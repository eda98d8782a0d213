use Rattle.std.proofs.Common.{◌≡◌, ◌≤◌, take}
use Rattle.hwp_plain.specs.Openings.{usable_in}
use Rattle.hwp_plain.proofs.words.available.Given as goal

abbrev pub invariant-loop-is_kernel : goal.invariant-loop-is_kernel
invariant-loop-is_kernel l = (l.count ≡ usable_in (take l.is_kernel-index l.fn.kernel)) × (l.count ≤ l.is_kernel-index)
