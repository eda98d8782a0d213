use Rattle.std.proofs.Common.{◌≡◌, ◌+◌, ◌≤◌, drop}
use Rattle.hwp_check_evidence.specs.Ample.{usable_by}
use Rattle.hwp_check_evidence.proofs.ample.usable_by.Given as goal

abbrev pub invariant-loop-number : goal.invariant-loop-number
invariant-loop-number l = (l.count ≤ l.number) × (l.count + usable_by l.fn.flags l.number (drop l.number l.fn.kernels) ≡ usable_by l.fn.flags 0 l.fn.kernels)
