use Rattle.std.proofs.Common.{◌≡◌, replicate}
use Rattle.hwp_claim.specs.hwp_law.GuestRule.{new_guest}
use Rattle.hwp_cpu_row.proofs.guests.new_guests.Given as goal

abbrev pub invariant-loop-process : goal.invariant-loop-process
invariant-loop-process l = l.guests.items ≡ replicate l._process new_guest
