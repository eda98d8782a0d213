use Rattle.std.proofs.Common.{◌≡◌, ◌+◌, ◌≤◌, List, ◌++◌, length, vec_capacity, vec_len}
use Rattle.hwp_claim.specs.hwp_geom.declared.Frame.{Frame}
use Rattle.hwp_cpu_row.specs.Acts.{told_notes}
use Rattle.hwp_cpu_row.specs.Dues.{HasNoted}
use Rattle.hwp_cpu_row.proofs.collect.collect.Given as goal

-- what was noted so far, and what the events that are left note, is what all of them note
abbrev pub invariant-loop-rest : goal.invariant-loop-rest
invariant-loop-rest l = ((so_far : List Frame) × HasNoted so_far l.initial.collector l.initial.due.items l.collector l.due.items × (told_notes l.layout l.told ≡ so_far ++ told_notes l.layout l.rest))
    × (vec_len l.due + length l.rest ≤ vec_capacity l.due)

abbrev pub decreases-loop-rest : goal.decreases-loop-rest
decreases-loop-rest l = length l.rest
