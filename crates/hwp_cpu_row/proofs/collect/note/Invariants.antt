use Rattle.std.proofs.Common.{◌≡◌, ◌+◌, ◌≤◌, map, take, vec_capacity, vec_len, filter_map}
use Rattle.hwp_cpu_row.specs.Acts.{event_at}
use Rattle.hwp_claim.specs.hwp_law.Notes.{noted_frame}
use Rattle.hwp_cpu_row.specs.Dues.{HasNoted}
use Rattle.hwp_cpu_row.proofs.collect.note.Given as goal

abbrev pub invariant-loop-told : goal.invariant-loop-told
invariant-loop-told l = HasNoted (filter_map (noted_frame l.layout) (map (event_at 0) (take l.told-index l.check))) l.initial.collector l.initial.due.items l.collector l.due.items
    × (vec_len l.due ≤ vec_len l.initial.due + l.told-index) × (vec_capacity l.due ≡ vec_capacity l.initial.due)
