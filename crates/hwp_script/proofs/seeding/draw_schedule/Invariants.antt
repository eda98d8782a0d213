use Rattle.std.proofs.Common.{◌≡◌, ◌≤◌, ◌+◌, ◌-◌, vec_len, vec_capacity}
use Rattle.hwp_script.specs.Generated.{go, many}
use Rattle.hwp_script.proofs.seeding.draw_schedule.Given as goal

abbrev pub invariant-loop-number : goal.invariant-loop-number
invariant-loop-number l = ((l.words.items, l.rng) ≡ many go l._number l.fn.rng) × (vec_len l.words + (l.fn.count - l._number) ≤ vec_capacity l.words)
