use Rattle.std.proofs.Common.{◌≡◌, ◌≤◌, ◌+◌, ◌-◌, vec_len, vec_capacity}
use Rattle.hwp_script.specs.Commands.{command}
use Rattle.hwp_script.specs.Generated.{many}
use Rattle.hwp_script.proofs.seeding.draw_list.Given as goal

abbrev pub invariant-loop-number : goal.invariant-loop-number
invariant-loop-number l = ((l.list.items, l.rng) ≡ many (command l.fn.cpu) l._number l.fn.rng) × (vec_len l.list + (l.fn.count - l._number) ≤ vec_capacity l.list)
