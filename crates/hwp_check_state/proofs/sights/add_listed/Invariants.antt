use Rattle.std.proofs.Common.{◌≡◌, ◌+◌, ◌++◌, drop}
use Rattle.hwp_check_state.specs.Sights.{listed_sights}
use Rattle.hwp_check_state.proofs.sights.add_listed.Given as goal

abbrev pub invariant-loop-seen : goal.invariant-loop-seen
invariant-loop-seen l =
    (l.line ≡ l.fn.first + l.seen-index)
    × (l.out.items ++ listed_sights l.fn.who l.line (drop l.seen-index l.fn.list) ≡ l.fn.out.items ++ listed_sights l.fn.who l.fn.first l.fn.list)
