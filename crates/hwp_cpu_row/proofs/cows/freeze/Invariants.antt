use Rattle.std.proofs.Common.{◌≡◌, ◌++◌, take, drop, vec_len}
use Rattle.hwp_cpu_row.specs.CowLists.{frozen_from}
use Rattle.hwp_cpu_row.proofs.cows.freeze.Given as goal

abbrev pub invariant-loop-number : goal.invariant-loop-number
invariant-loop-number l = (l.cows.items ≡ frozen_from l.layout l.thread 0 (take l.number l.initial.cows.items) ++ drop l.number l.initial.cows.items) × (vec_len l.cows ≡ vec_len l.initial.cows)
