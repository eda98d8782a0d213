use Rattle.std.proofs.Common.{ℕ, ◌<◌}
use Rattle.hwp_kill.specs.Kill.{IsNamedIfAsked}
use Rattle.hwp_kill.proofs.reading.names_the_asked.Given as goal

abbrev pub invariant-loop-number : goal.invariant-loop-number
invariant-loop-number l = (n : ℕ) → n < l.number → IsNamedIfAsked l.layout l.maps l.current l.seen (record { 0 = n })
