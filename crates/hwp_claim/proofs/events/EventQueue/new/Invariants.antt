use Rattle.std.proofs.Common.{◌≡◌, ◌≤◌, ◌++◌, drop, length, take}
use Rattle.hwp_banks.specs.Events.{bank_count}
use Rattle.hwp_claim.specs.Events.{held_with}
use Rattle.hwp_claim.proofs.events.EventQueue.new.Given as goal

abbrev pub invariant-loop-number : goal.invariant-loop-number
invariant-loop-number l = (take l.count l.held ++ held_with l.number (drop l.number l.banks) (drop l.number l.grades) ≡ held_with 0 l.banks l.grades) × (l.count ≤ l.number) × (length l.held ≡ bank_count)
