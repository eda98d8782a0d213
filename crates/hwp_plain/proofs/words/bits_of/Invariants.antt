use Rattle.std.proofs.Common.{◌≡◌, ◌-◌, ◌^◌, ◌<◌, length, drop}
use Rattle.hwp_core_rule.specs.Opening.{free_bits}
use Rattle.hwp_plain.proofs.words.bits_of.Given as goal

abbrev pub invariant-loop-turn : goal.invariant-loop-turn
invariant-loop-turn l = (l.bits ≡ free_bits (drop (length l.fn.kernel - l.turn) l.fn.kernel)) × (l.bits < 2 ^ l.turn)
