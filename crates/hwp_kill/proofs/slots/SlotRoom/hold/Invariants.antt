use Rattle.std.proofs.Common.{◌≡◌, ◌≤◌, take, vec_capacity}
use Rattle.hwp_kill.specs.Limits.{word_limit}
use Rattle.hwp_kill.proofs.slots.SlotRoom.hold.Given as goal

abbrev pub invariant-loop-word : goal.invariant-loop-word
invariant-loop-word l = (l.words.items ≡ take l.word-index l.used) × (word_limit ≤ vec_capacity l.words)
