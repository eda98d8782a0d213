use Rattle.std.proofs.Common.{◌≡◌, take}
use Rattle.hwp_script_read.specs.Reasons.{top_cpu}
use Rattle.hwp_script_read.proofs.faults.highest_cpu.Given as goal

abbrev pub invariant-loop-word : goal.invariant-loop-word
invariant-loop-word l = l.highest ≡ top_cpu (take l.word-index l.words)
