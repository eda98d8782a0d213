use Rattle.std.proofs.Common.{◌≡◌, take}
use Rattle.hwp_check_evidence.specs.Ends.{numbers_of}
use Rattle.hwp_check_evidence.proofs.ends.process_numbers.Given as goal

abbrev pub invariant-loop-thread : goal.invariant-loop-thread
invariant-loop-thread l = l.numbers ≡ numbers_of (take l.thread-index l.fn.threads)
