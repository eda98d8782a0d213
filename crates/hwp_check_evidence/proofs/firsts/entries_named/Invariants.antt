use Rattle.std.proofs.Common.{◌≡◌, ◌++◌, drop, map}
use Rattle.hwp_check_evidence.specs.Firsts.{entry_of}
use Rattle.hwp_check_evidence.proofs.firsts.entries_named.Given as goal

abbrev pub invariant-loop-answer : goal.invariant-loop-answer
invariant-loop-answer l = l.places.items ++ map entry_of (drop l.answer-index l.fn.list) ≡ map entry_of l.fn.list
