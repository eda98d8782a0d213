use Rattle.std.proofs.Common.{◌≡◌, drop}
use Rattle.hwp_check_processes.specs.Words.{last_stored}
use Rattle.hwp_check_processes.proofs.words.last_stored.Given as goal

abbrev pub invariant-loop-pair : goal.invariant-loop-pair
invariant-loop-pair l = last_stored l.fn.spot.slot l.fn.spot.line l.last (drop l.pair-index l.fn.pairs) ≡ last_stored l.fn.spot.slot l.fn.spot.line l.fn.first l.fn.pairs
