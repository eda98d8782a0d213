use Rattle.hwp_script_lines.specs.hwp_script_words.Guests.{is_apart}
use Rattle.hwp_script_read.proofs.PairsWalk.{IsNoOne}
use Rattle.hwp_script_read.proofs.guests.is_parted.Given as goal

abbrev pub invariant-loop-other : goal.invariant-loop-other
invariant-loop-other l = IsNoOne (is_apart l.fn.process l.fn.thread) l.fn.threads l.other-index
