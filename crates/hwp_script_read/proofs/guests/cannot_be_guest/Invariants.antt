use Rattle.hwp_script_lines.specs.hwp_script_words.Guests.{bars_guest}
use Rattle.hwp_script_read.proofs.PairsWalk.{IsNoOne}
use Rattle.hwp_script_read.proofs.guests.cannot_be_guest.Given as goal

abbrev pub invariant-loop-thread : goal.invariant-loop-thread
invariant-loop-thread l = IsNoOne (bars_guest l.fn.threads l.fn.process) l.fn.threads l.thread-index
