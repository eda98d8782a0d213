use Rattle.std.proofs.Common.{◌≡◌, take}
use Rattle.hwp_report.specs.Counts.{capped, signals_in}
use Rattle.hwp_report.proofs.counting.signals_in.Given as goal

abbrev pub invariant-loop-entry : goal.invariant-loop-entry
invariant-loop-entry l = l.sum ≡ capped (signals_in (take l.entry-index l.fn.entries))
