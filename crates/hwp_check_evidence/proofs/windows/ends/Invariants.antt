use Rattle.std.proofs.Common.{◌≡◌, ◌++◌, drop}
use Rattle.hwp_check_evidence.specs.Windows.{ends_from}
use Rattle.hwp_check_evidence.proofs.windows.ends.Given as goal

abbrev pub invariant-loop-entry : goal.invariant-loop-entry
invariant-loop-entry l = l.list ++ ends_from l.fn.cpu l.end (drop l.entry-index l.fn.entries) ≡ ends_from l.fn.cpu 0 l.fn.entries
