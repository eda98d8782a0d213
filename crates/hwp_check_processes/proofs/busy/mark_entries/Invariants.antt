use Rattle.std.proofs.Common.{◌≡◌, drop, fold}
use Rattle.hwp_check_processes.specs.Busy.{marked_by, marked_in}
use Rattle.hwp_check_processes.proofs.busy.mark_entries.Given as goal

abbrev pub invariant-loop-entry : goal.invariant-loop-entry
invariant-loop-entry l = fold (marked_by l.fn.cpu) l.flags.items (drop l.entry-index l.fn.entries) ≡ marked_in l.fn.cpu l.fn.flags.items l.fn.entries
