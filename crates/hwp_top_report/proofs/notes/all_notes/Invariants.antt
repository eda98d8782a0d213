use Rattle.std.proofs.Common.{◌≡◌, take}
use Rattle.hwp_law_served.specs.Runs.{notes_of}
use Rattle.hwp_top_report.proofs.notes.all_notes.Given as goal

abbrev pub invariant-loop-cpu : goal.invariant-loop-cpu
invariant-loop-cpu l = l.notes.items ≡ notes_of 0 (take l.cpu l.fn.rows)
