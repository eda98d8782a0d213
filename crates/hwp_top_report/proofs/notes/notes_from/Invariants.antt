use Rattle.std.proofs.Common.{◌≡◌, take}
use Rattle.hwp_law_served.specs.Rows.{notes_from}
use Rattle.hwp_top_report.proofs.notes.notes_from.Given as goal

abbrev pub invariant-loop-number : goal.invariant-loop-number
invariant-loop-number l = l.notes.items ≡ notes_from l.fn.cpu 0 (take l.number l.fn.rows)
