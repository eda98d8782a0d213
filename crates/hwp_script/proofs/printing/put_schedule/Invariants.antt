use Rattle.std.proofs.Common.{◌≡◌, ◌++◌, string_bytes}
use Rattle.hwp_script.specs.Printed.{forms_text}
use Rattle.hwp_script.specs.Text.{counted, go_row}
use Rattle.hwp_script.proofs.printing.put_schedule.Given as goal

abbrev pub invariant-loop-row : goal.invariant-loop-row
invariant-loop-row l = string_bytes l.out ≡ string_bytes l.fn.out ++ forms_text (counted (go_row l.fn.go) l.row)
