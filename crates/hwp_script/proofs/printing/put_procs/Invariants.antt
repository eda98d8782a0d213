use Rattle.std.proofs.Common.{◌≡◌, ◌++◌, string_bytes}
use Rattle.hwp_script.specs.Printed.{forms_text}
use Rattle.hwp_script.specs.Text.{counted, proc_form}
use Rattle.hwp_script.proofs.printing.put_procs.Given as goal

abbrev pub invariant-loop-process : goal.invariant-loop-process
invariant-loop-process l = string_bytes l.out ≡ string_bytes l.fn.out ++ forms_text (counted proc_form l.process)
