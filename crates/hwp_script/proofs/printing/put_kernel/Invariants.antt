use Rattle.std.proofs.Common.{◌≡◌, ◌++◌, string_bytes, take}
use Rattle.hwp_script.specs.Printed.{forms_text}
use Rattle.hwp_script.specs.Text.{numbered, kernel_forms}
use Rattle.hwp_script.proofs.printing.put_kernel.Given as goal

abbrev pub invariant-loop-number : goal.invariant-loop-number
invariant-loop-number l = string_bytes l.out ≡ string_bytes l.fn.out ++ forms_text (numbered kernel_forms 0 (take l.number l.fn.kernel))
