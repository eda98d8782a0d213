use Rattle.std.proofs.Common.{◌≡◌, ◌++◌, string_bytes, take}
use Rattle.hwp_script.specs.Printed.{forms_text}
use Rattle.hwp_script.specs.Text.{numbered, trans_forms}
use Rattle.hwp_script.proofs.printing.put_trans.Given as goal

abbrev pub invariant-loop-number : goal.invariant-loop-number
invariant-loop-number l = string_bytes l.out ≡ string_bytes l.fn.out ++ forms_text (numbered trans_forms 0 (take l.number l.fn.trans))
