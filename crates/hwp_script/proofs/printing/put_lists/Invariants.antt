use Rattle.std.proofs.Common.{◌≡◌, ◌++◌, string_bytes, take}
use Rattle.hwp_script.specs.Printed.{forms_text}
use Rattle.hwp_script.specs.Text.{numbered, list_forms}
use Rattle.hwp_script.proofs.printing.put_lists.Given as goal

abbrev pub invariant-loop-number : goal.invariant-loop-number
invariant-loop-number l = string_bytes l.out ≡ string_bytes l.fn.out ++ forms_text (numbered list_forms 0 (take l.number l.fn.lists))
