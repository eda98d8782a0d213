use Rattle.std.proofs.Common.{◌≡◌, ◌++◌, ◌∷◌, map, string_bytes, take}
use Rattle.hwp_script.specs.Printed.{forms_text}
use Rattle.hwp_script_read.specs.hwp_script_lines.declared.ScriptLine.TheVariants as forms
use Rattle.hwp_script.proofs.printing.put_list.Given as goal

abbrev pub invariant-loop-command : goal.invariant-loop-command
invariant-loop-command l =
    string_bytes l.out ≡ string_bytes l.fn.out ++ forms_text (forms.Cpu l.fn.number ∷ map forms.Command (take l.command-index l.fn.commands))
