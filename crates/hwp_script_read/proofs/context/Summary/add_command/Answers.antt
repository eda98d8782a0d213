use Rattle.std.proofs.Common.{refl, sym, arith}
use Rattle.std.proofs.lemmas.List.{append-nil}
use Rattle.hwp_script_lines.specs.declared.ScriptLine.TheVariants as forms
use Rattle.hwp_script_read.proofs.CleanLaws.{clean_command}
use Rattle.hwp_script_read.proofs.SumLaws.{next_sums, same_marks, within_more, many_lists}
use Rattle.hwp_script_read.proofs.context.Summary.add_command.Goals as goal

pub overflow_add-self : goal.overflow_add-self
overflow_add-self c = omega (arith, (clean_command c.requires.clean).few, c.requires.sums.commands)

pub push_command-requires : goal.push_command-requires
push_command-requires c = within_more _ _ _ (omega (arith, many_lists c.requires.sums)) c.requires.sums.within

pub returns : goal.returns
returns c =
    let k = clean_command c.requires.clean in
    next_sums _ (forms.Command c.args.command.now) _ _ c.requires.sums (k.placed.late)
    refl refl refl refl refl refl (same_marks c.requires.sums) refl refl refl refl refl refl refl refl refl refl (sym (append-nil _)) c.requires.sums.within c.in_ok-push_command.ensures refl refl
