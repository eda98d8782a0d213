use Rattle.std.proofs.Common.{refl, sym, arith}
use Rattle.std.proofs.lemmas.List.{append-nil}
use Rattle.hwp_script_lines.specs.declared.ScriptLine.TheVariants as forms
use Rattle.hwp_script_read.proofs.CleanLaws.{clean_end}
use Rattle.hwp_script_read.proofs.SumLaws.{next_sums, same_marks}
use Rattle.hwp_script_read.proofs.context.Summary.add_end.Goals as goal

pub returns : goal.returns
returns c =
    let k = clean_end c.requires.clean in
    next_sums _ (forms.End) _ _ c.requires.sums (omega (arith, k.late))
    refl refl refl refl refl refl (same_marks c.requires.sums) refl refl refl refl refl refl refl refl refl refl (sym (append-nil _)) tt refl refl refl
