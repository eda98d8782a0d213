use Rattle.std.proofs.Common.{refl, sym, arith}
use Rattle.std.proofs.lemmas.List.{append-nil}
use Rattle.hwp_script_lines.specs.declared.ScriptLine.TheVariants as forms
use Rattle.hwp_script_read.proofs.CleanLaws.{clean_cpus}
use Rattle.hwp_script_read.proofs.SumLaws.{next_sums, same_marks, within_more}
use Rattle.hwp_script_read.proofs.context.Summary.add_cpus.Goals as goal

pub returns : goal.returns
returns c =
    let k = clean_cpus c.requires.clean in
    next_sums _ (forms.Cpus c.args.n) _ _ c.requires.sums (k.late)
    refl refl refl (omega (arith, c.requires.sums.cpus, k.first)) refl refl (same_marks c.requires.sums) refl refl refl refl refl refl refl refl refl refl (sym (append-nil _)) (within_more _ _ _ (omega (arith, c.requires.sums.cpus, k.first)) c.requires.sums.within) c.in_ok-self.ensures refl refl
