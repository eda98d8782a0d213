use Rattle.std.proofs.Common.{length, true, refl, sym, ◌∙◌, ap}
use Rattle.std.proofs.lemmas.List.{append-nil, length-set}
use Rattle.hwp_script_lines.specs.declared.ScriptLine.TheVariants as forms
use Rattle.hwp_script_read.proofs.CleanLaws.{clean_kernel}
use Rattle.hwp_script_read.proofs.SumLaws.{next_sums, one_mark}
use Rattle.hwp_script_read.proofs.context.Summary.add_kernel.Goals as goal

pub returns : goal.returns
returns c =
    let k = clean_kernel c.requires.clean in
    next_sums _ (forms.Kernel c.args.frame) _ _ c.requires.sums (k.placed.late)
    refl refl refl refl refl (ap length c.mark.ensures ∙ length-set c.args.self.now.kernel.items c.args.frame true)
    (rw c.mark.ensures (one_mark c.args.frame c.requires.sums k.declared)) refl refl refl refl refl refl refl refl refl refl (sym (append-nil _)) c.requires.sums.within refl refl refl
