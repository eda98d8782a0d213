use Rattle.std.proofs.Common.{refl, sym}
use Rattle.std.proofs.lemmas.List.{append-nil}
use Rattle.hwp_script_lines.specs.declared.ScriptLine.TheVariants as forms
use Rattle.hwp_script_read.proofs.CleanLaws.{clean_recovery}
use Rattle.hwp_script_read.proofs.SumLaws.{next_sums, same_marks}
use Rattle.hwp_script_read.proofs.context.Summary.add_recovery.Goals as goal

pub returns : goal.returns
returns c =
    let k = clean_recovery c.requires.clean in
    next_sums _ (forms.Recovery c.args.value) _ _ c.requires.sums (k.placed.late)
    refl refl refl refl refl refl (same_marks c.requires.sums) (rw (c.requires.sums.recovery, k.first) refl) refl refl refl refl refl refl refl refl refl (sym (append-nil _)) c.requires.sums.within refl refl refl
