use Rattle.std.proofs.Common.{refl, sym, arith}
use Rattle.std.proofs.lemmas.List.{append-nil, length-replicate}
use Rattle.hwp_script_lines.specs.declared.ScriptLine.TheVariants as forms
use Rattle.hwp_script_read.proofs.CleanLaws.{clean_frames}
use Rattle.hwp_script_read.proofs.SumLaws.{next_sums, no_marks}
use Rattle.hwp_script_read.proofs.context.Summary.add_frames.Goals as goal

pub returns : goal.returns
returns c =
    let k = clean_frames c.requires.clean in
    next_sums _ (forms.Frames c.args.n) _ _ c.requires.sums (k.late)
    refl refl refl refl (omega (arith, c.requires.sums.frames, k.first)) (rw (c.in_ok-self.ensures, length-replicate) (omega (arith, c.requires.sums.marks, k.first)))
    (rw c.in_ok-self.ensures (no_marks c.args.n c.requires.sums k.first)) refl refl refl refl refl refl refl refl refl refl (sym (append-nil _)) c.requires.sums.within refl refl refl
