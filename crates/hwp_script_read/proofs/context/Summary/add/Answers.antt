use Rattle.std.proofs.Common.{refl, sym, arith}
use Rattle.std.proofs.lemmas.List.{append-nil}
use Rattle.hwp_script_lines.specs.declared.ScriptLine.TheVariants as forms
use Rattle.hwp_script_read.proofs.CleanLaws.{clean_header}
use Rattle.hwp_script_read.proofs.SumLaws.{next_sums, same_marks}
use Rattle.hwp_script_read.proofs.context.Summary.add.Goals as goal

pub returns-in-Header : goal.returns-in-Header
returns-in-Header c =
    let first = clean_header _ c.in-Header.version (rw c.in-Header.is at c.requires.clean) in
    rw c.in-Header.is
    (next_sums _ (forms.Header c.in-Header.version) _ _ c.requires.sums (omega arith) (omega (arith, c.requires.sums.group)) refl refl refl refl refl (same_marks c.requires.sums)
    refl refl refl refl refl refl refl refl refl refl (sym (append-nil _)) c.requires.sums.within refl refl refl)
