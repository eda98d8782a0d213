use Rattle.std.proofs.Common.{refl, sym}
use Rattle.std.proofs.lemmas.List.{append-nil}
use Rattle.hwp_script_lines.specs.declared.ScriptLine.TheVariants as forms
use Rattle.hwp_script_read.proofs.CleanLaws.{clean_page}
use Rattle.hwp_script_read.proofs.SumLaws.{next_sums, same_marks}
use Rattle.hwp_script_read.proofs.context.Summary.add_page.Goals as goal

pub returns : goal.returns
returns c =
    let k = clean_page c.requires.clean in
    next_sums _ (forms.Page c.args.page c.args.backing c.args.locked) _ _ c.requires.sums (k.placed.late)
    refl refl c.in_ok-push-2.ensures refl refl refl (same_marks c.requires.sums) refl refl refl refl refl (cc (c.page_kind.ensures, c.in_ok-push.ensures)) refl refl refl refl (sym (append-nil _)) c.requires.sums.within refl refl refl
