use Rattle.std.proofs.Common.{length, refl, sym, ap, arith}
use Rattle.std.proofs.lemmas.List.{append-nil}
use Rattle.hwp_script_lines.specs.declared.ScriptLine.TheVariants as forms
use Rattle.hwp_script_read.proofs.ContextLaws.{guests-long}
use Rattle.hwp_script_read.proofs.CleanLaws.{clean_guest}
use Rattle.hwp_script_read.proofs.SumLaws.{next_sums, same_marks}
use Rattle.hwp_script_read.proofs.context.Summary.add_guest.Goals as goal

pub mark-requires : goal.mark-requires
mark-requires c = omega (arith, (clean_guest c.requires.clean).declared, guests-long c.args.above.now, ap length c.requires.sums.guests)

pub returns : goal.returns
returns c =
    let k = clean_guest c.requires.clean in
    next_sums _ (forms.Guest c.args.process) _ _ c.requires.sums (k.placed.late)
    refl refl refl refl refl refl (same_marks c.requires.sums) refl refl refl refl refl refl refl refl refl refl (sym (append-nil _)) c.requires.sums.within refl refl c.mark.ensures
