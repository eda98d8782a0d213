use Rattle.std.proofs.Common.{refl}
use Rattle.hwp_script_lines.specs.declared.ScriptLine.TheVariants as forms
use Rattle.hwp_script_read.proofs.CleanLaws.{clean_schedule}
use Rattle.hwp_script_read.proofs.SumLaws.{next_sums, same_marks}
use Rattle.hwp_script_read.proofs.context.Summary.add_schedule.Goals as goal

pub returns : goal.returns
returns c =
    let k = clean_schedule c.requires.clean in
    next_sums _ (forms.Schedule c.args.words.now) _ _ c.requires.sums (k.placed.late)
    refl refl refl refl refl refl (same_marks c.requires.sums) refl refl refl refl refl refl refl refl refl refl c.in_ok-push_words.ensures tt refl refl refl
