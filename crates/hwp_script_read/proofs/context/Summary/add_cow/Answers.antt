use Rattle.std.proofs.Common.{length, refl, sym, ap, arith}
use Rattle.std.proofs.lemmas.List.{append-nil}
use Rattle.hwp_script_lines.specs.declared.ScriptLine.TheVariants as forms
use Rattle.hwp_script_read.proofs.ContextLaws.{twins-long}
use Rattle.hwp_script_read.proofs.CleanLaws.{clean_cow, cow_declared, small_twin}
use Rattle.hwp_script_read.proofs.SumLaws.{next_sums, same_marks}
use Rattle.hwp_script_read.proofs.context.Summary.add_cow.Goals as goal

pub set_twin-requires-clause-slot : goal.set_twin-requires-clause-slot
set_twin-requires-clause-slot c = omega (arith, cow_declared c.requires.clean, twins-long c.args.above.now, ap length c.requires.sums.twins)

pub set_twin-requires-clause-twin : goal.set_twin-requires-clause-twin
set_twin-requires-clause-twin c = small_twin c.requires.clean

pub returns : goal.returns
returns c =
    let k = clean_cow c.requires.clean in
    next_sums _ (forms.Cow c.args.slot c.args.twin) _ _ c.requires.sums (k.placed.late)
    refl refl refl refl refl refl (same_marks c.requires.sums) refl refl refl refl refl refl refl refl refl refl (sym (append-nil _)) c.requires.sums.within refl c.set_twin.ensures refl
