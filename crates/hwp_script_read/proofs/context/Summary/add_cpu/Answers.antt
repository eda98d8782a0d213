use Rattle.std.proofs.Common.{refl, sym, arith}
use Rattle.std.proofs.lemmas.List.{append-nil}
use Rattle.hwp_script_lines.specs.declared.ScriptLine.TheVariants as forms
use Rattle.hwp_script_read.proofs.CleanLaws.{clean_cpu}
use Rattle.hwp_script_read.proofs.SumLaws.{next_sums, same_marks}
use Rattle.hwp_script_read.proofs.context.Summary.add_cpu.Goals as goal

pub returns : goal.returns
returns c =
    let k = clean_cpu c.requires.clean in
    next_sums _ (forms.Cpu c.args.cpu) _ _ c.requires.sums (k.placed.late)
    refl refl refl refl refl refl (same_marks c.requires.sums) refl refl refl refl refl refl refl c.in_ok-push.ensures refl refl (sym (append-nil _)) (omega (arith, k.cpu, c.requires.sums.cpus)) refl refl refl
