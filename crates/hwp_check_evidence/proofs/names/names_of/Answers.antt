use Rattle.std.proofs.Common.{List, Option, ap, map, ◌∙◌}
use Rattle.hwp_law.specs.hwp_report_text.declared.Answer.{Answer}
use Rattle.hwp_check_evidence.specs.Firsts.{entry_of}
use Rattle.hwp_check_evidence.proofs.NameLaws.{names_are}
use Rattle.hwp_check_evidence.proofs.names.names_of.Goals as goal

pub returns : goal.returns
returns c =
    names_are c.args.rows.now c.args.commands c.in_ok-first.first.items (record { answers = c.in_ok-answers.answers; beside = c.in_ok-beside.beside }) c.in_ok-first.ensures.many c.in_ok-first.ensures.answers
    (c.in_ok-answers.ensures ∙ ap (λ (l : List (Option Answer)). map entry_of l) c.as_slice.ensures.value) c.in_ok-beside.ensures
