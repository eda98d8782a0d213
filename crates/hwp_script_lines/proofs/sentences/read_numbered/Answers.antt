use Rattle.hwp_script_lines.proofs.KeywordLaws.{numbered_sentence, numbered_misfit}
use Rattle.hwp_script_lines.proofs.sentences.read_numbered.Goals as goal

pub returns-in-Ok : goal.returns-in-Ok
returns-in-Ok c = rw c.numbered_form.ensures (numbered_sentence c.args.keyword c.requires _ c.in-Ok.number c.in-Ok.ensures.0 c.in-Ok.ensures.1)

pub returns-in-Err : goal.returns-in-Err
returns-in-Err c = numbered_misfit c.args.keyword c.requires _ c.in-Err.misfit c.in-Err.ensures
