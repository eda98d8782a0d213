use Rattle.hwp_script_lines.proofs.NumberLaws.{within}
use Rattle.hwp_script_lines.proofs.KeywordLaws.{cow_sentence}
use Rattle.hwp_script_lines.proofs.sentences.read_cow.Goals as goal

pub returns-in-Ok : goal.returns-in-Ok
returns-in-Ok c = cow_sentence _ c.in-Ok.numbers c.in-Ok.ensures

pub returns-in-Err : goal.returns-in-Err
returns-in-Err c = within _ _ _ c.in-Err.misfit c.in-Err.ensures
