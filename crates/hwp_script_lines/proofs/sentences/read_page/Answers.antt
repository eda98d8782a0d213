use Rattle.hwp_script_lines.proofs.PageLaws.{locked_misfit}
use Rattle.hwp_script_lines.proofs.sentences.read_page.Goals as goal

pub returns-in-Err : goal.returns-in-Err
returns-in-Err c = locked_misfit _ _ c.in-Err.misfit c.in-Some.ensures c.in-Err.ensures
