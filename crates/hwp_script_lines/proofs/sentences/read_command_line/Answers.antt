use Rattle.hwp_script_lines.proofs.KeywordLaws.{command_misfit}
use Rattle.hwp_script_lines.proofs.sentences.read_command_line.Goals as goal

pub returns-in-Err : goal.returns-in-Err
returns-in-Err c = command_misfit c.args.word _ c.in-Err.misfit c.in-Err.ensures
