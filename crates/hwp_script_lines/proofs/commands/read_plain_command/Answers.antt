use Rattle.hwp_script_lines.proofs.NumberLaws.{plain_command, plain_misfit, plain_over}
use Rattle.hwp_script_lines.proofs.commands.read_plain_command.Goals as goal

pub returns-in-Some : goal.returns-in-Some
returns-in-Some c =
    rw c.in-Some.ensures.0 (plain_command c.args.word c.requires _ c.in-Ok.numbers (rw c.number_count.ensures.count at c.in-Ok.ensures) c.in-Some.ensures.1)

pub returns-in-None : goal.returns-in-None
returns-in-None c = plain_over c.args.word c.requires _ c.in-Ok.numbers (rw c.number_count.ensures.count at c.in-Ok.ensures) c.in-None.ensures

pub returns-in-Err : goal.returns-in-Err
returns-in-Err c = plain_misfit c.args.word c.requires _ c.in-Err.misfit (rw c.number_count.ensures.count at c.in-Err.ensures)
