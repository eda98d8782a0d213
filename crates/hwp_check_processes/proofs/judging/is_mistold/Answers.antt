use Rattle.std.proofs.Common.{◌≡◌, ◌<◌, Some, ap, length, slice_get, sym, ◌∙◌}
use Rattle.std.proofs.lemmas.Bool.{ltb-true}
use Rattle.std.proofs.lemmas.Option.{slice_get-get_or}
use Rattle.hwp_check_processes.proofs.JudgeLaws.{told_there}
use Rattle.hwp_check_processes.proofs.judging.is_mistold.Goals as goal

pub returns-in-Some-answer_behind : goal.returns-in-Some-answer_behind
returns-in-Some-answer_behind c =
    let within : c.args.line.now.seq < length c.args.commands.now = ltb-true c.args.line.now.seq (length c.args.commands.now) (sym c.in-Some.ensures.lookup.0) in
    let made : slice_get c.args.commands.now c.args.line.now.seq ≡ Some c.in-Some.command.now = slice_get-get_or c.args.commands.now c.args.line.now.seq c.in-Some.command.now within ∙ ap Some (sym c.in-Some.ensures.lookup.1) in
    told_there c.args.layout.now c.args.commands.now c.args.rows.now c.args.row c.args.line.now c.in-Some.command.now c.in-Some-answer_behind.answer c.is_told.result made
    (sym c.in-Some-answer_behind.is ∙ c.answer_behind.ensures) c.is_told.ensures
