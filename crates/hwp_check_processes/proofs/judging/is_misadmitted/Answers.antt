use Rattle.std.proofs.Common.{◌≡◌, ◌<◌, Some, ap, length, slice_get, sym, ◌∙◌}
use Rattle.std.proofs.lemmas.Bool.{ltb-true}
use Rattle.std.proofs.lemmas.Option.{slice_get-get_or}
use Rattle.hwp_check_processes.proofs.JudgeLaws.{answered_there}
use Rattle.hwp_check_processes.proofs.judging.is_misadmitted.Goals as goal

pub returns : goal.returns
returns c =
    let within : c.args.seq < length c.args.commands.now = ltb-true c.args.seq (length c.args.commands.now) (sym c.in-Some.ensures.lookup.0) in
    let made : slice_get c.args.commands.now c.args.seq ≡ Some c.in-Some.field-0.now = slice_get-get_or c.args.commands.now c.args.seq c.in-Some.field-0.now within ∙ ap Some (sym c.in-Some.ensures.lookup.1) in
    answered_there c.args.commands.now c.args.admits.now c.args.flags.now c.args.seq c.args.answer c.in-Some.field-0.now c.admit_at.result c.flag_at.result c.is_admitted.result made
    c.admit_at.ensures c.flag_at.ensures c.is_admitted.ensures
