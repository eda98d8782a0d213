use Rattle.std.proofs.Common.{◌≡◌, ◌<◌, Some, ap, is_some, length, slice_get, sym, true, ◌∙◌}
use Rattle.std.proofs.lemmas.Bool.{ltb-false, ltb-true}
use Rattle.std.proofs.lemmas.Option.{slice_get-get_or, slice_get_past}
use Rattle.hwp_check_processes.specs.Telling.{due_by}
use Rattle.hwp_check_processes.proofs.JudgeLaws.{lacks_made, lacks_not, lacks_there}
use Rattle.hwp_check_processes.proofs.judging.lacks_guest.Goals as goal

pub returns-then-is_due : goal.returns-then-is_due
returns-then-is_due c =
    let within : c.args.seq < length c.args.commands.now = ltb-true c.args.seq (length c.args.commands.now) (sym c.in-Some.ensures.lookup.0) in
    let made : slice_get c.args.commands.now c.args.seq ≡ Some c.in-Some.command.now = slice_get-get_or c.args.commands.now c.args.seq c.in-Some.command.now within ∙ ap Some (sym c.in-Some.ensures.lookup.1) in
    let due : true ≡ is_some (due_by c.args.layout.now c.in-Some.command.now c.args.answer) = sym c.if-is_due.true ∙ c.is_due.ensures in
    lacks_there c.args.layout.now c.args.commands.now c.args.told.now c.args.seq c.args.answer c.in-Some.command.now true c.flag_at.result made due c.flag_at.ensures

pub returns-else-is_due : goal.returns-else-is_due
returns-else-is_due c =
    let within : c.args.seq < length c.args.commands.now = ltb-true c.args.seq (length c.args.commands.now) (sym c.in-Some.ensures.lookup.0) in
    let made : slice_get c.args.commands.now c.args.seq ≡ Some c.in-Some.command.now = slice_get-get_or c.args.commands.now c.args.seq c.in-Some.command.now within ∙ ap Some (sym c.in-Some.ensures.lookup.1) in
    lacks_not c.args.layout.now c.args.commands.now c.args.told.now c.args.seq c.args.answer c.in-Some.command.now c.is_due.result made c.is_due.ensures c.if-is_due.false

pub returns-in_default : goal.returns-in_default
returns-in_default c =
    lacks_made c.args.layout.now c.args.commands.now c.args.told.now c.args.seq c.args.answer
    (slice_get_past c.args.commands.now c.args.seq (ltb-false c.args.seq (length c.args.commands.now) (sym c.in_default.ensures.lookup.0)))
