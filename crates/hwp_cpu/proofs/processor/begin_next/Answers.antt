use Rattle.std.proofs.Common.{◌≡◌, ◌<◌, length, Some, ap, sym, ◌∙◌, ltb-true}
use Rattle.std.specs.Prelude.{slice_get}
use Rattle.std.proofs.lemmas.Option.{slice_get-get_or}
use Rattle.hwp_cpu.proofs.ActingFits.{begins-copies, begins-denied, begins-fits}
use Rattle.hwp_cpu.proofs.processor.begin_next.Goals as goal

pub begin_next-requires-clause-of : goal.begin_next-requires-clause-of
begin_next-requires-clause-of c =
    let within : c.args.number < length c.args.commands.now = ltb-true c.args.number (length c.args.commands.now) (sym c.in-Some.ensures.lookup.0) in
    let there : slice_get c.args.commands.now c.args.number ≡ Some c.in-Some.command.now = slice_get-get_or c.args.commands.now c.args.number c.in-Some.command.now within ∙ ap Some (sym c.in-Some.ensures.lookup.1) in
    begins-fits c.args.layout.now c.args.cpu c.args.commands.now c.args.local.now.cows c.args.number c.in-Some.command.now c.acting-acting.result c.requires.commands there c.acting-acting.ensures

pub begin_next-requires-clause-copies : goal.begin_next-requires-clause-copies
begin_next-requires-clause-copies c =
    let within : c.args.number < length c.args.commands.now = ltb-true c.args.number (length c.args.commands.now) (sym c.in-Some.ensures.lookup.0) in
    let there : slice_get c.args.commands.now c.args.number ≡ Some c.in-Some.command.now = slice_get-get_or c.args.commands.now c.args.number c.in-Some.command.now within ∙ ap Some (sym c.in-Some.ensures.lookup.1) in
    begins-copies c.args.layout.now c.args.cpu c.args.commands.now c.args.local.now.cows c.args.number c.in-Some.command.now c.acting-acting.result c.copied_from-copies.result c.requires.commands there c.acting-acting.ensures c.copied_from-copies.ensures

pub begin_next-requires-clause-denied : goal.begin_next-requires-clause-denied
begin_next-requires-clause-denied c = begins-denied c.args.layout.now c.args.local.now.cows c.args.local.now.guests c.in-Some.command.now c.acting-acting.result c.admission-admit.result c.acting-acting.ensures c.admission-admit.ensures
