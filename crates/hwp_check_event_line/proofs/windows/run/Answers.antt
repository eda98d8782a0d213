use Rattle.std.proofs.Common.{rules, ◌≡◌, ◌<◌, Some, true, length, slice_get, get_or, refl, sym}
use Rattle.std.proofs.lemmas.Bool.{ltb-true}
use Rattle.std.proofs.lemmas.Option.{slice_get_read}
use Rattle.hwp_check_event_line.specs.Nears.{says}
use Rattle.hwp_check_event_line.proofs.RunLaws.{run_read}
use Rattle.hwp_check_event_line.proofs.windows.run.Goals as goal

pub returns-then-says : goal.returns-then-says
returns-then-says c =
    let within : c.args.place < length c.args.marks.now = ltb-true c.args.place (length c.args.marks.now) (sym c.in-Some.ensures.lookup.0) in
    let is : c.in-Some.mark.now ≡ get_or c.args.marks.now c.args.place c.in-Some.mark.now = c.in-Some.ensures.lookup.1 in
    let there : slice_get c.args.marks.now c.args.place ≡ Some c.in-Some.mark.now = slice_get_read c.args.marks.now (length c.args.marks.now) c.args.place c.in-Some.mark.now refl within is in
    let said : says c.args.poisoned c.in-Some.mark.now ≡ true = search rules in
    run_read c.args.poisoned c.args.marks.now c.args.kept.now c.args.place c.in-Some.mark.now c.requires there said
