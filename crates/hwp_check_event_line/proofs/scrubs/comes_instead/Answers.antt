use Rattle.std.proofs.Common.{◌≡◌, ◌<◌, ◌≤◌, Option, Some, length, option_map, slice_get, sym, ap, ◌∙◌, ltb-true, ltb-false}
use Rattle.std.proofs.lemmas.Option.{slice_get-get_or, slice_get_past}
use Rattle.hwp_check_event_line.specs.declared.shown.Shown.{Shown}
use Rattle.hwp_check_event_line.specs.Scrubs.{comes_instead, is_instead}
use Rattle.hwp_check_event_line.specs.Scrubbing.{course_of}
use Rattle.hwp_check_event_line.proofs.scrubs.comes_instead.Goals as goal

pub returns-in-Some : goal.returns-in-Some
returns-in-Some c =
    let within : c.args.number < length c.args.lines.now = ltb-true c.args.number (length c.args.lines.now) (sym c.in-Some.ensures.lookup.0) in
    let there : slice_get c.args.lines.now c.args.number ≡ Some c.in-Some.shown.now = slice_get-get_or c.args.lines.now c.args.number c.in-Some.shown.now within ∙ ap Some (sym c.in-Some.ensures.lookup.1) in
    c.is_instead.ensures ∙ ap is_instead c.turn.ensures.turn
    ∙ sym (ap (λ (o : Option Shown). comes_instead c.args.report.now (course_of c.args.table.now c.args.range) c.args.reach (option_map (λ (s : Shown). s.line) o)) there)

pub returns-in-None : goal.returns-in-None
returns-in-None c =
    let past : length c.args.lines.now ≤ c.args.number = ltb-false c.args.number (length c.args.lines.now) (sym c.in-None.ensures.lookup.0) in
    sym (ap (λ (o : Option Shown). comes_instead c.args.report.now (course_of c.args.table.now c.args.range) c.args.reach (option_map (λ (s : Shown). s.line) o)) (slice_get_past c.args.lines.now c.args.number past))
