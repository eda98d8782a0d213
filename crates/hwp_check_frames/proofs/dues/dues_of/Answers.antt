use Rattle.std.proofs.Common.{◌<◌, List, Some, length, slice_get, sym, ap, ◌∙◌, arith}
use Rattle.std.proofs.lemmas.Option.{slice_get-get_or}
use Rattle.hwp_check_rules.specs.hwp_report_text.declared.Answer.{Answer}
use Rattle.hwp_check_rules.specs.hwp_law.Notes.{notes}
use Rattle.hwp_check_rules.specs.hwp_check_event_line.Firsts.{shown_lines}
use Rattle.hwp_check_frames.proofs.DueLaws.{limited, one-more, shown-at}
use Rattle.hwp_check_frames.proofs.dues.dues_of.Goals as goal

pub due_by-requires : goal.due_by-requires
due_by-requires c = c.loop-number.invariant.watching.many

pub go_on-on-requires : goal.go_on-on-requires
go_on-on-requires c =
    limited c.args.script.now c.args.cpu.0 c.loop-number.number c.args.commands.now _ c.requires.valid c.requires.of_script (slice_get-get_or c.args.commands.now c.loop-number.number _ c.loop-number-test.true ∙ ap Some (sym c.index-commands-number.is))

pub loop-number-preserved : goal.loop-number-preserved
loop-number-preserved c =
    let within : c.loop-number.number < length c.args.answers.now = (let e = c.requires.enough in let t = c.loop-number-test.true in omega arith) in
    let there : c.loop-number.number < length c.args.events.now = (let e = c.requires.events.size in let t = c.loop-number-test.true in omega arith) in
    one-more c.args.script.now.layout c.args.commands.now c.args.rows.now c.loop-number.number c.index-commands-number.result _ (slice_get-get_or c.args.commands.now c.loop-number.number _ c.loop-number-test.true ∙ ap Some (sym c.index-commands-number.is))
    (ap (λ (l : List Answer). slice_get l c.loop-number.number) (sym c.requires.answers) ∙ slice_get-get_or c.args.answers.now c.loop-number.number _ within)
    c.loop-number.dues.items _ c.loop-number.on _ c.loop-number.collector _ _ _ c.in_ok-frames.frames
    (ap (notes c.args.script.now.layout) (ap shown_lines c.as_slice-lines.ensures ∙ shown-at c.args.rows.now (length c.args.commands.now) c.loop-number.number c.args.events.now _ c.requires.events (slice_get-get_or c.args.events.now c.loop-number.number _ there ∙ ap Some (sym c.index-events-number.is))))
    c.loop-number.invariant c.in_ok-frames.ensures c.in_ok-push.ensures.items c.go_on-on.ensures
