use Rattle.std.proofs.Common.{◌≡◌, ◌+◌, IsTrue, slice_get, sym, ap, ◌∙◌, subst}
use Rattle.std.proofs.lemmas.Option.{slice_get-map}
use Rattle.hwp_check_event_line.specs.Firsts.{IsScannedTo, shown_lines}
use Rattle.hwp_check_event_line.specs.Scrubbing.{IsRightIn, course_of, reach_at}
use Rattle.hwp_check_event_line.specs.Scrubs.{comes_instead}
use Rattle.hwp_check_event_line.specs.declared.shown.Shown.{Shown}
use Rattle.hwp_check_event_line.proofs.ScrubScans.{reach-next, right-at}
use Rattle.hwp_check_event_line.proofs.LineScans.{scanned-all, scanned-next}
use Rattle.hwp_check_event_line.proofs.scrubs.scan.Goals as goal

pub loop-number-preserved : goal.loop-number-preserved
loop-number-preserved c =
    let next : c.after-reach.result ≡ reach_at c.args.report.now (course_of c.args.table.now c.args.range) c.args.start (shown_lines c.args.lines.now) (c.loop-number.number + 1) =
    reach-next c.args.report.now (course_of c.args.table.now c.args.range) c.args.start c.args.lines.now c.loop-number.number _ c.loop-number.reach c.after-reach.result c.turn-turn.result c.loop-number-test.true c.loop-number.invariant.1
    c.turn-turn.ensures.turn c.after-reach.ensures.after in
    let instead : c.comes_instead-instead.result ≡ comes_instead c.args.report.now (course_of c.args.table.now c.args.range) c.after-reach.result (slice_get (shown_lines c.args.lines.now) (c.loop-number.number + 1)) =
    c.comes_instead-instead.ensures ∙ ap (comes_instead c.args.report.now (course_of c.args.table.now c.args.range) c.after-reach.result) (sym (slice_get-map (λ (s : Shown). s.line) c.args.lines.now (c.loop-number.number + 1))) in (
      subst (IsScannedTo (IsRightIn c.args.script.now c.args.report.now c.args.who c.args.how (course_of c.args.table.now c.args.range) c.args.start (shown_lines c.args.lines.now)) (shown_lines c.args.lines.now) (c.loop-number.number + 1)) (sym c.first_of-wrong.ensures)
          (scanned-next (IsRightIn c.args.script.now c.args.report.now c.args.who c.args.how (course_of c.args.table.now c.args.range) c.args.start (shown_lines c.args.lines.now)) c.args.lines.now c.loop-number.number _ c.loop-number.wrong
          c.only-good.result c.loop-number-test.true
          (right-at c.args.script.now c.args.report.now c.args.who c.args.how (course_of c.args.table.now c.args.range) c.args.start (shown_lines c.args.lines.now) c.loop-number.number _ c.loop-number.reach c.after-reach.result c.turn-turn.result
          c.comes_instead-instead.result (IsTrue c.is_scrubbed_line-right.result) (IsTrue c.only-good.result) c.loop-number.invariant.1 c.turn-turn.ensures.turn c.is_scrubbed_line-right.ensures next instead c.only-good.ensures)
          c.loop-number.invariant.0),
      next,
      c.after-reach.ensures.sound,
    )

pub returns-clause-scanned : goal.returns-clause-scanned
returns-clause-scanned c =
    scanned-all (IsRightIn c.args.script.now c.args.report.now c.args.who c.args.how (course_of c.args.table.now c.args.range) c.args.start (shown_lines c.args.lines.now)) c.args.lines.now c.loop-number.number c.loop-number.wrong
    c.loop-number-test.false c.loop-number.invariant.0
