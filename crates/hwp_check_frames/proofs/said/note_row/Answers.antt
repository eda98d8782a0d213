use Rattle.std.proofs.Common.{◌∙◌, sym}
use Rattle.hwp_check_frames.proofs.SaidLaws.{event-noted, noted-more}
use Rattle.hwp_check_frames.proofs.said.note_row.Goals as goal

pub returns-in_ok-note-in-Event-clause-noted : goal.returns-in_ok-note-in-Event-clause-noted
returns-in_ok-note-in-Event-clause-noted c =
    λ f noted.
    rw c.in-Event.is (event-noted f _ _ c.args.cpu c.in-Event.event (sym c.is_result.ensures ∙ c.if-is_result.true)
    (noted-more f _ _ _ _ _ _ noted c.in_ok-note-in-Event.ensures.many c.in_ok-note-in-Event.ensures.rows))
