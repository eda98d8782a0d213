use Rattle.std.proofs.Common.{◌+◌, ℕ, List, Some, length, sym, subst, ap, ◌∙◌}
use Rattle.std.proofs.lemmas.List.{length_push}
use Rattle.std.proofs.lemmas.Option.{slice_get-get_or}
use Rattle.hwp_check_event_line.specs.Reading.{copies_in}
use Rattle.hwp_check_events.specs.Copied.{AreCopied}
use Rattle.hwp_check_events.proofs.CopyLaws.{copied-more}
use Rattle.hwp_check_events.proofs.copied.copied_of.Goals as goal

pub loop-number-preserved : goal.loop-number-preserved
loop-number-preserved c = (
  ap (λ (l : List (List ℕ)). length l) c.in_ok-push.ensures.items ∙ length_push c.loop-number.lists.items c.in_ok-copied_by.field-0 ∙ ap (λ (n : ℕ). n + 1) c.loop-number.invariant.0,
  subst (AreCopied c.args.layout.now (copies_in c.args.copies.now) c.args.report.now c.args.cpu c.args.commands.now (c.loop-number.number + 1)) (sym c.in_ok-push.ensures.items)
      (copied-more c.args.layout.now (copies_in c.args.copies.now) c.args.report.now c.args.cpu c.args.commands.now c.loop-number.number c.loop-number.lists.items c.index-commands-number.result c.in_ok-copied_by.field-0 c.loop-number.invariant.0 c.loop-number.invariant.1
      (slice_get-get_or c.args.commands.now c.loop-number.number _ c.loop-number-test.true ∙ ap Some (sym c.index-commands-number.is)) c.in_ok-copied_by.ensures),
)
