use Rattle.std.proofs.Common.{ℕ, ◌+◌, ◌∙◌, ap, sym, subst}
use Rattle.std.proofs.lemmas.Option.{slice_get-get_or}
use Rattle.hwp_top_report.proofs.ActLaws.{IsNoted, event-inside, frame-inside, noted-event, noted-frame}
use Rattle.hwp_top_report.proofs.notes.add_acts.Goals.{then-is_frame_next+in_ok-add, else-is_frame_next+in_ok-add-2}
use Rattle.hwp_top_report.proofs.notes.add_acts.Goals as goal

pub told_note-requires : goal.told_note-requires
told_note-requires c = record {
  named = c.requires.named c.loop.events _ (slice_get-get_or c.args.told.now c.loop.events _ (event-inside c.args.who c.args.told.now c.args.offlined.now c.args.notes.now.items c.loop.notes.items c.loop.notes.items c.loop.counter c.loop.events c.loop.frames c.loop.invariant c.loop-test.true
      (sym c.is_frame_next.ensures ∙ c.if-is_frame_next.false)));
}

pub loop-preserved : goal.loop-preserved
loop-preserved c = elim c.if-is_frame_next.branch [
  | then-is_frame_next+in_ok-add w ↦
      subst (λ (n : ℕ). IsNoted c.args.who c.args.told.now c.args.offlined.now c.args.notes.now.items c.if-is_frame_next.notes.items (c.loop.counter + 1) n c.if-is_frame_next.frames) (sym w.events-is)
      (subst (λ (n : ℕ). IsNoted c.args.who c.args.told.now c.args.offlined.now c.args.notes.now.items c.if-is_frame_next.notes.items (c.loop.counter + 1) c.loop.events n) (sym w.frames-is)
      (noted-frame c.args.who c.args.told.now c.args.offlined.now c.args.notes.now.items c.loop.notes.items c.if-is_frame_next.notes.items c.loop.counter c.loop.events c.loop.frames c.loop.invariant _ w.own_note.result
      (frame-inside c.args.who c.args.told.now c.args.offlined.now c.args.notes.now.items c.loop.notes.items c.loop.notes.items c.loop.counter c.loop.events c.loop.frames c.loop.invariant (sym c.is_frame_next.ensures ∙ w.if-is_frame_next.true))
      (sym c.is_frame_next.ensures ∙ w.if-is_frame_next.true) w.own_note.ensures (ap (λ v. v.items) w.notes-is ∙ w.in_ok-add.ensures)))
  | else-is_frame_next+in_ok-add-2 w ↦
      subst (λ (n : ℕ). IsNoted c.args.who c.args.told.now c.args.offlined.now c.args.notes.now.items c.if-is_frame_next.notes.items (c.loop.counter + 1) n c.if-is_frame_next.frames) (sym w.events-is)
      (subst (λ (n : ℕ). IsNoted c.args.who c.args.told.now c.args.offlined.now c.args.notes.now.items c.if-is_frame_next.notes.items (c.loop.counter + 1) (c.loop.events + 1) n) (sym w.frames-is)
      (noted-event c.args.who c.args.told.now c.args.offlined.now c.args.notes.now.items c.loop.notes.items c.if-is_frame_next.notes.items c.loop.counter c.loop.events c.loop.frames c.loop.invariant _ w.told_note.result
      (event-inside c.args.who c.args.told.now c.args.offlined.now c.args.notes.now.items c.loop.notes.items c.loop.notes.items c.loop.counter c.loop.events c.loop.frames c.loop.invariant c.loop-test.true (sym c.is_frame_next.ensures ∙ w.if-is_frame_next.false))
      (sym c.is_frame_next.ensures ∙ w.if-is_frame_next.false) w.told_note.ensures (ap (λ v. v.items) w.notes-is ∙ w.in_ok-add-2.ensures)))
]
