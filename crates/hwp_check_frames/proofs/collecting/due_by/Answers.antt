use Rattle.std.proofs.Common.{ℕ, ◌<◌, All, sym, subst, ◌∙◌}
use Rattle.std.proofs.lemmas.Result.{IfOk-weaker}
use Rattle.hwp_check_rules.specs.hwp_geom.declared.Frame.{Frame}
use Rattle.hwp_check_rules.specs.hwp_check_event_line.Firsts.{shown_lines}
use Rattle.hwp_check_frames.proofs.CollectLaws.{due-same}
use Rattle.hwp_check_frames.proofs.DueLaws.{notes-within}
use Rattle.hwp_check_frames.proofs.collecting.due_by.Goals as goal

pub due-requires : goal.due-requires
due-requires c =
    subst (λ (n : ℕ). All (λ (f : Frame). f.0 < n) c.as_slice.result.now) (sym c.requires)
    (subst (All (λ (f : Frame). f.0 < c.args.layout.now.frames)) (sym (c.as_slice.ensures.value ∙ c.in_ok-noted.ensures)) (notes-within c.args.layout.now (shown_lines c.args.lines.now)))

pub returns : goal.returns
returns c = IfOk-weaker c.due.result _ _ (λ frames. due-same c.args.on _ _ _ _ frames (c.as_slice.ensures.value ∙ c.in_ok-noted.ensures)) c.due.ensures
