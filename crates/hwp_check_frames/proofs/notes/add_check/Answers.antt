use Rattle.std.proofs.Common.{◌++◌, List, sym, ap, ◌∙◌}
use Rattle.std.proofs.lemmas.List.{append-nil}
use Rattle.hwp_check_rules.specs.hwp_geom.declared.Frame.{Frame}
use Rattle.hwp_check_frames.proofs.NoteLoop.{check_ended}
use Rattle.hwp_check_frames.proofs.notes.add_check.Goals as goal

pub returns-then-has_end : goal.returns-then-has_end
returns-then-has_end c =
    sym (append-nil c.args.frames.now.items) ∙ ap (λ (l : List Frame). c.args.frames.now.items ++ l) (sym (check_ended c.args.layout.now c.args.lines.now (sym c.if-has_end.ensures)))
