use Rattle.hwp_check_frames.proofs.SoftLaws.{more-is}
use Rattle.hwp_check_frames.specs.Softs.{soft_key}
use Rattle.hwp_check_frames.specs.Counts.{at_key}
use Rattle.std.proofs.Common.{ap, ◌∙◌, ℕ}
use Rattle.hwp_check_frames.proofs.records.is_said_more.Goals as goal

pub returns : goal.returns
returns c =
    more-is c.args.script.now c.args.report.now c.args.frame c.args.before.now c.args.who c.args.moved c.count.result c.soft_lines-lines.result
    (c.count.ensures ∙ ap (λ (q : (ℕ × ℕ) × ℕ). at_key c.args.softs.now q) c.soft_key.ensures ∙ c.requires.softs (soft_key c.args.who c.args.moved)) c.soft_lines-lines.ensures
