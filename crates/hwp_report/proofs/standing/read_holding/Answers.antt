use Rattle.std.proofs.Common.{◌∙◌, sym}
use Rattle.hwp_report_words.proofs.Rests.{rest_of}
use Rattle.hwp_report.proofs.NoFrames.{no_holding}
use Rattle.hwp_report.proofs.standing.read_holding.Goals as goal

pub returns-in_default-read_masks : goal.returns-in_default-read_masks
returns-in_default-read_masks c = no_holding _ (λ masks fits e. c.in_default-read_masks.ensures masks fits (sym (rest_of (λ w. w.now) c.args.words.now 1) ∙ e))
