use Rattle.std.proofs.Common.{◌∙◌, sym, ap, drop}
use Rattle.hwp_report_words.proofs.Rests.{rest_of}
use Rattle.hwp_report.proofs.NoLines.{no_frame}
use Rattle.hwp_report.proofs.frames.read_frame.Goals as goal

pub returns-in_default-read_standing : goal.returns-in_default-read_standing
returns-in_default-read_standing c = no_frame _ (λ n s small fits e. c.in_default-read_standing.ensures s fits (sym (rest_of (λ w. w.now) c.args.words.now 1) ∙ ap (drop 1) e))
