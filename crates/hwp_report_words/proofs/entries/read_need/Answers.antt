use Rattle.std.proofs.Common.{◌∙◌, sym}
use Rattle.hwp_report_words.proofs.Rests.{rest_of}
use Rattle.hwp_report_words.proofs.pages.NoLines.{need_rest}
use Rattle.hwp_report_words.proofs.entries.read_need.Goals as goal

pub returns-in_default-read_counts : goal.returns-in_default-read_counts
returns-in_default-read_counts c = λ x fits e. c.in_default-read_counts.ensures (x.1, x.2) (fits.1, fits.2) (sym (rest_of (λ w. w.now) c.args.words.now 2) ∙ need_rest _ x.0 _ e)
