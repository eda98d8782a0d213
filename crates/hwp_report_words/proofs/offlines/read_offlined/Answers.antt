use Rattle.std.proofs.Common.{◌∙◌, sym}
use Rattle.hwp_report_words.proofs.Rests.{rest_of}
use Rattle.hwp_report_words.proofs.NoLines.{no_offlined, no_result}
use Rattle.hwp_report_words.proofs.offlines.read_offlined.Goals as goal

pub returns-in_default-offline_result : goal.returns-in_default-offline_result
returns-in_default-offline_result c =
    let answer_is = c.in-Some-read_answer.ensures in
    no_offlined c.args.seq _ (λ result fits e. no_result c.in-Some-read_answer.answer answer_is.0 (λ r. c.in_default-offline_result.ensures r tt) _ answer_is.1 result fits
    (sym (rest_of (λ w. w.now) c.args.words.now 1) ∙ e))
