use Rattle.std.proofs.Common.{[], ◌∷◌, codes, decimal, ◌∙◌, ap}
use Rattle.std.proofs.lemmas.Result.{on_ok_weaker}
use Rattle.hwp_report_text.specs.ReportText.{answer_words}
use Rattle.hwp_script_words.proofs.LineEnds.{front_put}
use Rattle.hwp_report_text.proofs.printing.answers.put_offlined.Goals as goal

pub returns : goal.returns
returns c =
    on_ok_weaker c.put_said.result
    (front_put (codes "offlined" ∷ decimal c.args.offlined.frame.0 ∷ []) _ _ _ _ _ _ _ (c.said_of.ensures ∙ ap answer_words c.answer.ensures)
    c.in_ok-put_word.ensures c.in_ok-put_words.ensures) c.put_said.ensures
