use Rattle.std.proofs.lemmas.Result.{on_ok_weaker}
use Rattle.hwp_script_words.proofs.LineEnds.{line_put}
use Rattle.hwp_report_text.proofs.printing.answers.put_answer.Goals as goal

pub returns : goal.returns
returns c = on_ok_weaker c.put_said.result (line_put _ _ _ _ _ _ c.said_of.ensures c.in_ok-put_word.ensures) c.put_said.ensures
