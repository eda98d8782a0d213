use Rattle.std.proofs.Common.{refl}
use Rattle.std.proofs.lemmas.Result.{on_ok_weaker}
use Rattle.hwp_script_words.proofs.LineEnds.{line_put}
use Rattle.hwp_script_words.proofs.printing.put_line.Goals as goal

pub returns : goal.returns
returns c = on_ok_weaker c.put_rest.result (line_put _ _ _ _ _ _ refl c.in_ok-put_word.ensures) c.put_rest.ensures
