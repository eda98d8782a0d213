use Rattle.std.proofs.Common.{[], ◌∷◌, decimal, refl}
use Rattle.std.proofs.lemmas.Result.{on_ok_weaker}
use Rattle.hwp_script_words.proofs.LineEnds.{front_put}
use Rattle.hwp_report_text.proofs.printing.verbs.put_verb.Goals as goal

pub returns : goal.returns
returns c =
    on_ok_weaker c.put_rest.result
    (front_put (decimal c.args.who.cpu.0 ∷ decimal c.args.who.seq ∷ []) _ _ _ _ _ _ _ refl c.in_ok-put_word.ensures c.in_ok-put_words.ensures) c.put_rest.ensures
