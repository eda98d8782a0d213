use Rattle.std.proofs.Common.{◌∷◌, [], refl}
use Rattle.std.proofs.lemmas.Slice.{pushed}
use Rattle.hwp_script_words.proofs.LineEnds.{rest_put}
use Rattle.hwp_script_words.proofs.printing.put_rest.Goals as goal

pub returns : goal.returns
returns c = rest_put _ _ _ c.args.words.now c.in_ok-put_words.ensures (pushed (10 ∷ []) refl c.in_ok-push_str.was c.push_str.ensures.bytes)
