use Rattle.std.proofs.Common.{[], ◌∷◌}
use Rattle.std.proofs.lemmas.Bool.Decides.{Decides-eqb}
use Rattle.std.proofs.lemmas.Slice.Eq.{strip_suffix_is}
use Rattle.hwp_script_lines.proofs.turns.before_dot.Goals as goal

pub returns : goal.returns
returns c = strip_suffix_is Decides-eqb c.args.word.now (46 ∷ []) c.strip_suffix.result c.strip_suffix.ensures.cases
